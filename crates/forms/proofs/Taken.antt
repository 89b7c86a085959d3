-- What is read from the byte forms, one element at a time. Assumes nothing.
use mathlib.Core.Path.{◌≡◌, refl, sym, subst, ◌∙◌}
use mathlib.Core.Bool.{Bool, true, false, ◌&&◌}
use mathlib.Core.List.{List}
use Prim.Native.Nat.{ℕ, zero, suc, ◌+◌, ◌*◌, ◌<◌, ◌≤◌}
use native.Mathlib.Omega.{arith}
use lib.ListN.{get_or, take, length}
use lib.Seq.{take_all, take-suc}
use denote.Param.Members.{Mut, Called}
use lib.Dec.{eqb}
use borrow.Author.Tests.{eqb-true, eqb-false}
use Rattle.std.proofs.Math.Bool.{and_assoc}
use Rattle.std.specs.Array.{IsFromFnResultFrom, IsFromFnResult}
use Rattle.std.specs.List.{list_all, range_with_len}
use Rattle.notation.specs.Notation.{pick, when◌then◌else◌, up_to}
use Rattle.semantics.specs.Print.{input_size, input_zeroed}
use Rattle.forms.specs.Forms.{each_below}

-- ---- an array of what a function gives for each number below another

-- elements that are read one after another
pub each_takes : {A : Type 0} (f : ℕ → A) (l : List A) (d : A) (n : ℕ) → n ≤ length l → ((i : ℕ) → i < n → f i ≡ get_or l i d) → each_below f n ≡ take n l
unfolding each_below
each_takes f l d zero h e = refl
each_takes f l d (suc n) h e = rw (each_takes f l d n (omega arith) (λ i k. e i (omega arith)), e n (omega arith)) (sym (take-suc l n d h))

pub each_made : {A : Type 0} (f : ℕ → A) (l : List A) (d : A) (n : ℕ) → length l ≡ n → ((i : ℕ) → i < n → get_or l i d ≡ f i) → l ≡ each_below f n
each_made f l d n h e = sym (each_takes f l d n (omega arith) (λ i k. sym (e i k)) ∙ take_all n l (omega arith))

-- what calls at each number gave, of a function that they leave as it was
module _ {F A : Type 0} {g : Mut F (ℕ × Unit {0}) A} (f : ℕ → A) (p : F) (l : List A) (d : A) (same : (i : ℕ) (y : A) (q : F) → Called g p (i, tt) y q → (q ≡ p) × (y ≡ f i)) where
  gave : (i n : ℕ) (r : F) → r ≡ p → IsFromFnResultFrom g r l i n → (k : ℕ) → i ≤ k → k < i + n → get_or l k d ≡ f k
  gave i zero r e h k low high = absurd (omega arith)
  gave i (suc n) r e (q, y, is, called, rest) k low high =
      let P : F → Type 0 = λ r. Called g r (i, tt) y q in
      let now = same i y q (subst P e called) in
      elim (eqb k i) as (λ b. eqb k i ≡ b → get_or l k d ≡ f k) [
        | true ↦ λ z. let at : k ≡ i = eqb-true k i z in rw at (is.1 d ∙ now.1)
        | false ↦ λ z. let above = eqb-false k i z in gave (i + 1) n q now.0 rest k (omega arith) (omega arith)
      ] refl

  pub from_fn_gave : (n : ℕ) → IsFromFnResult g p l n → l ≡ each_below f n
  from_fn_gave n h = each_made f l d n h.long (λ i k. gave 0 n p refl h.each i (omega arith) (omega arith))

-- ---- every number below another
module _ (f : ℕ → Bool) where
  all_more : (a n : ℕ) → list_all f (range_with_len a (suc n)) ≡ (list_all f (range_with_len a n) && f (a + n))
  all_more a zero = let e : a + zero ≡ a = omega arith in rw e (go (f a))
    where
      go : (b : Bool) → (b && true) ≡ b
      go true = refl
      go false = refl
  all_more a (suc n) =
      let e : a + suc n ≡ a + 1 + n = omega arith in
      rw (e, all_more (a + 1) n, and_assoc (f a) (list_all f (range_with_len (a + 1) n)) (f (a + 1 + n)))

  pub all_below : (n : ℕ) → list_all f (range_with_len 0 n) ≡ up_to n f
  unfolding up_to when◌then◌else◌
  all_below zero = refl
  all_below (suc n) = let e : 0 + n ≡ n = omega arith in all_more 0 n ∙ rw (e, all_below n) (go (up_to n f))
    where
      go : (b : Bool) → (b && f n) ≡ pick b (f n) false
      go true = refl
      go false = refl

-- ---- the zeros after the inputs' kinds
module _ (s : List ℕ) where
  pub zero_taken : (i : ℕ) {b : ℕ} → b ≡ get_or s (input_size * i + 1) 0 → eqb b 0 ≡ input_zeroed s i
  zero_taken i e = rw e
