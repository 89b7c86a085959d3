-- Reading a lent table: each way through the functions that read it, as a law on the definitions (the ruleset `tables`), and a list whose tail
-- was lent. Assumes nothing.
use mathlib.Core.Path.{◌≡◌, refl, sym, ap, ◌∙◌}
use mathlib.Core.Bool.{Bool, true, false}
use mathlib.Core.List.{List, ◌++◌, append-nil}
use Prim.Native.Nat.{ℕ, zero, suc, ◌+◌, ◌-◌, ◌*◌, ◌%◌, ◌<◌, ◌≤◌}
use native.Mathlib.Omega.{arith}
use lib.ListN.{get_or, length, take, drop, drop_of_length-le, length-drop}
use lib.Seq.{take_all}
use lib.Dec.{eqb}
use borrow.Author.Tests.{eq-eqb, ne_eqb, lt-ltb, le-ltb, eqb-true, eqb-false}
use Rattle.notation.specs.Notation.{pick, with}
use Rattle.semantics.specs.declared.Term.{Term}
use Rattle.semantics.specs.declared.Found.{Found}
use Rattle.semantics.specs.Records.{record_at}
use Rattle.semantics.specs.Terms.{blank, term_at, same_of, terms_in, at}
use Rattle.terms.specs.Search.{find_from, missing}

pub terms_length : (s : List ℕ) (n : ℕ) → length (terms_in s n) ≡ n
unfolding terms_in
terms_length s zero = refl
terms_length s (suc n) = ap suc (terms_length s n)

pub terms_same : (s y : List ℕ) (n : ℕ) → ((i : ℕ) → i < n → term_at y i ≡ term_at s i) → terms_in y n ≡ terms_in s n
unfolding terms_in
terms_same s y zero h = refl
terms_same s y (suc n) h = simp (terms_same s y n (λ i l. h i (omega arith)), h n (omega arith))

-- a number below the count, and one that is not
pub at_low : (s : List ℕ) (n i : ℕ) → i < n → {x : Term} → x ≡ term_at s i → x ≡ at (terms_in s n) i
unfolding terms_in at
at_low s zero i h e = absurd (omega arith)
at_low s (suc n) i h {x} e = rw (terms_length s n) (go (eqb i n) refl (λ l. at_low s n i l e))
  where
    go : (b : Bool) → eqb i n ≡ b → (i < n → x ≡ at (terms_in s n) i) → x ≡ pick b (term_at s n) (at (terms_in s n) i)
    go true q r = e ∙ ap (term_at s) (eqb-true _ _ q)
    go false q r = r (omega (arith, eqb-false i n q))

pub at_high : (s : List ℕ) (n i : ℕ) → n ≤ i → blank ≡ at (terms_in s n) i
unfolding terms_in at
at_high s zero i h = refl
at_high s (suc n) i h = rw (terms_length s n) (go (eqb i n) refl (at_high s n i (omega arith)))
  where
    go : (b : Bool) → eqb i n ≡ b → blank ≡ at (terms_in s n) i → blank ≡ pick b (term_at s n) (at (terms_in s n) i)
    go true q r = absurd (omega (arith, eqb-true i n q))
    go false q r = r

-- two terms, compared field by field
module _ (x y : Term) where
  pub same_1 : (x.a ≡ y.a → ⊥) → false ≡ same_of x y
  unfolding same_of
  same_1 h = simp (ne_eqb _ _ h)

  pub same_2 : x.a ≡ y.a → (x.kind ≡ y.kind → ⊥) → false ≡ same_of x y
  unfolding same_of
  same_2 a h = simp (eq-eqb _ _ a, ne_eqb _ _ h)

  pub same_3 : x.a ≡ y.a → x.kind ≡ y.kind → (x.op ≡ y.op → ⊥) → false ≡ same_of x y
  unfolding same_of
  same_3 a b h = simp (eq-eqb _ _ a, eq-eqb _ _ b, ne_eqb _ _ h)

  pub same_4 : x.a ≡ y.a → x.kind ≡ y.kind → x.op ≡ y.op → (x.b ≡ y.b → ⊥) → false ≡ same_of x y
  unfolding same_of
  same_4 a b c h = simp (eq-eqb _ _ a, eq-eqb _ _ b, eq-eqb _ _ c, ne_eqb _ _ h)

  pub same_5 : x.a ≡ y.a → x.kind ≡ y.kind → x.op ≡ y.op → x.b ≡ y.b → eqb x.c y.c ≡ same_of x y
  unfolding same_of
  same_5 a b c d = simp (eq-eqb _ _ a, eq-eqb _ _ b, eq-eqb _ _ c, eq-eqb _ _ d)

-- a search among the first n terms from i on
module _ (s : List ℕ) (t : Term) where
  abbrev found : ℕ → ℕ → Found
  found n i = find_from i (terms_in s n) t

  none_left : (n i : ℕ) → n ≤ i → found n i ≡ missing
  unfolding find_from terms_in
  none_left zero i h = refl
  none_left (suc n) i h = let g : n < i = omega arith in rw (terms_length s n, lt-ltb _ _ g)

  -- with term n among them, it may end there
  one_more : (n i : ℕ) → i ≤ n → found (suc n) i ≡ pick (found n i).is (found n i) (pick (same_of (term_at s n) t) (record { is = true; at = n }) missing)
  unfolding find_from terms_in
  one_more n i h = rw (terms_length s n, le-ltb _ _ h)

  -- it ends at term i or goes on from the next
  turn : (n i : ℕ) → i < n → {b : Bool} → b ≡ same_of (term_at s i) t → found n i ≡ pick b (record { is = true; at = i }) (found n (i + 1))
  turn zero i h e = absurd (omega arith)
  turn (suc n) i h {b} e = go (eqb i n) b refl e (λ l. turn n i l e)
    where
      go : (c b : Bool) → eqb i n ≡ c → b ≡ same_of (term_at s i) t → (i < n → found n i ≡ pick b (record { is = true; at = i }) (found n (i + 1)))
          → found (suc n) i ≡ pick b (record { is = true; at = i }) (found (suc n) (i + 1))
      go true b q e r =
          let w : i ≡ n = eqb-true i n q in
          rw (one_more n i (omega arith), none_left n i (omega arith), none_left (suc n) (i + 1) (omega arith), e, w)
      go false true q e r = rw (one_more n i (omega arith), r (omega (arith, eqb-false i n q)))
      go false false q e r =
          let l : i < n = omega (arith, eqb-false i n q) in
          rw (one_more n i (omega arith), one_more n (i + 1) (omega arith), r l)

low_byte : (k m n : ℕ) → k < 256 → k + 256 * m ≡ n → k ≡ n % 256
low_byte k m n l e = omega arith

-- such a search that is known to end at z
module _ (s : List ℕ) (t : Term) {z : Found} (n i : ℕ) (inv : find_from i (terms_in s n) t ≡ z) {w : ℕ} (ew : w ≡ n) where
  pub find_none : w ≤ i → missing ≡ z
  find_none h = sym (none_left s t n i (omega arith)) ∙ inv

  module _ (h : i < w) where
    turned : (b : Bool) → b ≡ same_of (term_at s i) t → pick b (record { is = true; at = i }) (find_from (i + 1) (terms_in s n) t) ≡ z
    turned b eb = sym (turn s t n i (omega arith) eb) ∙ inv

    module _ {x : Term} (ex : x ≡ term_at s i) {b : Bool} (eb : b ≡ same_of x t) where
      pub find_found : b ≡ true → record { is = true; at = i } ≡ z
      find_found g = turned true (sym g ∙ eb ∙ ap (λ (y : Term). same_of y t) ex)

      pub find_next : b ≡ false → find_from (i + 1) (terms_in s n) t ≡ z
      find_next g = turned false (sym g ∙ eb ∙ ap (λ (y : Term). same_of y t) ex)

    -- the low byte of its `a` is another
    pub find_past : (get_or s (8 * i + 2) 0 ≡ t.a % 256 → ⊥) → get_or s (8 * i + 2) 0 < 256 → find_from (i + 1) (terms_in s n) t ≡ z
    unfolding term_at record_at with
    find_past g l = turned false (same_1 (term_at s i) t (λ e. g (low_byte (get_or s (8 * i + 2) 0) (get_or s (8 * i + 2 + 1) 0) t.a l e)))

-- a part that runs to the end, as it is lent, and come back
module _ (s : List ℕ) (a : ℕ) where
  tail_length : length (drop a s) ≤ length s - a
  tail_length = simp length-drop (omega arith)

  pub tail_lent : take (length s - a) (drop a s) ≡ drop a s
  tail_lent = take_all (length s - a) (drop a s) tail_length

  pub tail_back : (y : List ℕ) → take a s ++ (y ++ drop (length s - a) (drop a s)) ≡ take a s ++ y
  tail_back y = ap (λ (l : List ℕ). take a s ++ l) (ap (λ (l : List ℕ). y ++ l) (drop_of_length-le (drop a s) tail_length) ∙ append-nil y)

pub ruleset tables = (same_1, same_2, same_3, same_4, same_5, at_low, at_high)
