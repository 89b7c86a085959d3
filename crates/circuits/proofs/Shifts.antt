-- The barrel shifts, at any width and any count of amount bits. Assumes nothing.
use mathlib.Core.Path.{◌≡◌, refl, sym, ap, ◌∙◌, subst}
use mathlib.Core.Bool.{Bool, true, false, cond}
use mathlib.Core.List.{List, [], ◌∷◌, ◌++◌}
use Prim.Native.Nat.{ℕ, zero, suc, ◌+◌, ◌*◌, ◌/◌, ◌^◌}
use native.Mathlib.Omega.{arith}
use native.Mathlib.Nat.{pow-suc, mul-zero, div-one, div-div-eq-div-mul}
use lib.ListN.{length, length-append}
use lib.Pow.{pow-add, shr-shr}
use Rattle.operators.specs.Operators.{bit_of}
use Rattle.circuits.specs.Gates.{Literal, literal_true}
use Rattle.circuits.specs.Circuits.{low, shifted_up, down, shifted_down, chosen, barrel}
use Rattle.circuits.proofs.Gates.{Holds, holds_l, holds_r}
use Rattle.circuits.proofs.Sums.{number, Like}
use Rattle.circuits.proofs.Products.{top, length_low, number_low}

pub length_ups : {A : Type 0} (z : A) (d : ℕ) (xs : List A) → length (shifted_up z d xs) ≡ length xs
unfolding shifted_up
length_ups z zero xs = refl
length_ups z (suc d) xs = length_low z (shifted_up z d xs) ∙ length_ups z d xs

length_down : {A : Type 0} (z : A) (xs : List A) → length (down z xs) ≡ length xs
length_down z [] = refl
length_down z (x ∷ xs) = length-append xs (z ∷ []) ∙ omega arith

pub length_downs : {A : Type 0} (z : A) (d : ℕ) (xs : List A) → length (shifted_down z d xs) ≡ length xs
unfolding shifted_down
length_downs z zero xs = refl
length_downs z (suc d) xs = length_down z (shifted_down z d xs) ∙ length_downs z d xs

-- what each has, and what is put in, each has after a shift
abbrev pub Each : {A : Type 0} → (A → Type 0) → List A → Type 0
Each P [] = Unit {0}
Each P (x ∷ xs) = P x × Each P xs

module _ {A : Type 0} (P : A → Type 0) (z : A) (put : P z) where
  each_low : (x : A) (xs : List A) → Each P (x ∷ xs) → Each P (low (x ∷ xs))
  each_low x [] h = tt
  each_low x (y ∷ xs) h = (h.0, each_low y xs h.1)

  pub each_up : (d : ℕ) (xs : List A) → Each P xs → Each P (shifted_up z d xs)
  unfolding shifted_up
  each_up zero xs h = h
  each_up (suc d) xs h = each_low z (shifted_up z d xs) (put, each_up d xs h)

  each_last : (xs : List A) → Each P xs → Each P (xs ++ (z ∷ []))
  each_last [] h = (put, tt)
  each_last (x ∷ xs) h = (h.0, each_last xs h.1)

  each_down : (xs : List A) → Each P xs → Each P (down z xs)
  each_down [] h = tt
  each_down (x ∷ xs) h = each_last xs h.1

  pub each_downs : (d : ℕ) (xs : List A) → Each P xs → Each P (shifted_down z d xs)
  unfolding shifted_down
  each_downs zero xs h = h
  each_downs (suc d) xs h = each_down (shifted_down z d xs) (each_downs d xs h)

-- of numbers: shifted twice
like_twice : (w x a b p q : ℕ) → Like w a (x * 2 ^ p) → Like w b (a * 2 ^ q) → Like w b (x * 2 ^ (p + q))
like_twice w x a b p q l m = (m.0 + l.0 * 2 ^ q, rw (pow-add 2 p q) (go (2 ^ w) (2 ^ p) (2 ^ q) l.1 m.1))
  where
    go : (W P Q : ℕ) → a + W * l.0 ≡ x * P → b + W * m.0 ≡ a * Q → b + W * (m.0 + l.0 * Q) ≡ x * (P * Q)
    go W P Q e f = omega (arith, ap (λ t. t * Q) e, f)

module _ {W : Type 0} (σ : W → Bool) (z : Literal W) (o : literal_true σ z ≡ false) where
  pub ups_is : (d : ℕ) (xs : List (Literal W)) → Like (length xs) (number σ (shifted_up z d xs)) (number σ xs * 2 ^ d)
  unfolding shifted_up
  ups_is zero xs = (0, omega arith)
  ups_is (suc d) xs =
      let r = number_low σ z (shifted_up z d xs) in
      let s = rw (length_ups z d xs, o) at r in
      like_step (length xs) (number σ xs) (number σ (shifted_up z d xs)) (number σ (low (z ∷ shifted_up z d xs))) (bit_of (literal_true σ (top z (shifted_up z d xs)))) d (ups_is d xs) (omega (arith, s))
    where
      like_step : (w x a b t d : ℕ) → Like w a (x * 2 ^ d) → b + 2 ^ w * t ≡ 2 * a → Like w b (x * 2 ^ suc d)
      like_step w x a b t d l e = (t + 2 * l.0, rw (pow-suc 2 d) (go (2 ^ w) (2 ^ d) l.1 e))
        where
          go : (U D : ℕ) → a + U * l.0 ≡ x * D → b + U * t ≡ 2 * a → b + U * (t + 2 * l.0) ≡ x * (D * 2)
          go U D e f = omega arith

  number_snoc : (xs : List (Literal W)) → number σ (xs ++ (z ∷ [])) ≡ number σ xs
  number_snoc [] = rw o
  number_snoc (x ∷ xs) = rw (number_snoc xs)

  down_is : (xs : List (Literal W)) → number σ (down z xs) ≡ number σ xs / 2
  down_is [] = refl
  down_is (x ∷ xs) = number_snoc xs ∙ go (literal_true σ x)
    where
      go : (b : Bool) → number σ xs ≡ (bit_of b + 2 * number σ xs) / 2
      go true = omega arith
      go false = omega arith

  pub downs_is : (d : ℕ) (xs : List (Literal W)) → number σ (shifted_down z d xs) ≡ number σ xs / 2 ^ d
  unfolding shifted_down
  downs_is zero xs = sym (div-one (number σ xs))
  downs_is (suc d) xs = down_is (shifted_down z d xs) ∙ rw (downs_is d xs, pow-suc 2 d) (div-div-eq-div-mul (number σ xs) (2 ^ d) 2)

module _ {W : Type 0} (h : ℕ → W) where
  length_chosen : (k : ℕ) (s : Literal W) (xs ys : List (Literal W)) → length xs ≡ length ys → length (chosen h k s xs ys).outs ≡ length ys
  unfolding chosen
  length_chosen k s [] [] e = refl
  length_chosen k s [] (y ∷ ys) e = absurd (omega arith)
  length_chosen k s (x ∷ xs) [] e = absurd (omega arith)
  length_chosen k s (x ∷ xs) (y ∷ ys) e = ap suc (length_chosen (1 + k) s xs ys (omega arith))

  pub chosen_is : (σ : W → Bool) (k : ℕ) (s : Literal W) (xs ys : List (Literal W)) → length xs ≡ length ys → Holds σ (chosen h k s xs ys).gates
      → number σ (chosen h k s xs ys).outs ≡ cond (literal_true σ s) (number σ xs) (number σ ys)
  unfolding chosen
  chosen_is σ k s [] [] e g = go (literal_true σ s)
    where
      go : (b : Bool) → zero ≡ cond b zero zero
      go true = refl
      go false = refl
  chosen_is σ k s [] (y ∷ ys) e g = absurd (omega arith)
  chosen_is σ k s (x ∷ xs) [] e g = absurd (omega arith)
  chosen_is σ k s (x ∷ xs) (y ∷ ys) e g =
      rw (g.0, chosen_is σ (1 + k) s xs ys (omega arith) g.1) (go (literal_true σ s))
    where
      go : (b : Bool) → bit_of (cond b (literal_true σ x) (literal_true σ y)) + 2 * cond b (number σ xs) (number σ ys) ≡ cond b (number σ (x ∷ xs)) (number σ (y ∷ ys))
      go true = refl
      go false = refl

  pub length_left : (z : Literal W) (k d : ℕ) (xs ss : List (Literal W)) → length (barrel h shifted_up z k d xs ss).outs ≡ length xs
  unfolding barrel
  length_left z k d xs [] = refl
  length_left z k d xs (s ∷ ss) =
      let m = chosen h k s (shifted_up z d xs) xs in
      length_left z m.next (d + d) m.outs ss ∙ length_chosen k s (shifted_up z d xs) xs (length_ups z d xs)

  pub length_right : (z : Literal W) (k d : ℕ) (xs ss : List (Literal W)) → length (barrel h shifted_down z k d xs ss).outs ≡ length xs
  unfolding barrel
  length_right z k d xs [] = refl
  length_right z k d xs (s ∷ ss) =
      let m = chosen h k s (shifted_down z d xs) xs in
      length_right z m.next (d + d) m.outs ss ∙ length_chosen k s (shifted_down z d xs) xs (length_downs z d xs)

  pub left_is : (σ : W → Bool) (z : Literal W) (k d : ℕ) (xs ss : List (Literal W)) → literal_true σ z ≡ false → Holds σ (barrel h shifted_up z k d xs ss).gates
      → Like (length xs) (number σ (barrel h shifted_up z k d xs ss).outs) (number σ xs * 2 ^ (d * number σ ss))
  unfolding barrel
  left_is σ z k d xs [] o g = (0, rw (mul-zero d) (omega arith))
  left_is σ z k d xs (s ∷ ss) o g =
      let m = chosen h k s (shifted_up z d xs) xs in
      let r = barrel h shifted_up z m.next (d + d) m.outs ss in
      let lm : length m.outs ≡ length xs = length_chosen k s (shifted_up z d xs) xs (length_ups z d xs) in
      let ih = rw lm at (left_is σ z m.next (d + d) m.outs ss o (holds_r σ m.gates r.gates g)) in
      let me = chosen_is σ k s (shifted_up z d xs) xs (length_ups z d xs) (holds_l σ m.gates r.gates g) in
      stage (length xs) (number σ xs) (number σ (shifted_up z d xs)) (number σ m.outs) (number σ r.outs) d (number σ ss) (literal_true σ s) me (ups_is σ z o d xs) ih
    where
      stage : (w x u m r d n : ℕ) (s : Bool) → m ≡ cond s u x → Like w u (x * 2 ^ d) → Like w r (m * 2 ^ ((d + d) * n)) → Like w r (x * 2 ^ (d * (bit_of s + 2 * n)))
      stage w x u m r d n true e l i = subst (λ t. Like w r (x * 2 ^ t)) (omega arith) (like_twice w x u r d ((d + d) * n) l (rw e at i))
      stage w x u m r d n false e l i = subst (λ t. Like w r (x * 2 ^ t)) (omega arith) (rw e at i)

  pub right_is : (σ : W → Bool) (z : Literal W) (k d : ℕ) (xs ss : List (Literal W)) → literal_true σ z ≡ false → Holds σ (barrel h shifted_down z k d xs ss).gates
      → number σ (barrel h shifted_down z k d xs ss).outs ≡ number σ xs / 2 ^ (d * number σ ss)
  unfolding barrel
  right_is σ z k d xs [] o g = rw (mul-zero d) (sym (div-one (number σ xs)))
  right_is σ z k d xs (s ∷ ss) o g =
      let m = chosen h k s (shifted_down z d xs) xs in
      let r = barrel h shifted_down z m.next (d + d) m.outs ss in
      let ih = right_is σ z m.next (d + d) m.outs ss o (holds_r σ m.gates r.gates g) in
      let me = chosen_is σ k s (shifted_down z d xs) xs (length_downs z d xs) (holds_l σ m.gates r.gates g) in
      stage (number σ xs) (number σ (shifted_down z d xs)) (number σ m.outs) (number σ r.outs) d (number σ ss) (literal_true σ s) me (downs_is σ z o d xs) ih
    where
      stage : (x u m r d n : ℕ) (s : Bool) → m ≡ cond s u x → u ≡ x / 2 ^ d → r ≡ m / 2 ^ ((d + d) * n) → r ≡ x / 2 ^ (d * (bit_of s + 2 * n))
      stage x u m r d n true e l i = i ∙ rw (e, l) (shr-shr x d ((d + d) * n) ∙ ap (λ t. x / 2 ^ t) (omega arith))
      stage x u m r d n false e l i = i ∙ rw e (ap (λ t. x / 2 ^ t) (omega arith))
