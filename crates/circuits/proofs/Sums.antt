-- Words as numbers; sums, differences and less. Each law says what the result is under any values of the wires that meet the gates'
-- equations: none speaks of freshness. Assumes nothing.
use mathlib.Core.Path.{◌≡◌, refl, sym, ap, ◌∙◌}
use mathlib.Core.Bool.{Bool, true, false, not, ◌&&◌, cond, beq}
use mathlib.Core.List.{List, [], ◌∷◌, map}
use Prim.Native.Nat.{ℕ, zero, suc, ◌+◌, ◌*◌, ◌%◌, ◌^◌, ◌≤◌, ◌<◌}
use native.Mathlib.Omega.{arith}
use native.Mathlib.Nat.{pow-suc, mul-zero, mul-one, mod-eq_of_lt, add-mul-mod_self_left}
use lib.ListN.{length}
use lib.Dec.{ltb}
use borrow.Author.Tests.{lt-ltb, le-ltb}
use Rattle.operators.specs.Operators.{bit_of}
use Rattle.circuits.specs.Gates.{Literal, pos, flip, literal_true, majority, value_of}
use Rattle.circuits.specs.Circuits.{add_with, add, carries, sums}
use Rattle.circuits.specs.Templates.{literals}
use Rattle.circuits.proofs.Gates.{Holds, flip_true}

-- the number of a word
abbrev pub number : {W : Type 0} → (W → Bool) → List (Literal W) → ℕ
number σ [] = 0
number σ (l ∷ ls) = bit_of (literal_true σ l) + 2 * number σ ls

pub bit_le : (b : Bool) → bit_of b ≤ 1
bit_le true = omega arith
bit_le false = omega arith

pub double : (n b : ℕ) → 2 ^ suc n * b ≡ 2 * (2 ^ n * b)
double n b = rw (pow-suc 2 n) (omega arith)

-- a full adder, as a chain of two differences and a choice
full : (x y c : Bool) → bit_of (not (beq (not (beq x y)) c)) + 2 * bit_of (cond (not (beq x y)) c y) ≡ bit_of x + bit_of y + bit_of c
full true true true = refl
full true true false = refl
full true false true = refl
full true false false = refl
full false true true = refl
full false true false = refl
full false false true = refl
full false false false = refl

half : (x y : Bool) → bit_of (not (beq x y)) + 2 * bit_of (x && y) ≡ bit_of x + bit_of y
half true true = refl
half true false = refl
half false true = refl
half false false = refl

majority_sum : (x y c : Bool) → (s : ℕ) × (s ≤ 1) × (s + 2 * bit_of (value_of majority x y c) ≡ bit_of x + bit_of y + bit_of c)
majority_sum true true true = (1, omega arith, refl)
majority_sum true true false = (0, omega arith, refl)
majority_sum true false true = (0, omega arith, refl)
majority_sum true false false = (1, omega arith, refl)
majority_sum false true true = (0, omega arith, refl)
majority_sum false true false = (1, omega arith, refl)
majority_sum false false true = (1, omega arith, refl)
majority_sum false false false = (0, omega arith, refl)

bit_not : (b : Bool) → bit_of (not b) + bit_of b ≡ 1
bit_not true = refl
bit_not false = refl

-- n is m, or m less some times 2 ^ w
abbrev pub Like : ℕ → ℕ → ℕ → Type 0
Like w n m = (q : ℕ) × (n + 2 ^ w * q ≡ m)

pub like_mod : (w n m : ℕ) → n < 2 ^ w → Like w n m → n ≡ m % 2 ^ w
like_mod w n m h l = sym (rw (← l.1) (add-mul-mod_self_left n (2 ^ w) l.0 ∙ mod-eq_of_lt h))

module _ {W : Type 0} (σ : W → Bool) where
  pub number_lt : (xs : List (Literal W)) → number σ xs < 2 ^ length xs
  number_lt [] = omega arith
  number_lt (x ∷ xs) = omega (arith, number_lt xs, bit_le (literal_true σ x), pow-suc 2 (length xs))

  pub number_flip : (xs : List (Literal W)) → number σ (map flip xs) + number σ xs + 1 ≡ 2 ^ length xs
  number_flip [] = refl
  number_flip (x ∷ xs) = omega (arith, number_flip xs, bit_not (literal_true σ x), ap bit_of (flip_true σ x), pow-suc 2 (length xs))

pub length_flip : {W : Type 0} (xs : List (Literal W)) → length (map flip xs) ≡ length xs
length_flip [] = refl
length_flip (x ∷ xs) = ap suc (length_flip xs)

pub length_literals : {W : Type 0} (f : ℕ → W) (s n : ℕ) → length (literals f s n) ≡ n
length_literals f s zero = refl
length_literals f s (suc n) = ap suc (length_literals f (suc s) n)

module _ {W : Type 0} (h : ℕ → W) where
  pub length_add_with : (k : ℕ) (c : Literal W) (xs ys : List (Literal W)) → length xs ≡ length ys → length (add_with h k c xs ys).outs ≡ length xs
  unfolding add_with
  length_add_with k c [] ys e = refl
  length_add_with k c (x ∷ xs) [] e = absurd (omega arith)
  length_add_with k c (x ∷ xs) (y ∷ ys) e = ap suc (length_add_with (3 + k) (pos (h (2 + k))) xs ys (omega arith))

  pub length_add : (k : ℕ) (z : Literal W) (xs ys : List (Literal W)) → length xs ≡ length ys → length (add h k z xs ys).outs ≡ length xs
  unfolding add
  length_add k z [] ys e = refl
  length_add k z (x ∷ xs) [] e = absurd (omega arith)
  length_add k z (x ∷ xs) (y ∷ ys) e = ap suc (length_add_with (2 + k) (pos (h (1 + k))) xs ys (omega arith))

  module _ (σ : W → Bool) where
    pub add_with_is : (k : ℕ) (c : Literal W) (xs ys : List (Literal W)) → length xs ≡ length ys → Holds σ (add_with h k c xs ys).gates
        → number σ (add_with h k c xs ys).outs + 2 ^ length xs * bit_of (literal_true σ (add_with h k c xs ys).carry) ≡ number σ xs + number σ ys + bit_of (literal_true σ c)
    unfolding add_with
    add_with_is k c [] [] e g = omega arith
    add_with_is k c [] (y ∷ ys) e g = absurd (omega arith)
    add_with_is k c (x ∷ xs) [] e g = absurd (omega arith)
    add_with_is k c (x ∷ xs) (y ∷ ys) e g =
        let ih = add_with_is (3 + k) (pos (h (2 + k))) xs ys (omega arith) g.1.1.1 in
        let t = g.0 in
        let s : σ (h (1 + k)) ≡ not (beq (not (beq (literal_true σ x) (literal_true σ y))) (literal_true σ c)) = rw t at g.1.0 in
        let m : σ (h (2 + k)) ≡ cond (not (beq (literal_true σ x) (literal_true σ y))) (literal_true σ c) (literal_true σ y) = rw t at g.1.1.0 in
        omega (arith, ih, full (literal_true σ x) (literal_true σ y) (literal_true σ c), ap bit_of s, ap bit_of m, double (length xs) (bit_of (literal_true σ (add_with h (3 + k) (pos (h (2 + k))) xs ys).carry)))

    pub add_is : (k : ℕ) (z : Literal W) (xs ys : List (Literal W)) → literal_true σ z ≡ false → length xs ≡ length ys → Holds σ (add h k z xs ys).gates
        → number σ (add h k z xs ys).outs + 2 ^ length xs * bit_of (literal_true σ (add h k z xs ys).carry) ≡ number σ xs + number σ ys
    unfolding add
    add_is k z [] [] o e g = rw o
    add_is k z [] (y ∷ ys) o e g = absurd (omega arith)
    add_is k z (x ∷ xs) [] o e g = absurd (omega arith)
    add_is k z (x ∷ xs) (y ∷ ys) o e g =
        let ih = add_with_is (2 + k) (pos (h (1 + k))) xs ys (omega arith) g.1.1 in
        omega (arith, ih, half (literal_true σ x) (literal_true σ y), ap bit_of g.0, ap bit_of g.1.0, double (length xs) (bit_of (literal_true σ (add_with h (2 + k) (pos (h (1 + k))) xs ys).carry)))

    -- the carries say whether the sum reaches 2 ^ w
    carries_is : (k : ℕ) (c : Literal W) (xs ys : List (Literal W)) → length xs ≡ length ys → Holds σ (carries h k c xs ys).gates
        → (s : ℕ) × (s < 2 ^ length xs) × (s + 2 ^ length xs * bit_of (literal_true σ (carries h k c xs ys).carry) ≡ number σ xs + number σ ys + bit_of (literal_true σ c))
    unfolding carries
    carries_is k c [] [] e g = (0, omega arith, omega arith)
    carries_is k c [] (y ∷ ys) e g = absurd (omega arith)
    carries_is k c (x ∷ xs) [] e g = absurd (omega arith)
    carries_is k c (x ∷ xs) (y ∷ ys) e g =
        let ih = carries_is (1 + k) (pos (h k)) xs ys (omega arith) g.1 in
        let m = majority_sum (literal_true σ x) (literal_true σ y) (literal_true σ c) in
        let lo = m.0 in (
          lo + 2 * ih.0,
          omega (arith, m.1, pow-suc 2 (length xs), ih.1),
          omega (arith, ih.2, m.2, ap bit_of g.0, double (length xs) (bit_of (literal_true σ (carries h (1 + k) (pos (h k)) xs ys).carry))),
        )

    pub less_is : (k : ℕ) (u : Literal W) (xs ys : List (Literal W)) → literal_true σ u ≡ true → length xs ≡ length ys
        → Holds σ (carries h k u xs (map flip ys)).gates → not (literal_true σ (carries h k u xs (map flip ys)).carry) ≡ ltb (number σ xs) (number σ ys)
    less_is k u xs ys o e g = go (literal_true σ (carries h k u xs (map flip ys)).carry) refl
      where
        r : (s : ℕ) × (s < 2 ^ length xs) × (s + 2 ^ length xs * bit_of (literal_true σ (carries h k u xs (map flip ys)).carry) ≡ number σ xs + number σ (map flip ys) + bit_of (literal_true σ u))
        r = carries_is k u xs (map flip ys) (omega (arith, length_flip ys, e)) g

        go : (b : Bool) → literal_true σ (carries h k u xs (map flip ys)).carry ≡ b → not b ≡ ltb (number σ xs) (number σ ys)
        go true q = sym (le-ltb (number σ xs) (number σ ys) (let t = rw (q, o) at r.2 in omega (arith, t, mul-one (2 ^ length xs), number_flip σ ys, ap (λ n. 2 ^ n) e)))
        go false q = sym (lt-ltb (number σ xs) (number σ ys) (let t = rw (q, o) at r.2 in omega (arith, t, mul-zero (2 ^ length xs), r.1, number_flip σ ys, ap (λ n. 2 ^ n) e)))

-- ---- the last sum
module _ {W : Type 0} (h o : ℕ → W) (g : Literal W) (σ : W → Bool) where
  pub sums_is : (s k : ℕ) (c : Literal W) (xs ys : List (Literal W)) (n : ℕ) → literal_true σ g ≡ true → length xs ≡ n → length ys ≡ n → Holds σ (sums h o g s k c xs ys)
      → Like n (number σ (literals o s n)) (number σ xs + number σ ys + bit_of (literal_true σ c))
  unfolding sums
  sums_is s k c [] [] zero t e f H = (bit_of (literal_true σ c), omega arith)
  sums_is s k c [] ys (suc n) t e f H = absurd (omega arith)
  sums_is s k c (x ∷ xs) ys zero t e f H = absurd (omega arith)
  sums_is s k c [] (y ∷ ys) zero t e f H = absurd (omega arith)
  sums_is s k c (x ∷ xs) [] (suc n) t e f H = absurd (omega arith)
  sums_is s k c (x ∷ xs) (y ∷ ys) (suc n) t e f H =
      let ih = sums_is (suc s) (2 + k) (pos (h (1 + k))) xs ys n t (omega arith) (omega arith) H.1.1.1 in
      let a = H.0 in
      let b : σ (o s) ≡ not (beq (not (beq (literal_true σ x) (literal_true σ y))) (literal_true σ c)) = rw (a, t) at H.1.0 in
      let m : σ (h (1 + k)) ≡ cond (not (beq (literal_true σ x) (literal_true σ y))) (literal_true σ c) (literal_true σ y) = rw a at H.1.1.0 in
      (ih.0, omega (arith, ih.1, full (literal_true σ x) (literal_true σ y) (literal_true σ c), ap bit_of b, ap bit_of m, double n ih.0))

  pub sums_off : (s k : ℕ) (c : Literal W) (xs ys : List (Literal W)) (n : ℕ) → literal_true σ g ≡ false → length xs ≡ n → length ys ≡ n → Holds σ (sums h o g s k c xs ys)
      → number σ (literals o s n) ≡ 0
  unfolding sums
  sums_off s k c [] [] zero t e f H = refl
  sums_off s k c [] ys (suc n) t e f H = absurd (omega arith)
  sums_off s k c (x ∷ xs) ys zero t e f H = absurd (omega arith)
  sums_off s k c [] (y ∷ ys) zero t e f H = absurd (omega arith)
  sums_off s k c (x ∷ xs) [] (suc n) t e f H = absurd (omega arith)
  sums_off s k c (x ∷ xs) (y ∷ ys) (suc n) t e f H =
      let b : σ (o s) ≡ false = rw t at H.1.0 in
      rw (b, sums_off (suc s) (2 + k) (pos (h (1 + k))) xs ys n t (omega arith) (omega arith) H.1.1.1)
