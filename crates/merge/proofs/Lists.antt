-- A list of one element turned about, and an array's elements. Assumes nothing.
use mathlib.Core.Path.{◌≡◌, refl, ap, ◌∙◌}
use mathlib.Core.List.{List, [], ◌∷◌, ◌++◌, reverse, reverse-cons}
use Prim.Native.Nat.{ℕ, zero, suc, ◌+◌, ◌<◌, ◌≤◌}
use native.Mathlib.Omega.{arith}
use native.Mathlib.Numerals.{add-one}
use lib.ListN.{length, get_or, take, drop, replicate, get_or-eq_default}
use lib.Seq.{drop-cons}
use Rattle.std.proofs.lemmas.List.{replicate_more}
use Rattle.terms.specs.Gives.{from}

pub reverse_replicate : {A : Type 0} (n : ℕ) (a : A) → reverse (replicate n a) ≡ replicate n a
reverse_replicate zero a = refl
reverse_replicate {A} (suc n) a = reverse-cons a (replicate n a) ∙ ap (λ (l : List A). l ++ (a ∷ [])) (reverse_replicate n a) ∙ replicate_more n a ∙ ap (λ (k : ℕ). replicate k a) (add-one n)

module _ {A : Type 0} (z : A) (l : List A) where
  pub from_take : (i k : ℕ) → i + k ≤ length l → from z l i k ≡ take k (drop i l)
  unfolding from
  from_take i zero h = refl
  from_take i (suc k) h =
      let o : i < length l = omega arith in
      let e : i + 1 ≡ suc i = omega arith in
      rw (drop-cons l i z o, e) (ap (λ (r : List A). get_or l i z ∷ r) (from_take (suc i) k (omega arith)))

  -- past the end there are only blank ones
  pub from_past : (i k : ℕ) → length l ≤ i → from z l i k ≡ replicate k z
  unfolding from
  from_past i zero h = refl
  from_past i (suc k) h = rw (get_or-eq_default l z h) (ap (λ (r : List A). z ∷ r) (from_past (i + 1) k (omega arith)))

  pub from_append : (i j k : ℕ) → from z l i j ++ from z l (i + j) k ≡ from z l i (j + k)
  unfolding from
  from_append i zero k =
      let e : i + 0 ≡ i = omega arith in
      let o : 0 + k ≡ k = omega arith in
      rw (e, o) refl
  from_append i (suc j) k =
      let e : suc j + k ≡ suc (j + k) = omega arith in
      let o : i + suc j ≡ i + 1 + j = omega arith in
      rw (e, o, from) (ap (λ (r : List A). get_or l i z ∷ r) (from_append (i + 1) j k))
