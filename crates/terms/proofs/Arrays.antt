-- The elements of an array as a list. Assumes nothing.
use mathlib.Core.Path.{◌≡◌, refl, ap, ◌∙◌}
use mathlib.Core.List.{List, [], ◌∷◌}
use Prim.Native.Nat.{ℕ, zero, suc, ◌+◌}
use native.Mathlib.Omega.{arith}
use lib.ListN.{length, get_or}
use Rattle.terms.specs.Gives.{from}

module _ {A : Type 0} (z : A) where
  from_later : (x : A) (l : List A) (i k : ℕ) → from z (x ∷ l) (suc i) k ≡ from z l i k
  unfolding from
  from_later x l i zero = refl
  from_later x l i (suc k) = let e : suc i + 1 ≡ suc (i + 1) = omega arith in rw e (ap (λ (r : List A). get_or l i z ∷ r) (from_later x l (i + 1) k))

  pub from_all : (l : List A) → from z l 0 (length l) ≡ l
  unfolding from
  from_all [] = refl
  from_all (x ∷ l) = ap (λ (r : List A). x ∷ r) (from_later x l 0 (length l) ∙ from_all l)
