-- A length that is tested. Assumes nothing.
use mathlib.Core.Path.{◌≡◌}
use Prim.Native.Nat.{ℕ}
use lib.Dec.{eqb}
use borrow.Author.Tests.{eq-eqb, ne_eqb}
use Rattle.notation.specs.Notation.{unless◌then◌else◌}

module _ {A : Type 0} (x y : A) {z : A} (i j : ℕ) where
  pub long_so : i ≡ j → z ≡ y → z ≡ (unless eqb i j then x else y)
  unfolding unless◌then◌else◌
  long_so h g = rw (eq-eqb i j h) g

  pub long_not : (i ≡ j → ⊥) → z ≡ x → z ≡ (unless eqb i j then x else y)
  unfolding unless◌then◌else◌
  long_not h g = rw (ne_eqb i j h) g
