-- What code that went one way at a test has to show: a law for each form of a condition, and `values`, the laws as one ruleset for `search`.
-- Assumes nothing.
use mathlib.Core.Path.{◌≡◌}
use mathlib.Core.Bool.{Bool, true, false, not, ◌&&◌, ◌||◌}
use Prim.Native.Nat.{ℕ, ◌<◌, ◌≤◌}
use lib.Dec.{eqb, ltb, leb}
use borrow.Author.Tests.{eq-eqb, ne_eqb, lt-ltb, le-ltb, le-leb, lt-leb}
use Rattle.notation.specs.Notation.{when◌then◌else◌, if◌equals◌then◌else◌, if◌below◌then◌else◌, unless◌then◌else◌, with}

module _ {A : Type 0} (x y : A) {z : A} where
  pub val_eq : (i j : ℕ) → i ≡ j → z ≡ x → z ≡ (if i equals j then x else y)
  unfolding if◌equals◌then◌else◌
  val_eq i j h g = rw (eq-eqb _ _ h) g

  pub val_ne : (i j : ℕ) → (i ≡ j → ⊥) → z ≡ y → z ≡ (if i equals j then x else y)
  unfolding if◌equals◌then◌else◌
  val_ne i j h g = rw (ne_eqb _ _ h) g

  -- where i is known to be another number
  pub val_other : (i j : ℕ) {k : ℕ} → i ≡ k → eqb k j ≡ false → z ≡ y → z ≡ (if i equals j then x else y)
  unfolding if◌equals◌then◌else◌
  val_other i j h e g = rw (h, e) g

  pub val_lt : (i j : ℕ) → i < j → z ≡ x → z ≡ (if i below j then x else y)
  unfolding if◌below◌then◌else◌
  val_lt i j h g = rw (lt-ltb _ _ h) g

  pub val_ge : (i j : ℕ) → j ≤ i → z ≡ y → z ≡ (if i below j then x else y)
  unfolding if◌below◌then◌else◌
  val_ge i j h g = rw (le-ltb _ _ h) g

  pub val_true : (b : Bool) → b ≡ true → z ≡ x → z ≡ (when b then x else y)
  unfolding when◌then◌else◌
  val_true b h g = rw h g

  pub val_false : (b : Bool) → b ≡ false → z ≡ y → z ≡ (when b then x else y)
  unfolding when◌then◌else◌
  val_false b h g = rw h g

  -- where the test is the answer of a call
  pub val_said : (v : Bool) {b : Bool} → b ≡ v → b ≡ true → z ≡ x → z ≡ (when v then x else y)
  unfolding when◌then◌else◌
  val_said v e h g = rw (← e, h) g

  pub val_denied : (v : Bool) {b : Bool} → b ≡ v → b ≡ false → z ≡ y → z ≡ (when v then x else y)
  unfolding when◌then◌else◌
  val_denied v e h g = rw (← e, h) g

  -- where the number is the answer of a call
  pub val_is : (v j : ℕ) {i : ℕ} → i ≡ v → i ≡ j → z ≡ x → z ≡ (if v equals j then x else y)
  unfolding if◌equals◌then◌else◌
  val_is v j e h g = rw (← e, eq-eqb _ _ h) g

  pub val_is_not : (v j : ℕ) {i : ℕ} → i ≡ v → (i ≡ j → ⊥) → z ≡ y → z ≡ (if v equals j then x else y)
  unfolding if◌equals◌then◌else◌
  val_is_not v j e h g = rw (← e, ne_eqb _ _ h) g

  pub val_passed : (v : Bool) {b : Bool} → b ≡ v → b ≡ true → z ≡ y → z ≡ (unless v then x else y)
  unfolding unless◌then◌else◌
  val_passed v e h g = rw (← e, h) g

  pub val_failed : (v : Bool) {b : Bool} → b ≡ v → b ≡ false → z ≡ x → z ≡ (unless v then x else y)
  unfolding unless◌then◌else◌
  val_failed v e h g = rw (← e, h) g

pub val_with : {A B : Type 0} {z : A} (v : B) (f : B → A) {b : B} → b ≡ v → z ≡ f b → z ≡ with v f
unfolding with
val_with v f e g = rw e at g

pub ruleset values = (val_with, val_eq, val_ne, val_other, val_lt, val_ge, val_true, val_false, val_said, val_denied, val_passed, val_failed)

-- ---- tests joined by and, or: the first one decided
module _ (b : Bool) {z : Bool} where
  pub and_said : (a : Bool) {p : Bool} → p ≡ a → p ≡ true → z ≡ b → z ≡ (a && b)
  and_said a e h g = rw (← e, h) g

  pub and_denied : (a : Bool) {p : Bool} → p ≡ a → p ≡ false → z ≡ false → z ≡ (a && b)
  and_denied a e h g = rw (← e, h) g

  pub and_eq : (i j : ℕ) → i ≡ j → z ≡ b → z ≡ (eqb i j && b)
  and_eq i j h g = rw (eq-eqb _ _ h) g

  pub and_ne : (i j : ℕ) → (i ≡ j → ⊥) → z ≡ false → z ≡ (eqb i j && b)
  and_ne i j h g = rw (ne_eqb _ _ h) g

  pub and_lt : (i j : ℕ) → i < j → z ≡ b → z ≡ (ltb i j && b)
  and_lt i j h g = rw (lt-ltb _ _ h) g

  pub and_ge : (i j : ℕ) → j ≤ i → z ≡ false → z ≡ (ltb i j && b)
  and_ge i j h g = rw (le-ltb _ _ h) g

  pub and_le : (i j : ℕ) → i ≤ j → z ≡ b → z ≡ (leb i j && b)
  and_le i j h g = rw (le-leb _ _ h) g

  pub and_gt : (i j : ℕ) → j < i → z ≡ false → z ≡ (leb i j && b)
  and_gt i j h g = rw (lt-leb _ _ h) g

  pub and_not : (a : Bool) {p : Bool} → p ≡ a → p ≡ false → z ≡ b → z ≡ (not a && b)
  and_not a e h g = rw (← e, h) g

  pub and_not_denied : (a : Bool) {p : Bool} → p ≡ a → p ≡ true → z ≡ false → z ≡ (not a && b)
  and_not_denied a e h g = rw (← e, h) g

  pub or_eq : (i j : ℕ) → i ≡ j → z ≡ true → z ≡ (eqb i j || b)
  or_eq i j h g = rw (eq-eqb _ _ h) g

  pub or_ne : (i j : ℕ) → (i ≡ j → ⊥) → z ≡ b → z ≡ (eqb i j || b)
  or_ne i j h g = rw (ne_eqb _ _ h) g

pub ruleset tests = (values, val_is, val_is_not, and_said, and_denied, and_eq, and_ne, and_lt, and_ge, and_le, and_gt, and_not, and_not_denied, or_eq, or_ne)
