-- What code that went one way at a test has to show, beside the laws of notation: `&&` and `||`, and the size of a rule. `tests` is the ruleset
-- for `search`. Assumes nothing.
use mathlib.Core.Path.{◌≡◌, refl, sym, ◌∙◌}
use mathlib.Core.Bool.{Bool, true, false, ◌&&◌, ◌||◌, true≢false}
use Prim.Native.Nat.{ℕ, ◌≤◌}
use lib.Dec.{eqb, ltb}
use borrow.Author.Tests.{lt-ltb, le-ltb, eq-eqb, ne_eqb, ltb-false, not-true, not-false}
use Rattle.notation.proofs.Follow.{values}
use Rattle.semantics.specs.Numbers.{rule_bytes}
use Rattle.semantics.specs.Rules.{bad_rule_size}

-- ---- `&&` and `||`

-- where a test is the answer b of a call
pub called : {x b c : Bool} → b ≡ x → b ≡ c → x ≡ c
called e h = sym e ∙ h

module _ (x y : Bool) {z : Bool} where
  pub and-true : x ≡ true → z ≡ y → z ≡ (x && y)
  and-true h g = rw h g

  pub and-false : x ≡ false → z ≡ false → z ≡ (x && y)
  and-false h g = rw h g

  pub or-true : x ≡ true → z ≡ true → z ≡ (x || y)
  or-true h g = rw h g

  pub or-false : x ≡ false → z ≡ y → z ≡ (x || y)
  or-false h g = rw h g

pub ruleset tests = (values, and-true, and-false, or-true, or-false, lt-ltb, le-ltb, eq-eqb, ne_eqb, not-true, not-false, called)

-- ---- test 4

-- bytes that it lets pass are no more than a rule's most
pub good_size : (l : ℕ) {b : Bool} → b ≡ bad_rule_size l → b ≡ false → l ≤ rule_bytes
unfolding bad_rule_size
good_size l e h = go (eqb l 0) (ltb rule_bytes l) _ refl (sym e ∙ h)
  where
    go : (x y z : Bool) → ltb rule_bytes l ≡ y → (x || (y || z)) ≡ false → l ≤ rule_bytes
    go x false z q g = ltb-false rule_bytes l q
    go true true z q g = absurd (true≢false g)
    go false true z q g = absurd (true≢false g)
