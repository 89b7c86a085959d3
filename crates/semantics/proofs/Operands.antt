-- The codes that have one operand: what such an operator gives on words does not depend on a second. Assumes nothing.
use mathlib.Core.Path.{◌≡◌, refl, sym, ap, ◌∙◌}
use mathlib.Core.Bool.{Bool, true, false}
use Prim.Native.Nat.{ℕ, ◌<◌, ◌≤◌}
use native.Mathlib.Omega.{arith}
use lib.Dec.{eqb}
use borrow.Author.Tests.{eqb-true, eqb-false}
use Rattle.notation.specs.Notation.{if◌equals◌then◌else◌}
use Rattle.operators.specs.Operators.{operands_of, row_of, operate_of}
use Rattle.semantics.specs.Numbers.{not_code}

-- a code that has one operand is none of the codes that have another count
pub differs : (op k m : ℕ) → operands_of op ≡ 1 → operands_of k ≡ m → (m ≡ 1 → ⊥) → op ≡ k → ⊥
differs op k m h e d i = d (sym e ∙ (ap operands_of (sym i) ∙ h))

-- the two codes of operators on words that have one operand
from_three : (op : ℕ) → operands_of op ≡ 1 → 3 ≤ op
unfolding operands_of row_of
from_three op h = omega (arith, differs op 0 0 h refl (λ i. omega arith), differs op 1 2 h refl (λ i. omega arith), differs op 2 2 h refl (λ i. omega arith))

from_six : (op : ℕ) → operands_of op ≡ 1 → 6 ≤ op
unfolding operands_of row_of
from_six op h = let l = from_three op h in omega (arith, differs op 3 2 h refl (λ i. omega arith), differs op 4 2 h refl (λ i. omega arith), differs op 5 2 h refl (λ i. omega arith))

from_nine : (op : ℕ) → operands_of op ≡ 1 → 9 ≤ op
unfolding operands_of row_of
from_nine op h = let l = from_six op h in omega (arith, differs op 6 2 h refl (λ i. omega arith), differs op 7 2 h refl (λ i. omega arith), differs op 8 2 h refl (λ i. omega arith))

only_two : (op : ℕ) → op < not_code → operands_of op ≡ 1 → (op ≡ 9 → ⊥) → op ≡ 10
unfolding operands_of row_of
only_two op l h e = let k = from_nine op h in omega (arith, e, differs op 11 2 h refl (λ i. omega arith), differs op 12 2 h refl (λ i. omega arith))

-- an operator that has one operand does not look at a second
pub one_operand : (op x y z : ℕ) → op < not_code → operands_of op ≡ 1 → operate_of op x y ≡ operate_of op x z
unfolding operate_of if◌equals◌then◌else◌
one_operand op x y z l h = go (eqb op 9) refl
  where
    go : (b : Bool) → eqb op 9 ≡ b → operate_of op x y ≡ operate_of op x z
    go true e = rw (eqb-true op 9 e)
    go false e = rw (only_two op l h (eqb-false op 9 e))
