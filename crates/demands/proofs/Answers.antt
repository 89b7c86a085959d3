-- What a call of evaluate answers, by the first of the tests 3 to 9 that fails. Assumes nothing.
use mathlib.Core.Path.{◌≡◌, refl, ◌∙◌}
use mathlib.Core.Bool.{Bool, true, false}
use mathlib.Core.List.{List}
use Prim.Native.Nat.{ℕ, ◌<◌, ◌≤◌}
use native.Mathlib.Omega.{arith}
use lib.Dec.{ltb, leb}
use lib.ListN.{length}
use borrow.Author.Tests.{ltb-true, ltb-false, leb-false}
use Rattle.notation.specs.Notation.{pick, with, when◌then◌else◌, if◌below◌then◌else◌, unless◌then◌else◌, up_to}
use Rattle.semantics.specs.declared.Session.{Session}
use Rattle.semantics.specs.declared.Evaluated.{Evaluated}
use Rattle.semantics.specs.Numbers.{misfit, rule_size, bad_record, bad_tree, bad_place, bad_allowance, rules_spent, call_too_wide, rule_limit}
use Rattle.semantics.specs.Records.{record_at, records_in}
use Rattle.semantics.specs.Rules.{bad_rule_size, shaped_of, linked_of, scoped_of, tests_of, rule_refusal_of}
use Rattle.semantics.specs.Fits.{fits_of}
use Rattle.semantics.specs.Evaluate.{refused_by, halted_again, evaluated, bad_depth, evaluate_of}
use Rattle.demands.specs.Demand1.{first_failed}

-- the tests 4 to 7 refuse by their own numbers
rule_number : (s : List ℕ) → (rule_refusal_of s ≡ misfit → ⊥) × (rule_refusal_of s < bad_allowance)
unfolding rule_refusal_of tests_of when◌then◌else◌ unless◌then◌else◌
rule_number s =
    go (bad_rule_size (length s)) (up_to (records_in s) (λ i. shaped_of (record_at s i))) (up_to (records_in s) (linked_of s (records_in s))) (up_to (records_in s) (scoped_of s))
  where
    go : (a b c d : Bool) → (pick a rule_size (pick b (pick c (pick d 0 bad_place) bad_tree) bad_record) ≡ misfit → ⊥)
        × (pick a rule_size (pick b (pick c (pick d 0 bad_place) bad_tree) bad_record) < bad_allowance)
    go true b c d = ((λ e. omega arith), omega arith)
    go false true true true = ((λ e. omega arith), omega arith)
    go false true true false = ((λ e. omega arith), omega arith)
    go false true false d = ((λ e. omega arith), omega arith)
    go false false c d = ((λ e. omega arith), omega arith)

module _ (rule : List ℕ) (allowance : ℕ) (x : Session) (s : List ℕ) where
  -- the answer o, where n is the number of the first test that fails
  pub data Answered (n : ℕ) (o : Evaluated × List ℕ) : Type 0 where
    failed : 0 < n → o ≡ refused_by n x s → Answered n o
    again : n ≡ 0 → x.halted ≡ true → o ≡ halted_again x s → Answered n o
    goes : n ≡ 0 → x.halted ≡ false → o ≡ evaluated rule allowance x s → Answered n o

  pub answered : Answered (first_failed rule allowance x s) (evaluate_of rule allowance x s)
  unfolding first_failed evaluate_of when◌then◌else◌ if◌below◌then◌else◌ unless◌then◌else◌ with
  answered = go (fits_of x s) (rule_refusal_of rule) (ltb 0 (rule_refusal_of rule)) (bad_depth allowance) (leb rule_limit x.accepted) x.halted refl refl
    where
      go : (f : Bool) (k : ℕ) (p b l h : Bool) → ltb 0 k ≡ p → x.halted ≡ h → Answered (pick f (pick p k (pick b bad_allowance (pick l rules_spent 0))) misfit)
          (pick f (pick p (refused_by k) (pick b (refused_by bad_allowance) (pick l (refused_by rules_spent) (pick h halted_again (evaluated rule allowance))))) (refused_by misfit) x s)
      go false k p b l h e q = failed (omega arith) refl
      go true k true b l h e q = failed (omega (arith, ltb-true 0 k e)) refl
      go true k false true l h e q = failed (omega arith) refl
      go true k false false true h e q = failed (omega arith) refl
      go true k false false false true e q = again refl q refl
      go true k false false false false e q = goes refl q refl

  pub record Passed : Type 0 where
    pub rule_taken : rule_refusal_of rule ≡ 0
    pub allowed : bad_depth allowance ≡ false
    pub few : x.accepted < rule_limit

  pub passed : first_failed rule allowance x s ≡ 0 → Passed
  unfolding first_failed when◌then◌else◌ if◌below◌then◌else◌ unless◌then◌else◌ with
  passed = go (fits_of x s) (rule_refusal_of rule) (ltb 0 (rule_refusal_of rule)) (bad_depth allowance) (leb rule_limit x.accepted) refl refl refl refl
    where
      go : (f : Bool) (k : ℕ) (p b l : Bool) → rule_refusal_of rule ≡ k → ltb 0 k ≡ p → bad_depth allowance ≡ b → leb rule_limit x.accepted ≡ l
          → pick f (pick p k (pick b bad_allowance (pick l rules_spent 0))) misfit ≡ 0 → Passed
      go false k p b l ek ep eb el h = absurd (omega arith)
      go true k true b l ek ep eb el h = absurd (omega (arith, ltb-true 0 k ep))
      go true k false true l ek ep eb el h = absurd (omega arith)
      go true k false false true ek ep eb el h = absurd (omega arith)
      go true k false false false ek ep eb el h =
          record { rule_taken = ek ∙ zero (ltb-false 0 k ep); allowed = eb; few = omega (arith, leb-false rule_limit x.accepted el) }
        where
          zero : k ≤ 0 → k ≡ 0
          zero i = omega arith

  -- Where the session and table fit, a test that fails is not 3; it is never 10, 11 or 12.
  pub failed_number : fits_of x s ≡ true → (first_failed rule allowance x s ≡ misfit → ⊥) × (first_failed rule allowance x s < call_too_wide)
  unfolding first_failed when◌then◌else◌ if◌below◌then◌else◌ unless◌then◌else◌ with
  failed_number h = rw h (go (rule_refusal_of rule) (ltb 0 (rule_refusal_of rule)) (bad_depth allowance) (leb rule_limit x.accepted) (rule_number rule).0 (rule_number rule).1)
    where
      go : (k : ℕ) (p b l : Bool) → (k ≡ misfit → ⊥) → k < bad_allowance → (pick p k (pick b bad_allowance (pick l rules_spent 0)) ≡ misfit → ⊥)
          × (pick p k (pick b bad_allowance (pick l rules_spent 0)) < call_too_wide)
      go k true b l n m = (n, omega arith)
      go k false true l n m = ((λ e. omega arith), omega arith)
      go k false false true n m = ((λ e. omega arith), omega arith)
      go k false false false n m = ((λ e. omega arith), omega arith)
