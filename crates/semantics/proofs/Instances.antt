-- Demand 3 on small lists of rules and demand 2 on small plain runs, by computation, and facts about terms that no reading shows. Crate
-- `demands` proves both of every list and every run, but above this crate: here a definition that no longer gives it is refused beside the definitions. Assumes nothing.
use Prim.Native.Nat.{ℕ, ◌*◌}
use mathlib.Core.Path.{◌≡◌, refl}
use mathlib.Core.Bool.{Bool, true, false, ◌||◌}
use mathlib.Core.List.{List, [], ◌∷◌}
use lib.ListN.{replicate}
use Rattle.semantics.specs.declared.Input.{Input}
use Rattle.semantics.specs.declared.Term.{Term}
use Rattle.semantics.specs.declared.State.{State}
use Rattle.semantics.specs.declared.Reading.{Reading as Read}
use Rattle.semantics.specs.declared.Outcome.{Outcome}
use Rattle.semantics.specs.declared.Outcome.TheVariants.{Truth, Word, Error, Refused}
use Rattle.semantics.specs.Numbers.{datum_record, variable_record, procedure_record, call_record, operator_record, let_record, if_record, abort_record, error_record, false_datum, word_datum, multiply_code, bitwise_and_code, not_code, negation_code, truth_term, free_truth_term, operator_term, procedure_term, constant_truth, free_truth, store_full}
use Rattle.words.specs.Words.{width}
use Rattle.semantics.proofs.Computing.{computing}
use Rattle.semantics.specs.Terms as Terms
use Rattle.semantics.specs.Opening as Opening
use Rattle.semantics.specs.Reading as Reading
use Rattle.semantics.specs.PlainRun as PlainRun
use Rattle.semantics.specs.History as History

-- ---- the desk

-- input 0 a free truth, the others constant false
abbrev inputs : List Input
inputs = record { kind = free_truth; value = 0 } ∷ replicate 15 (record { kind = constant_truth; value = 0 })

-- sixteen numbers, input 0's given
abbrev under : ℕ → List ℕ
under n = n ∷ replicate 15 0

-- calls of these rules, at an allowance that is enough for each
abbrev calls : List (List ℕ) → List History.Call
calls [] = []
calls (r ∷ rs) = record { rule = r; allowance = 3 } ∷ calls rs

-- what they leave, from an opening on
unfoldable pub desk : List (List ℕ) → History.History
desk rs = History.called_all (History.begun (Opening.open_of inputs (replicate 512 0))) (calls rs)

-- ---- the rules

-- the 8 bytes of a record, each field below 256
abbrev bytes : ℕ → ℕ → ℕ → ℕ → ℕ → List ℕ → List ℕ
bytes k o p q r rest = k ∷ o ∷ p ∷ 0 ∷ q ∷ 0 ∷ r ∷ 0 ∷ rest

-- "if place 0, word 7, else error"
abbrev seven_or_error : List ℕ
seven_or_error = bytes if_record 0 0 1 2 (bytes datum_record word_datum 7 0 0 (bytes error_record 0 0 0 0 []))

abbrev abort : List ℕ
abort = bytes abort_record 0 0 0 0 []

-- a procedure that gives the word w
abbrev giving : ℕ → List ℕ
giving w = bytes procedure_record 0 1 0 0 (bytes datum_record word_datum w 0 0 [])

-- let f be: if place 0, a procedure that gives 7, else false. A call of f.
abbrev call_of_either : List ℕ
call_of_either =
    bytes let_record 0 1 2 0 (bytes if_record 0 0 3 4 (bytes call_record 0 0 0 0 (
    bytes procedure_record 0 5 0 0 (bytes datum_record false_datum 0 0 0 (bytes datum_record word_datum 7 0 0 [])))))

-- ---- the rules that are folded

-- let x be: if place 0, u, else v. Let y be w. An operator on places p and q, of which 1 is x and 0 is y.
abbrev operated : ℕ → ℕ → ℕ → ℕ → ℕ → ℕ → List ℕ
operated u v w op p q =
    bytes let_record 0 1 2 0 (bytes if_record 0 0 3 4 (bytes let_record 0 5 6 0 (
    bytes datum_record word_datum u 0 0 (bytes datum_record word_datum v 0 0 (bytes datum_record word_datum w 0 0 (bytes operator_record op p q 0 []))))))

abbrev with_zero : ℕ → ℕ → ℕ → List ℕ
with_zero = operated 5 6 0

abbrev to_zero : ℕ → List ℕ
to_zero op = with_zero op 1 0

abbrev of_zero : ℕ → List ℕ
of_zero op = with_zero op 0 1

-- let x be 0. Place 0, which is a truth, times x.
abbrev truth_times_zero : List ℕ
truth_times_zero = bytes let_record 0 1 2 0 (bytes datum_record word_datum 0 0 0 (bytes operator_record multiply_code 1 0 0 []))

-- let x be not of place 0. Not of x.
abbrev not_twice : List ℕ
not_twice = bytes let_record 0 1 2 0 (bytes operator_record not_code 0 0 0 (bytes operator_record not_code 0 0 0 []))

-- if place 0, 5, else 5
abbrev five_or_five : List ℕ
five_or_five = bytes if_record 0 0 1 2 (bytes datum_record word_datum 5 0 0 (bytes datum_record word_datum 5 0 0 []))

-- if place 0, place 0, else 5
abbrev guard_or_five : List ℕ
guard_or_five = bytes if_record 0 0 1 2 (bytes variable_record 0 0 0 0 (bytes datum_record word_datum 5 0 0 []))

-- ---- the rules that shift

-- 255, by the width if place 0, else by 1
abbrev shifted : ℕ → List ℕ
shifted op = operated width 1 255 op 0 1

-- 255, by the width
abbrev shifted_out : ℕ → List ℕ
shifted_out op = operated width width 255 op 0 1

-- ---- terms that the factory folds

-- false, true, the free truth, its not, and the not of that
abbrev nots_of_nots : List Term
nots_of_nots =
    Terms.term operator_term negation_code 3 0 0 ∷ Terms.term operator_term negation_code 2 0 0 ∷
    Terms.term free_truth_term 0 0 0 0 ∷ Terms.term truth_term 0 1 0 0 ∷ Terms.term truth_term 0 0 0 0 ∷ []

-- ---- demand 3 of what a list of calls left, where input 0 is given n

-- What is read of the last accepted result, what running the accepted rules in turn gives, and whether S or T is read as true.
pub record Sides : Type 0 where
  pub read : Outcome
  pub run : Outcome
  pub legal : Bool

-- whether S or T is read as true, of the readings of all terms
unfoldable pub one_true : State → List Read → Bool
one_true x vs = Reading.is_true (Reading.nth vs x.assumed) || Reading.is_true (Reading.nth vs x.asserted)

unfoldable pub sides : ℕ → History.History → Sides
sides n h =
    record {
      read = (Reading.read_of h.session h.table (under n) h.result (replicate h.session.count 0)).0;
      run = PlainRun.ended_outcome (History.run_of_rules inputs (under n) h.rules);
      legal = one_true h.session.state (Reading.readings (under n) (Terms.terms_in h.table h.session.count));
    }

-- demand 3 holds: reading and run both give o, and S or T is true
abbrev both : Outcome → Sides
both o = record { read = o; run = o; legal = true }

-- the term of the last accepted value
unfoldable pub value_term : History.History → Term
value_term h = Terms.at (Terms.terms_in h.table h.session.count) h.result.value

-- ---- demand 2 of the plain run

-- let x be false. x.
abbrev let_false : List ℕ
let_false = bytes let_record 0 1 2 0 (bytes datum_record false_datum 0 0 0 (bytes variable_record 0 0 0 0 []))

-- a plain run at depth 2 over a store of so many places, where input 0 is given n
unfoldable pub ran_plainly : List ℕ → ℕ → ℕ → Outcome
ran_plainly rule places n = (PlainRun.run_plainly_of inputs (under n) rule 2 (replicate (8 * places) 1)).0

-- ---- the instances
pub record Instances : Type 0 where
  -- the printed case: each branch is merged under its own guard, and the reported depth is enough for the run
  pub printed_case : sides 1 (desk (seven_or_error ∷ [])) ≡ both (Word 7)
  -- against document 01's "Plausible, and false": "Assuming by plain and, without T: after an error both formulas can fail."
  pub abort_after_error : sides 0 (desk (seven_or_error ∷ abort ∷ [])) ≡ both Error
  -- "Dropping the asserted 'is some procedure' when a call has targets."
  pub no_target_called : sides 0 (desk (call_of_either ∷ [])) ≡ both Error
  -- "Giving a halted branch the value false in a merge.": the value is word 7 and no choice. No reading tells them apart, since S or T reads as
  -- false wherever a branch has halted.
  pub halted_without_value : value_term (desk (seven_or_error ∷ [])) ≡ Terms.word_term_of 7
  -- "Sharing a procedure term between two rules because record and bindings agree.": the second rule's has the count 1. No reading tells them
  -- apart, since no rule meets another's values.
  pub procedure_of_its_rule : value_term (desk (giving 7 ∷ giving 8 ∷ [])) ≡ Terms.term procedure_term 0 0 18 1
  -- "each let and each call of a procedure takes one as it binds": the inputs and the let need 17 places
  pub let_needs_a_place : ran_plainly let_false 16 0 ≡ Refused store_full
  pub let_has_a_place : ran_plainly let_false 17 0 ≡ Truth false
  -- "If: r on false, else q."
  pub branch_of_the_test : ran_plainly seven_or_error 16 1 ≡ Word 7
  -- document 02, One: "word 0 for multiply or bitwise and when either operand is the word constant 0"; a sum with 0 is not 0
  pub sum_to_zero : sides 1 (desk (to_zero 1 ∷ [])) ≡ both (Word 5)
  pub product_to_zero : value_term (desk (to_zero multiply_code ∷ [])) ≡ Terms.word_term_of 0
  pub product_of_zero : value_term (desk (of_zero multiply_code ∷ [])) ≡ Terms.word_term_of 0
  pub and_to_zero : value_term (desk (to_zero bitwise_and_code ∷ [])) ≡ Terms.word_term_of 0
  pub and_of_zero : value_term (desk (of_zero bitwise_and_code ∷ [])) ≡ Terms.word_term_of 0
  -- "Type assertions are still made."
  pub truth_times_zero_lem : sides 1 (desk (truth_times_zero ∷ [])) ≡ both Error
  -- "the shared side for a choice with equal sides": no reading tells it from the choice; a guard that is a side is another matter
  pub guard_as_side : sides 0 (desk (guard_or_five ∷ [])) ≡ both (Word 5)
  pub equal_sides : value_term (desk (five_or_five ∷ [])) ≡ Terms.word_term_of 5
  -- "the operand for not of a not"
  pub not_twice_lem : value_term (desk (not_twice ∷ [])) ≡ Terms.term free_truth_term 0 0 0 0
  -- 3 is about layout: a table with a not of a not fits
  pub not_twice_laid_out : Terms.well_formed 0 nots_of_nots ≡ true
  -- document 02, Five: "give zero once the amount reaches the width [..] in terms, in readings and in plain runs alike"
  pub left_in_terms : value_term (desk (shifted_out 7 ∷ [])) ≡ Terms.word_term_of 0
  pub right_in_terms : value_term (desk (shifted_out 8 ∷ [])) ≡ Terms.word_term_of 0
  pub left_at_the_width : sides 1 (desk (shifted 7 ∷ [])) ≡ both (Word 0)
  pub right_at_the_width : sides 1 (desk (shifted 8 ∷ [])) ≡ both (Word 0)
  pub left_by_one : sides 0 (desk (shifted 7 ∷ [])) ≡ both (Word 510)
  pub right_by_one : sides 0 (desk (shifted 8 ∷ [])) ≡ both (Word 127)
  -- only what document 01 refuses is refused: eleven rules in turn are accepted
  pub eleven_accepted : (desk (replicate 11 (bytes datum_record false_datum 0 0 0 []))).session.accepted ≡ 11

pub instances : Instances
unfolding computing desk one_true sides value_term ran_plainly
instances =
    record {
      printed_case = refl;
      abort_after_error = refl;
      no_target_called = refl;
      halted_without_value = refl;
      procedure_of_its_rule = refl;
      let_needs_a_place = refl;
      let_has_a_place = refl;
      branch_of_the_test = refl;
      sum_to_zero = refl;
      product_to_zero = refl;
      product_of_zero = refl;
      and_to_zero = refl;
      and_of_zero = refl;
      truth_times_zero_lem = refl;
      guard_as_side = refl;
      equal_sides = refl;
      not_twice_lem = refl;
      not_twice_laid_out = refl;
      left_in_terms = refl;
      right_in_terms = refl;
      left_at_the_width = refl;
      right_at_the_width = refl;
      left_by_one = refl;
      right_by_one = refl;
      eleven_accepted = refl;
    }
