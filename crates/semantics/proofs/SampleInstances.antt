-- Samples by computation: what the terms under a result are, and a call with each kind of answer, a refused sample and each refusal in its order.
-- Assumes nothing.
use Prim.Native.Nat.{ℕ, zero, suc, ◌+◌, ◌-◌}
use mathlib.Core.Path.{◌≡◌, refl}
use mathlib.Core.Bool.{Bool, true, false}
use mathlib.Core.List.{List, [], ◌∷◌, ◌++◌, map}
use lib.ListN.{replicate}
use Rattle.notation.specs.Notation.{pick}
use Rattle.semantics.specs.declared.Input.{Input}
use Rattle.semantics.specs.declared.Term.{Term}
use Rattle.semantics.specs.declared.Result.{Result}
use Rattle.semantics.specs.declared.Outcome.TheVariants.{Truth, Word, Procedure, Abort, Error, Refused}
use Rattle.semantics.specs.Numbers.{truth_term, free_truth_term, free_word_term, operator_term, choice_term, procedure_term, binding_term, add_code, negation_code, conjunction_code, constant_truth, free_truth, free_word, no_binding, misfit, bad_number, bad_result, work_short}
use Rattle.semantics.proofs.Computing.{computing}
use Rattle.semantics.specs.Terms as Terms
use Rattle.semantics.specs.Opening as Opening
use Rattle.semantics.specs.Under as Under
use Rattle.semantics.specs.Samples as Samples

abbrev result_of : ℕ → ℕ → ℕ → Bool → Result
result_of s t v h = record { state = record { assumed = s; asserted = t }; value = v; halted = h }

-- ---- the terms under a result: terms 0 to 12, newest first
abbrev terms : List Term
terms =
    Terms.term operator_term add_code 3 4 0 ∷  -- 12
    Terms.term operator_term conjunction_code 2 7 0 ∷  -- 11
    Terms.term choice_term 0 7 9 4 ∷  -- 10
    Terms.term operator_term 9 6 0 0 ∷  -- 9: a count of ones has one operand
    Terms.term procedure_term 0 3 5 0 ∷  -- 8
    Terms.term operator_term negation_code 2 0 0 ∷  -- 7
    Terms.word_term_of 7 ∷  -- 6
    Terms.term binding_term 0 4 no_binding 0 ∷  -- 5
    Terms.term free_word_term 0 2 0 0 ∷  -- 4
    Terms.term free_word_term 0 1 0 0 ∷  -- 3
    Terms.term free_truth_term 0 0 0 0 ∷  -- 2
    Terms.term truth_term 0 1 0 0 ∷  -- 1
    Terms.term truth_term 0 0 0 0 ∷ []

abbrev numbers_below : ℕ → List ℕ
numbers_below zero = []
numbers_below (suc n) = n ∷ numbers_below n

-- the numbers of those terms, the highest first
unfoldable pub marked : Result → List ℕ → List ℕ
marked r [] = []
marked r (k ∷ ks) = let lower : List ℕ = marked r ks in pick (Under.under_of terms r k) (k ∷ lower) lower

unfoldable pub under_in : Result → List ℕ
under_in r = marked r (numbers_below 13)

-- ---- the operation on an opening: input 0 is a free word and input 1 a free truth, the others are constant false
abbrev inputs : List Input
inputs = record { kind = free_word; value = 0 } ∷ record { kind = free_truth; value = 0 } ∷ replicate 14 (record { kind = constant_truth; value = 0 })

-- false, true, both inputs and sixteen bindings
abbrev count : ℕ
count = 20

-- what is asserted is the free truth, and the value the free word
abbrev result : Result
result = result_of 1 3 2 false

-- a sample; the numbers of constants are ignored
abbrev sample : ℕ → ℕ → List ℕ
sample word truth = word ∷ truth ∷ replicate 14 9

abbrev four : List ℕ
four = sample 5 1 ++ (sample 6 0 ++ (sample 7 2 ++ sample 8 1))

abbrev list : ℕ → List ℕ
list l = replicate l 9

unfoldable pub read_all : ℕ → Result → List ℕ → ℕ → ℕ → ℕ × List ℕ × List ℕ
read_all n r numbers work answers =
    Samples.read_all_of (Opening.session_of inputs n) (Opening.open_of inputs (replicate 512 0)).1 r numbers (list work) (list answers)

pub record SampleInstances : Type 0 where
  -- S, T and the value; those that they are read from, and no others: not what stands in an unused field, in a procedure or in a binding
  pub under_the_value : under_in (result_of 1 1 10 false) ≡ 10 ∷ 9 ∷ 7 ∷ 6 ∷ 4 ∷ 2 ∷ 1 ∷ []
  pub under_both : under_in (result_of 7 11 8 false) ≡ 11 ∷ 8 ∷ 7 ∷ 2 ∷ []
  pub under_a_halt : under_in (result_of 1 7 12 true) ≡ 7 ∷ 2 ∷ 1 ∷ []
  -- "In the bales' order, the answers hold just what single readings would give, a refusal by 13 included"
  pub four_samples : read_all count result four count 4 ≡ (0, replicate count 0, map Samples.answer_place (Word 5 ∷ Error ∷ Refused bad_number ∷ Word 8 ∷ []))
  pub as_numbers : map Samples.answer_place (Truth false ∷ Truth true ∷ Word 5 ∷ Procedure 4 ∷ Abort ∷ Error ∷ Refused bad_number ∷ [])
      ≡ 65536 ∷ 65537 ∷ 131077 ∷ 458756 ∷ 524288 ∷ 589824 ∷ 13 ∷ []
  pub no_samples : read_all count result [] count 0 ≡ (0, replicate count 0, [])
  -- "Refusals 3, 14 and 15 come first and stop the whole call"
  pub misfit_first : read_all (count - 1) (result_of 1 2 2 false) four 0 4 ≡ (misfit, [], list 4)
  pub bad_result_next : read_all count (result_of 1 2 2 false) four (count - 1) 4 ≡ (bad_result, replicate (count - 1) 0, list 4)
  pub short_work : read_all count result four (count - 1) 4 ≡ (work_short, replicate (count - 1) 0, list 4)
  pub no_whole_samples : read_all count result (9 ∷ four) count 4 ≡ (work_short, replicate count 0, list 4)
  pub fewer_answers : read_all count result four count 3 ≡ (work_short, replicate count 0, list 3)
  pub more_answers : read_all count result four (count + 1) 5 ≡ (work_short, replicate (count + 1) 0, list 5)

pub sample_instances : SampleInstances
unfolding computing marked under_in read_all
sample_instances =
    record {
      under_the_value = refl;
      under_both = refl;
      under_a_halt = refl;
      four_samples = refl;
      as_numbers = refl;
      no_samples = refl;
      misfit_first = refl;
      bad_result_next = refl;
      short_work = refl;
      no_whole_samples = refl;
      fewer_answers = refl;
      more_answers = refl;
    }
