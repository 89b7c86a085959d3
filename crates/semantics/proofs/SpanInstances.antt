-- Spans by computation: a table whose terms have each kind of report, and the order of the operation's tests. What is said of every table is proved above
-- this crate, in `certainty`; that a report is as narrow as document 02 says is the definition, and here a wrong one is refused beside it. Assumes nothing.
use Prim.Native.Nat.{ℕ, ◌+◌, ◌*◌, ◌-◌}
use mathlib.Core.Path.{◌≡◌, refl}
use mathlib.Core.List.{List, [], ◌∷◌}
use lib.ListN.{get_or, replicate}
use Rattle.words.specs.Words.{last_word}
use Rattle.semantics.specs.declared.Input.{Input}
use Rattle.semantics.specs.declared.Term.{Term}
use Rattle.semantics.specs.declared.Report.{Report}
use Rattle.semantics.specs.Numbers.{truth_term, free_truth_term, free_word_term, operator_term, choice_term, procedure_term, binding_term, add_code, subtract_code, multiply_code, less_code, is_word_code, negation_code, conjunction_code, disjunction_code, truth_code, constant_truth, free_truth, free_word, no_binding, misfit, work_short, bad_span}
use Rattle.semantics.proofs.Computing.{computing}
use Rattle.semantics.specs.Terms as Terms
use Rattle.semantics.specs.Opening as Opening
use Rattle.semantics.specs.Spans as Spans

-- ---- a table, its first term first: input 0 is a free truth, input 1 a free word from 10 to 20, input 2 one from 20 to 30

-- a term with its report
pub record Reported : Type 0 where
  pub term : Term
  pub report : Report

abbrev with_report : ℕ → ℕ → ℕ → ℕ → ℕ → Report → Reported
with_report kind op a b c r = record { term = Terms.term kind op a b c; report = r }

abbrev constant : ℕ → Reported
constant w = record { term = Terms.word_term_of w; report = Spans.word_report w w }

abbrev operator : ℕ → ℕ → ℕ → Report → Reported
operator op a b r = with_report operator_term op a b 0 r

abbrev choice : ℕ → ℕ → ℕ → Report → Reported
choice g a b r = with_report choice_term 0 g a b r

abbrev only_false : Report
only_false = Spans.truth_report 0 0

abbrev only_true : Report
only_true = Spans.truth_report 1 1

abbrev table : List Reported
table =
    -- 0 to 5: "a constant reports itself alone and a free word its own span"; a free truth both
    with_report truth_term 0 0 0 0 only_false ∷
    with_report truth_term 0 1 0 0 only_true ∷
    with_report free_truth_term 0 0 0 0 Spans.both_truths ∷
    with_report free_word_term 0 1 0 0 (Spans.word_report 10 20) ∷
    with_report free_word_term 0 2 0 0 (Spans.word_report 20 30) ∷
    constant (last_word - 20) ∷
    -- 6 to 8: sums; the highs of the second come to the last word, of the third to ten more
    operator add_code 3 4 (Spans.word_report 30 50) ∷
    operator add_code 3 5 (Spans.word_report (last_word - 10) last_word) ∷
    operator add_code 4 5 Spans.all_words ∷
    -- 9 to 11: differences, of which the first starts at the second's high, and a product
    operator subtract_code 4 3 (Spans.word_report 0 20) ∷
    operator subtract_code 3 4 Spans.all_words ∷
    operator multiply_code 3 4 Spans.all_words ∷
    -- 12 to 14: less; the first span ends at the second's low, starts at its high, ends below its low
    operator less_code 3 4 Spans.both_truths ∷
    operator less_code 4 3 only_false ∷
    operator less_code 3 5 only_true ∷
    -- 15 to 20: not, and, or
    operator negation_code 14 0 only_false ∷
    operator negation_code 2 0 Spans.both_truths ∷
    operator conjunction_code 2 14 Spans.both_truths ∷
    operator conjunction_code 2 13 only_false ∷
    operator disjunction_code 2 14 only_true ∷
    operator disjunction_code 2 13 Spans.both_truths ∷
    -- 21 to 24: choices whose guard can only be true, only be false, be both, and of truths
    choice 14 3 4 (Spans.word_report 10 20) ∷
    choice 13 3 4 (Spans.word_report 20 30) ∷
    choice 2 4 3 (Spans.word_report 10 30) ∷
    choice 2 14 13 Spans.both_truths ∷
    -- 25 to 28: a binding, a procedure, and choices whose sides differ in sort or have one that is open
    with_report binding_term 0 3 no_binding 0 Spans.open_report ∷
    with_report procedure_term 0 0 25 0 Spans.open_report ∷
    choice 2 2 3 Spans.open_report ∷
    choice 2 3 26 Spans.open_report ∷
    -- 29 to 34: operators on what is no span, "any other word operator", "every other truth"
    operator add_code 27 3 Spans.all_words ∷
    operator subtract_code 3 28 Spans.all_words ∷
    operator less_code 27 3 Spans.both_truths ∷
    operator 12 3 3 Spans.both_truths ∷
    operator is_word_code 27 0 Spans.both_truths ∷
    operator truth_code 27 0 Spans.both_truths ∷ []

-- the terms and the reports, newest first
abbrev terms : List Reported → List Term → List Term
terms [] ts = ts
terms (x ∷ xs) ts = terms xs (x.term ∷ ts)

abbrev reports : List Reported → List Report → List Report
reports [] rs = rs
reports (x ∷ xs) rs = reports xs (x.report ∷ rs)

-- ---- the operation on an opening: input 0 is a free word and input 1 a free truth, the others are constant false
abbrev inputs : List Input
inputs = record { kind = free_word; value = 0 } ∷ record { kind = free_truth; value = 0 } ∷ replicate 14 (record { kind = constant_truth; value = 0 })

abbrev given : ℕ → ℕ → List ℕ
given first others = first ∷ replicate 15 others

-- false, true, both inputs and sixteen bindings
abbrev count : ℕ
count = 20

abbrev list : ℕ → List ℕ
list l = replicate l 9

-- the operation with a low and a high for input 0, and others that are ignored; the session has so many terms
unfoldable pub spans : ℕ → ℕ → ℕ → ℕ → ℕ × List ℕ
spans n low high l =
    Spans.spans_of (Opening.session_of inputs n) (Opening.open_of inputs (replicate 512 0)).1 (given low 7) (given high 5) (list l)

pub record SpanInstances : Type 0 where
  pub each_kind : Spans.reports (0 ∷ 10 ∷ 20 ∷ []) (1 ∷ 20 ∷ 30 ∷ []) (terms table []) ≡ reports table []
  -- "It refuses by 3, then by 17 [...], then by 15"; a refusal leaves the list
  pub misfit_first : spans (count - 1) 4 3 0 ≡ (misfit, [])
  pub bad_span_next : spans count 4 3 0 ≡ (bad_span, [])
  pub short_last : spans count 3 3 (Spans.report_size * count - 1) ≡ (work_short, list (Spans.report_size * count - 1))
  pub long_enough : (spans count 3 3 (Spans.report_size * count)).0 ≡ 0
  -- the free word's report, and the free truth's: what is given for it is ignored
  pub of_the_word : Spans.report_in (spans count 3 4 (Spans.report_size * count)).1 2 ≡ Spans.word_report 3 4
  pub of_the_truth : Spans.report_in (spans count 3 4 (Spans.report_size * count)).1 3 ≡ Spans.both_truths
  -- "success [leaves] the places past the count"
  pub past_the_count : get_or (spans count 3 4 (Spans.report_size * count + 1)).1 (Spans.report_size * count) 0 ≡ 9

pub span_instances : SpanInstances
unfolding computing spans
span_instances =
    record {
      each_kind = refl;
      misfit_first = refl;
      bad_span_next = refl;
      short_last = refl;
      long_enough = refl;
      of_the_word = refl;
      of_the_truth = refl;
      past_the_count = refl;
    }
