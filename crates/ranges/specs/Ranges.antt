-- The range of a term in a box of readings: what it may read as, of what the terms that it names may read as. It is document 02's report (request Two),
-- but where a search gains by more: an operator on one word each is worked out, a count of ones or of leading zeros is small, words that do not meet
-- are not equal, and a test of a kind is decided where the kind is known. Assumes nothing.
use Rattle.std.specs.Prelude.{ℕ, ◌-◌, Bool, true, false, List, eqb}
use Rattle.notation.specs.Notation.{with, when◌then◌else◌, if◌equals◌then◌else◌, if◌below◌then◌else◌}
use Rattle.words.specs.Words.{width, zeros_of}
use Rattle.operators.specs.Operators.{operands_of, gives_truth_of, operate_of}
use Rattle.semantics.specs.declared.Term.{Term}
use Rattle.semantics.specs.declared.Report.{Report}
use Rattle.semantics.specs.Numbers.{truth_term, word_term, operator_term, ones_code, zeros_code, equal_code, not_code, is_word_code, is_procedure_code, truth_code}
use Rattle.semantics.specs.Spans.{truth_report, word_report, both_truths, are_spans, operator_report, term_report}

-- ---- the codes 1 to 12

-- it is one word
unfoldable pub one_word : Report → Bool
one_word x = if x.sort equals word_term then eqb x.low x.high else false

-- so is each operand
unfoldable pub one_word_each : ℕ → Report → Report → Bool
one_word_each op x y = with (one_word x) λ b. when b then (with (operands_of op) λ n. if n equals 1 then true else one_word y) else false

-- what the operator gives then
unfoldable pub worked_out : ℕ → ℕ → Report
worked_out op w = with (gives_truth_of op) λ b. when b then truth_report w w else word_report w w

-- 9 count of ones: no more than the bits below the leading zeros of the greatest word
unfoldable pub ones_range : Report → Report
ones_range x = if x.sort equals word_term then (with (zeros_of width x.high) λ z. word_report 0 (width - z)) else word_report 0 width

-- 10 leading zeros: the greatest word has the fewest
unfoldable pub zeros_range : Report → Report
zeros_range x = if x.sort equals word_term then (with (zeros_of width x.high) λ l. with (zeros_of width x.low) λ h. word_report l h) else word_report 0 width

-- 12 equal: not where one ends below the other
unfoldable pub equal_range : Report → Report → Report
equal_range x y =
    with (are_spans x y) λ b. when b then (
    if x.high below y.low then truth_report 0 0 else
    if y.high below x.low then truth_report 0 0 else
    both_truths) else both_truths

unfoldable pub operation_range : ℕ → Report → Report → Report
operation_range op x y =
    with (one_word_each op x y) λ b. when b then (with (operate_of op x.low y.low) λ w. worked_out op w) else
    if op equals ones_code then ones_range x else
    if op equals zeros_code then zeros_range x else
    if op equals equal_code then equal_range x y else
    operator_report op x y

-- ---- tests of a kind

-- 14 is a word
unfoldable pub is_word_range : Report → Report
is_word_range x = if x.sort equals 0 then both_truths else if x.sort equals word_term then truth_report 1 1 else truth_report 0 0

-- 15 is a procedure, whose kind is open
unfoldable pub is_procedure_range : Report → Report
is_procedure_range x = if x.sort equals 0 then both_truths else truth_report 0 0

-- 35 truth: only false fails
unfoldable pub truth_range : Report → Report
truth_range x = if x.sort equals truth_term then x else if x.sort equals word_term then truth_report 1 1 else both_truths

-- ---- a term
unfoldable pub operator_range : ℕ → Report → Report → Report
operator_range op x y =
    if op below not_code then operation_range op x y else
    if op equals is_word_code then is_word_range x else
    if op equals is_procedure_code then is_procedure_range x else
    if op equals truth_code then truth_range x else
    operator_report op x y

unfoldable pub term_range : List ℕ → List ℕ → Term → Report → Report → Report → Report
term_range lows highs t x y z = if t.kind equals operator_term then operator_range t.op x y else term_report lows highs t x y z
