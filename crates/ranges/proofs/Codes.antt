-- Counts, equal and the tests of a kind: what is read lies in the range. Assumes nothing.
use mathlib.Core.Path.{◌≡◌, refl}
use mathlib.Core.Bool.{Bool, true, false}
use Prim.Native.Nat.{zero, suc, ◌-◌, ◌<◌}
use native.Mathlib.Omega.{arith}
use lib.Count.{ones-le, leading_le}
use lib.Dec.{eqb, ltb}
use borrow.Author.Tests.{eqb-true, ltb-true}
use Rattle.notation.specs.Notation.{pick, with, when◌then◌else◌, if◌equals◌then◌else◌, if◌below◌then◌else◌}
use Rattle.words.specs.Words.{width, word_limit, ones_of, zeros_of}
use Rattle.operators.specs.Operators.{row_of, operands_of, gives_truth_of, operate_of}
use Rattle.semantics.specs.declared.Reading.{Reading}
use Rattle.semantics.specs.declared.Report.{Report}
use Rattle.semantics.specs.Numbers.{truth_term, word_term, procedure_term, ones_code, zeros_code, equal_code}
use Rattle.semantics.specs.Reading.{reading_of, truth_reading, is_word, passes, result_reading, operands_are_words, operation_reading}
use Rattle.semantics.specs.Spans.{truth_report, word_report, both_truths, are_spans}
use Rattle.certainty.proofs.Covers.{Covers, open_kind, a_truth, a_word, any_truth, Two, spans, truths, others}
use Rattle.certainty.proofs.Operations.{truth_covers}
use Rattle.ranges.proofs.Counts.{zeros_falls, ones_bound}
use Rattle.ranges.specs.Ranges.{ones_range, zeros_range, equal_range, is_word_range, is_procedure_range, truth_range}

-- ---- counts

-- of any operand
any_ones : (v w : Reading) → v.number < word_limit → Covers (operation_reading ones_code v w) (word_report 0 width)
unfolding operation_reading result_reading gives_truth_of row_of operate_of with when◌then◌else◌ if◌equals◌then◌else◌
any_ones v w p = go (operands_are_words ones_code v w)
  where
    go : (b : Bool) → Covers (pick b (reading_of word_term (ones_of v.number)) (reading_of word_term 0)) (word_report 0 width)
    go true = let o = ones-le width v.number p in a_word {n = ones_of v.number} {l = 0} {h = width} (omega arith) (omega arith) (omega arith)
    go false = a_word {n = 0} {l = 0} {h = width} (omega arith) (omega arith) (omega arith)

any_zeros : (v w : Reading) → Covers (operation_reading zeros_code v w) (word_report 0 width)
unfolding operation_reading result_reading gives_truth_of row_of operate_of with when◌then◌else◌ if◌equals◌then◌else◌
any_zeros v w = go (operands_are_words zeros_code v w)
  where
    go : (b : Bool) → Covers (pick b (reading_of word_term (zeros_of width v.number)) (reading_of word_term 0)) (word_report 0 width)
    go true = let o = leading_le width v.number in a_word {n = zeros_of width v.number} {l = 0} {h = width} (omega arith) (omega arith) (omega arith)
    go false = a_word {n = 0} {l = 0} {h = width} (omega arith) (omega arith) (omega arith)

-- of a span
pub ones_covers : {v : Reading} {x : Report} (w : Reading) → Covers v x → Covers (operation_reading ones_code v w) (ones_range x)
unfolding operation_reading operands_are_words is_word operands_of result_reading gives_truth_of row_of operate_of ones_range with when◌then◌else◌ if◌equals◌then◌else◌
ones_covers {v} w (open_kind p) = any_ones v w p
ones_covers w (a_truth {n = n} p q r) = any_ones (reading_of truth_term n) w (omega arith)
ones_covers w (a_word {n = n} {l = l} {h = h} p q r) =
    let o = ones_bound width n h q r in
    a_word {n = ones_of n} {l = 0} {h = width - zeros_of width h} (omega arith) o (omega arith)

pub zeros_covers : {v : Reading} {x : Report} (w : Reading) → Covers v x → Covers (operation_reading zeros_code v w) (zeros_range x)
unfolding operation_reading operands_are_words is_word operands_of result_reading gives_truth_of row_of operate_of zeros_range with when◌then◌else◌ if◌equals◌then◌else◌
zeros_covers {v} w (open_kind p) = any_zeros v w
zeros_covers w (a_truth {n = n} p q r) = any_zeros (reading_of truth_term n) w
zeros_covers w (a_word {n = n} {l = l} {h = h} p q r) =
    let least = zeros_falls width n h q r in
    let most = zeros_falls width l n p (omega arith) in
    let small = leading_le width l in
    a_word {n = zeros_of width n} {l = zeros_of width h} {h = zeros_of width l} least most (omega arith)

-- ---- equal
gives_equal : gives_truth_of equal_code ≡ true
unfolding gives_truth_of row_of
gives_equal = refl

-- of what are not both spans
no_equal : (x y : Report) → are_spans x y ≡ false → equal_range x y ≡ both_truths
unfolding equal_range with when◌then◌else◌
no_equal x y e = rw e

any_equal : (v w : Reading) → v.number < word_limit → w.number < word_limit → Covers (operation_reading equal_code v w) both_truths
any_equal v w p q = truth_covers equal_code v w p q gives_equal

pub equal_covers : {v w : Reading} {x y : Report} → Two v w x y → Covers (operation_reading equal_code v w) (equal_range x y)
unfolding operation_reading operands_are_words is_word operands_of row_of result_reading gives_truth_of operate_of equal_range are_spans with when◌then◌else◌ if◌equals◌then◌else◌ if◌below◌then◌else◌
equal_covers (spans {n = n} {l = l} {h = h} {m = m} {k = k} {j = j} a b c d e f) = go (eqb n m) (ltb h k) (ltb j l) refl refl refl
  where
    apart : Covers (truth_reading false) (truth_report 0 0)
    apart = a_truth {n = 0} {l = 0} {h = 0} (omega arith) (omega arith) (omega arith)

    go : (t r s : Bool) → eqb n m ≡ t → ltb h k ≡ r → ltb j l ≡ s → Covers (truth_reading t) (pick r (truth_report 0 0) (pick s (truth_report 0 0) both_truths))
    go true true s p q r = absurd (omega (arith, eqb-true n m p, ltb-true h k q))
    go false true s p q r = apart
    go true false true p q r = absurd (omega (arith, eqb-true n m p, ltb-true j l r))
    go false false true p q r = apart
    go t false false p q r = any_truth t
equal_covers (truths {n = n} {m = m} a b c d e f) = any_equal (reading_of truth_term n) (reading_of truth_term m) (omega arith) (omega arith)
equal_covers {v} {w} {x} {y} (others i j p q) = rw (no_equal x y i) (any_equal v w p q)

-- ---- tests of a kind
true_covers : Covers (truth_reading true) (truth_report 1 1)
true_covers = a_truth {n = 1} {l = 1} {h = 1} (omega arith) (omega arith) (omega arith)

false_covers : Covers (truth_reading false) (truth_report 0 0)
false_covers = a_truth {n = 0} {l = 0} {h = 0} (omega arith) (omega arith) (omega arith)

pub is_word_covers : {v : Reading} {x : Report} → Covers v x → Covers (truth_reading (is_word v)) (is_word_range x)
unfolding is_word is_word_range if◌equals◌then◌else◌
is_word_covers {v} (open_kind p) = any_truth (eqb v.sort word_term)
is_word_covers (a_truth p q r) = false_covers
is_word_covers (a_word p q r) = true_covers

pub is_procedure_covers : {v : Reading} {x : Report} → Covers v x → Covers (truth_reading (eqb v.sort procedure_term)) (is_procedure_range x)
unfolding is_procedure_range if◌equals◌then◌else◌
is_procedure_covers {v} (open_kind p) = any_truth (eqb v.sort procedure_term)
is_procedure_covers (a_truth p q r) = false_covers
is_procedure_covers (a_word p q r) = false_covers

pub truth_code_covers : {v : Reading} {x : Report} → Covers v x → Covers (if v.sort equals 0 then truth_reading false else truth_reading (passes v)) (truth_range x)
unfolding passes truth_range if◌equals◌then◌else◌
truth_code_covers {v} (open_kind p) = go (eqb v.sort 0) (eqb v.sort truth_term)
  where
    go : (b c : Bool) → Covers (pick b (truth_reading false) (truth_reading (pick c (eqb v.number 1) true))) both_truths
    go true c = any_truth false
    go false c = any_truth (pick c (eqb v.number 1) true)
truth_code_covers (a_truth {n = zero} p q r) = a_truth p q r
truth_code_covers (a_truth {n = suc zero} p q r) = a_truth p q r
truth_code_covers (a_truth {n = suc (suc n)} p q r) = absurd (omega arith)
truth_code_covers (a_word p q r) = true_covers
