-- What an operator term with a code from 1 to 12 reads as lies in its report. Assumes nothing.
use mathlib.Core.Path.{◌≡◌, refl}
use mathlib.Core.Bool.{Bool, true, false}
use Prim.Native.Nat.{ℕ, ◌+◌, ◌<◌}
use native.Mathlib.Omega.{arith}
use lib.Dec.{ltb}
use borrow.Author.Tests.{ltb-true, ltb-false}
use Rattle.notation.specs.Notation.{pick, with, when◌then◌else◌, if◌equals◌then◌else◌, if◌below◌then◌else◌}
use Rattle.words.specs.Words.{width, word_limit, last_word, sum_of, difference_of}
use Rattle.words.proofs.Words.{wrapped, sum_exact, difference_exact}
use Rattle.operators.specs.Operators.{row_of, operands_of, gives_truth_of, operate_of}
use Rattle.semantics.specs.declared.Reading.{Reading}
use Rattle.semantics.specs.declared.Report.{Report}
use Rattle.semantics.specs.Numbers.{truth_term, word_term, add_code, subtract_code, less_code}
use Rattle.semantics.specs.Reading.{reading_of, truth_reading, is_word, result_reading, operands_are_words, operation_reading}
use Rattle.semantics.specs.Spans.{truth_report, word_report, both_truths, all_words, are_spans, sum_report, difference_report, less_report, other_report}
use Rattle.soundness.proofs.Link.{operate_small}
use Rattle.certainty.proofs.Operate.{operate_word}
use Rattle.certainty.proofs.Covers.{Covers, a_truth, a_word, any_word, any_truth, Two, spans, truths, others}

-- ---- any code

-- a word that is worked out, or 0
result_word : (op w : ℕ) → gives_truth_of op ≡ false → w < word_limit → Covers (result_reading op w) all_words
unfolding result_reading with when◌then◌else◌
result_word op w h l = rw h (any_word w l)

-- a truth that is worked out, or false
result_truth : (op w : ℕ) → gives_truth_of op ≡ true → w < 2 → Covers (result_reading op w) both_truths
unfolding result_reading with when◌then◌else◌
result_truth op w h l = rw h (a_truth {n = w} {l = 0} {h = 1} (omega arith) (omega arith) (omega arith))

module _ (op : ℕ) (v w : Reading) (p : v.number < word_limit) (q : w.number < word_limit) where
  -- a code that gives words
  word_covers : gives_truth_of op ≡ false → Covers (operation_reading op v w) all_words
  unfolding operation_reading with when◌then◌else◌
  word_covers h = go (operands_are_words op v w)
    where
      go : (b : Bool) → Covers (pick b (result_reading op (operate_of op v.number w.number)) (result_reading op 0)) all_words
      go true = result_word op _ h (operate_word op _ _ p q)
      go false = result_word op 0 h (omega arith)

  -- a code that gives truths
  pub truth_covers : gives_truth_of op ≡ true → Covers (operation_reading op v w) both_truths
  unfolding operation_reading with when◌then◌else◌
  truth_covers h = go (operands_are_words op v w)
    where
      go : (b : Bool) → Covers (pick b (result_reading op (operate_of op v.number w.number)) (result_reading op 0)) both_truths
      go true = result_truth op _ h (operate_small op _ _ h)
      go false = result_truth op 0 h (omega arith)

  -- "any other word operator reports 0 to 65,535"; "every other truth reports both"
  pub other_covers : Covers (operation_reading op v w) (other_report op)
  unfolding other_report with when◌then◌else◌
  other_covers = go (gives_truth_of op) refl
    where
      go : (b : Bool) → gives_truth_of op ≡ b → Covers (operation_reading op v w) (pick b both_truths all_words)
      go true h = truth_covers h
      go false h = word_covers h

-- ---- 1 add
gives_add : gives_truth_of add_code ≡ false
unfolding gives_truth_of row_of
gives_add = refl

-- of what are not both spans
no_sum : (x y : Report) → are_spans x y ≡ false → sum_report x y ≡ all_words
unfolding sum_report with when◌then◌else◌
no_sum x y e = rw e

-- of spans: where the highs' sum is a word, no sum of two numbers in them wraps
pub sum_covers : {v w : Reading} {x y : Report} → Two v w x y → Covers (operation_reading add_code v w) (sum_report x y)
unfolding operation_reading operands_are_words is_word operands_of row_of result_reading gives_truth_of operate_of sum_report are_spans with when◌then◌else◌ if◌equals◌then◌else◌ if◌below◌then◌else◌
sum_covers (spans {n = n} {l = l} {h = h} {m = m} {k = k} {j = j} a b c d e f) = go (ltb last_word (h + j)) refl
  where
    go : (t : Bool) → ltb last_word (h + j) ≡ t → Covers (reading_of word_term (sum_of width n m)) (pick t all_words (word_report (sum_of width l k) (sum_of width h j)))
    go true i = any_word (sum_of width n m) (wrapped width (n + m))
    go false i =
        let z = ltb-false last_word (h + j) i in
        let low = sum_exact width l k (omega arith) in
        let sum = sum_exact width n m (omega arith) in
        let high = sum_exact width h j (omega arith) in
        a_word {n = sum_of width n m} {l = sum_of width l k} {h = sum_of width h j} (omega arith) (omega arith) (omega arith)
sum_covers (truths {n = n} {m = m} a b c d e f) = word_covers add_code (reading_of truth_term n) (reading_of truth_term m) (omega arith) (omega arith) gives_add
sum_covers {v} {w} {x} {y} (others i j p q) = rw (no_sum x y i) (word_covers add_code v w p q gives_add)

-- ---- 2 subtract
gives_subtract : gives_truth_of subtract_code ≡ false
unfolding gives_truth_of row_of
gives_subtract = refl

-- of what are not both spans
no_difference : (x y : Report) → are_spans x y ≡ false → difference_report x y ≡ all_words
unfolding difference_report with when◌then◌else◌
no_difference x y e = rw e

-- of spans: where the first starts at or above the second's high, no difference wraps
pub difference_covers : {v w : Reading} {x y : Report} → Two v w x y → Covers (operation_reading subtract_code v w) (difference_report x y)
unfolding operation_reading operands_are_words is_word operands_of row_of result_reading gives_truth_of operate_of difference_report are_spans with when◌then◌else◌ if◌equals◌then◌else◌ if◌below◌then◌else◌
difference_covers (spans {n = n} {l = l} {h = h} {m = m} {k = k} {j = j} a b c d e f) = go (ltb l j) refl
  where
    go : (t : Bool) → ltb l j ≡ t → Covers (reading_of word_term (difference_of width n m)) (pick t all_words (word_report (difference_of width l j) (difference_of width h k)))
    go true i = any_word (difference_of width n m) (wrapped width _)
    go false i =
        let z = ltb-false l j i in
        let low = difference_exact width l j (omega arith) (omega arith) in
        let difference = difference_exact width n m (omega arith) (omega arith) in
        let high = difference_exact width h k (omega arith) (omega arith) in
        a_word {n = difference_of width n m} {l = difference_of width l j} {h = difference_of width h k} (omega arith) (omega arith) (omega arith)
difference_covers (truths {n = n} {m = m} a b c d e f) = word_covers subtract_code (reading_of truth_term n) (reading_of truth_term m) (omega arith) (omega arith) gives_subtract
difference_covers {v} {w} {x} {y} (others i j p q) = rw (no_difference x y i) (word_covers subtract_code v w p q gives_subtract)

-- ---- 11 less
gives_less : gives_truth_of less_code ≡ true
unfolding gives_truth_of row_of
gives_less = refl

-- of what are not both spans
no_less : (x y : Report) → are_spans x y ≡ false → less_report x y ≡ both_truths
unfolding less_report with when◌then◌else◌
no_less x y e = rw e

-- of spans: by where the first ends and starts
pub less_covers : {v w : Reading} {x y : Report} → Two v w x y → Covers (operation_reading less_code v w) (less_report x y)
unfolding operation_reading operands_are_words is_word operands_of row_of result_reading gives_truth_of operate_of less_report are_spans with when◌then◌else◌ if◌equals◌then◌else◌ if◌below◌then◌else◌
less_covers (spans {n = n} {l = l} {h = h} {m = m} {k = k} {j = j} a b c d e f) = go (ltb n m) (ltb h k) (ltb l j) refl refl refl
  where
    go : (t r s : Bool) → ltb n m ≡ t → ltb h k ≡ r → ltb l j ≡ s → Covers (truth_reading t) (pick r (truth_report 1 1) (pick s both_truths (truth_report 0 0)))
    go true true s p q r = a_truth {n = 1} {l = 1} {h = 1} (omega arith) (omega arith) (omega arith)
    go false true s p q r = absurd (omega (arith, ltb-false n m p, ltb-true h k q))
    go t false true p q r = any_truth t
    go true false false p q r = absurd (omega (arith, ltb-true n m p, ltb-false l j r))
    go false false false p q r = a_truth {n = 0} {l = 0} {h = 0} (omega arith) (omega arith) (omega arith)
less_covers (truths {n = n} {m = m} a b c d e f) = truth_covers less_code (reading_of truth_term n) (reading_of truth_term m) (omega arith) (omega arith) gives_less
less_covers {v} {w} {x} {y} (others i j p q) = rw (no_less x y i) (truth_covers less_code v w p q gives_less)
