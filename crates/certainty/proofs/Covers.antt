-- A reading that lies in a report, as a relation that is taken apart by the report's sort, and what follows of it. In this file and those that take
-- it apart n is the number read, from l to h; m, from k to j, is a second operand's. Assumes nothing.
use mathlib.Core.Path.{◌≡◌, refl}
use mathlib.Core.Bool.{Bool, true, false, ◌&&◌}
use Prim.Native.Nat.{ℕ, ◌<◌, ◌≤◌}
use native.Mathlib.Omega.{arith}
use borrow.Author.Tests.{eqb-true, le-leb}
use Rattle.notation.specs.Notation.{if◌equals◌then◌else◌}
use Rattle.words.specs.Words.{word_limit, last_word}
use Rattle.semantics.specs.declared.Reading.{Reading}
use Rattle.semantics.specs.declared.Report.{Report}
use Rattle.semantics.specs.Numbers.{truth_term, word_term}
use Rattle.semantics.specs.Reading.{reading_of, truth_reading, is_true}
use Rattle.semantics.specs.Spans.{report_of, truth_report, word_report, both_truths, all_words, only_true, are_spans, are_truths}
use Rattle.certainty.specs.Certain.{lies}

-- A truth's report ends at 0 or 1 and a span at a word. What an open kind reads as is a number that a word holds too.
pub data Covers : Reading → Report → Type 0 where
  open_kind : {v : Reading} {l h : ℕ} → v.number < word_limit → Covers v (report_of 0 l h)
  a_truth : {n l h : ℕ} → l ≤ n → n ≤ h → h < 2 → Covers (reading_of truth_term n) (truth_report l h)
  a_word : {n l h : ℕ} → l ≤ n → n ≤ h → h < word_limit → Covers (reading_of word_term n) (word_report l h)

-- two tests that hold
both_hold : {a b : Bool} → a ≡ true → b ≡ true → (a && b) ≡ true
both_hold p q = rw (p, q)

-- It lies there by the test.
pub covered : {v : Reading} {x : Report} → Covers v x → lies v x ≡ true
unfolding lies if◌equals◌then◌else◌
covered (open_kind p) = refl
covered (a_truth {n = n} {l = l} {h = h} p q r) = both_hold (le-leb l n p) (le-leb n h q)
covered (a_word {n = n} {l = l} {h = h} p q r) = both_hold (le-leb l n p) (le-leb n h q)

-- What can only be true reads as true.
pub reads_true : {v : Reading} {x : Report} → Covers v x → only_true x ≡ true → is_true v ≡ true
unfolding only_true is_true if◌equals◌then◌else◌
reads_true (open_kind p) e = let w : ◌≡◌ {A = ℕ} 0 1 = cc in absurd (omega arith)
reads_true (a_truth {n = n} {l = l} p q r) e = let z = eqb-true l 1 e in let i : n ≡ 1 = omega arith in rw i
reads_true (a_word p q r) e = let w : ◌≡◌ {A = ℕ} 0 1 = cc in absurd (omega arith)

-- Its number is a word.
pub number_small : {v : Reading} {x : Report} → Covers v x → v.number < word_limit
number_small (open_kind p) = p
number_small (a_truth p q r) = omega arith
number_small (a_word p q r) = omega arith

-- Any word, and any truth, lies in the report that says the least.
pub any_word : (n : ℕ) → n < word_limit → Covers (reading_of word_term n) all_words
any_word n h = a_word {n = n} {l = 0} {h = last_word} (omega arith) (omega arith) (omega arith)

pub any_truth : (b : Bool) → Covers (truth_reading b) both_truths
any_truth true = a_truth {n = 1} {l = 0} {h = 1} (omega arith) (omega arith) (omega arith)
any_truth false = a_truth {n = 0} {l = 0} {h = 1} (omega arith) (omega arith) (omega arith)

-- ---- two operands: spans, truths, or others
pub data Two : Reading → Reading → Report → Report → Type 0 where
  spans : {n l h m k j : ℕ} → l ≤ n → n ≤ h → h < word_limit → k ≤ m → m ≤ j → j < word_limit
      → Two (reading_of word_term n) (reading_of word_term m) (word_report l h) (word_report k j)
  truths : {n l h m k j : ℕ} → l ≤ n → n ≤ h → h < 2 → k ≤ m → m ≤ j → j < 2
      → Two (reading_of truth_term n) (reading_of truth_term m) (truth_report l h) (truth_report k j)
  others : {v w : Reading} {x y : Report} → are_spans x y ≡ false → are_truths x y ≡ false → v.number < word_limit → w.number < word_limit → Two v w x y

-- which of them they are
pub two : {v w : Reading} {x y : Report} → Covers v x → Covers w y → Two v w x y
unfolding are_spans are_truths if◌equals◌then◌else◌
two (open_kind p) c = others refl refl p (number_small c)
two (a_truth p q r) (open_kind a) = others refl refl (number_small (a_truth p q r)) a
two (a_truth p q r) (a_truth a b c) = truths p q r a b c
two (a_truth p q r) (a_word a b c) = others refl refl (number_small (a_truth p q r)) (number_small (a_word a b c))
two (a_word p q r) (open_kind a) = others refl refl (number_small (a_word p q r)) a
two (a_word p q r) (a_truth a b c) = others refl refl (number_small (a_word p q r)) (number_small (a_truth a b c))
two (a_word p q r) (a_word a b c) = spans p q r a b c
