-- What a not, an and, an or and a choice read as lies in their reports. Assumes nothing.
use mathlib.Core.Path.{◌≡◌, refl}
use mathlib.Core.Bool.{Bool, true, false, not, ◌&&◌, ◌||◌}
use Prim.Native.Nat.{zero, suc, ◌-◌, min, max}
use native.Mathlib.Omega.{arith}
use lib.Dec.{eqb}
use borrow.Author.Tests.{eqb-true, eqb-false}
use Rattle.notation.specs.Notation.{pick, with, when◌then◌else◌, if◌equals◌then◌else◌}
use Rattle.semantics.specs.declared.Reading.{Reading}
use Rattle.semantics.specs.declared.Report.{Report}
use Rattle.semantics.specs.Reading.{truth_reading, is_true, is_truth}
use Rattle.semantics.specs.Spans.{both_truths, only_true, only_false, are_truths, not_report, and_report, or_report, cover_of, choice_report}
use Rattle.certainty.proofs.Covers.{Covers, open_kind, a_truth, a_word, number_small, any_truth, Two, spans, truths, others}

-- ---- not, and, or: what is no truth is an operand of the wrong kind, which they read as false
pub not_covers : {v : Reading} {x : Report} → Covers v x → Covers (truth_reading (is_truth v && not (is_true v))) (not_report x)
unfolding is_truth is_true not_report with if◌equals◌then◌else◌
not_covers {v} (open_kind p) = any_truth (is_truth v && not (is_true v))
not_covers (a_truth {n = zero} {l = l} {h = h} p q r) = a_truth {n = 1} {l = 1 - h} {h = 1 - l} (omega arith) (omega arith) (omega arith)
not_covers (a_truth {n = suc zero} {l = l} {h = h} p q r) = a_truth {n = 0} {l = 1 - h} {h = 1 - l} (omega arith) (omega arith) (omega arith)
not_covers (a_truth {n = suc (suc n)} p q r) = absurd (omega arith)
not_covers (a_word p q r) = any_truth false

-- of what are not both truths
no_and : (x y : Report) → are_truths x y ≡ false → and_report x y ≡ both_truths
unfolding and_report with when◌then◌else◌
no_and x y e = rw e

-- the smaller of two truths
pub and_covers : {v w : Reading} {x y : Report} → Two v w x y → Covers (truth_reading (is_true v && is_true w)) (and_report x y)
unfolding is_truth is_true and_report are_truths with when◌then◌else◌ if◌equals◌then◌else◌
and_covers (spans a b c d e f) = any_truth false
and_covers (truths {n = zero} {l = l} {h = h} {m = m} {k = k} {j = j} a b c d e f) = a_truth {n = 0} {l = min l k} {h = min h j} (omega arith) (omega arith) (omega arith)
and_covers (truths {n = suc zero} {l = l} {h = h} {m = zero} {k = k} {j = j} a b c d e f) = a_truth {n = 0} {l = min l k} {h = min h j} (omega arith) (omega arith) (omega arith)
and_covers (truths {n = suc zero} {l = l} {h = h} {m = suc zero} {k = k} {j = j} a b c d e f) = a_truth {n = 1} {l = min l k} {h = min h j} (omega arith) (omega arith) (omega arith)
and_covers (truths {n = suc zero} {m = suc (suc m)} a b c d e f) = absurd (omega arith)
and_covers (truths {n = suc (suc n)} a b c d e f) = absurd (omega arith)
and_covers {v} {w} {x} {y} (others i j p q) = rw (no_and x y j) (any_truth (is_true v && is_true w))

-- of what are not both truths
no_or : (x y : Report) → are_truths x y ≡ false → or_report x y ≡ both_truths
unfolding or_report with when◌then◌else◌
no_or x y e = rw e

-- the larger
pub or_covers : {v w : Reading} {x y : Report} → Two v w x y → Covers (truth_reading ((is_truth v && is_truth w) && (is_true v || is_true w))) (or_report x y)
unfolding is_truth is_true or_report are_truths with when◌then◌else◌ if◌equals◌then◌else◌
or_covers (spans a b c d e f) = any_truth false
or_covers (truths {n = zero} {l = l} {h = h} {m = zero} {k = k} {j = j} a b c d e f) = a_truth {n = 0} {l = max l k} {h = max h j} (omega arith) (omega arith) (omega arith)
or_covers (truths {n = zero} {l = l} {h = h} {m = suc zero} {k = k} {j = j} a b c d e f) = a_truth {n = 1} {l = max l k} {h = max h j} (omega arith) (omega arith) (omega arith)
or_covers (truths {n = zero} {m = suc (suc m)} a b c d e f) = absurd (omega arith)
or_covers (truths {n = suc zero} {l = l} {h = h} {m = m} {k = k} {j = j} a b c d e f) = a_truth {n = 1} {l = max l k} {h = max h j} (omega arith) (omega arith) (omega arith)
or_covers (truths {n = suc (suc n)} a b c d e f) = absurd (omega arith)
or_covers {v} {w} {x} {y} (others i j p q) = rw (no_or x y j) (any_truth ((is_truth v && is_truth w) && (is_true v || is_true w)))

-- ---- choices

-- the smallest report that covers both sides covers each
cover_left : {v w : Reading} {x y : Report} → Covers v x → Covers w y → Covers v (cover_of x y)
unfolding cover_of with if◌equals◌then◌else◌
cover_left (open_kind p) (open_kind a) = open_kind p
cover_left (open_kind p) (a_truth a b c) = open_kind p
cover_left (open_kind p) (a_word a b c) = open_kind p
cover_left (a_truth p q r) (open_kind a) = open_kind (number_small (a_truth p q r))
cover_left (a_truth {n = n} {l = l} {h = h} p q r) (a_truth {n = m} {l = k} {h = j} a b c) = a_truth {n = n} {l = min l k} {h = max h j} (omega arith) (omega arith) (omega arith)
cover_left (a_truth p q r) (a_word a b c) = open_kind (number_small (a_truth p q r))
cover_left (a_word p q r) (open_kind a) = open_kind (number_small (a_word p q r))
cover_left (a_word p q r) (a_truth a b c) = open_kind (number_small (a_word p q r))
cover_left (a_word {n = n} {l = l} {h = h} p q r) (a_word {n = m} {l = k} {h = j} a b c) = a_word {n = n} {l = min l k} {h = max h j} (omega arith) (omega arith) (omega arith)

cover_right : {v w : Reading} {x y : Report} → Covers v x → Covers w y → Covers w (cover_of x y)
unfolding cover_of with if◌equals◌then◌else◌
cover_right (open_kind p) (open_kind a) = open_kind a
cover_right (open_kind p) (a_truth a b c) = open_kind (number_small (a_truth a b c))
cover_right (open_kind p) (a_word a b c) = open_kind (number_small (a_word a b c))
cover_right (a_truth p q r) (open_kind a) = open_kind a
cover_right (a_truth {n = n} {l = l} {h = h} p q r) (a_truth {n = m} {l = k} {h = j} a b c) = a_truth {n = m} {l = min l k} {h = max h j} (omega arith) (omega arith) (omega arith)
cover_right (a_truth p q r) (a_word a b c) = open_kind (number_small (a_word a b c))
cover_right (a_word p q r) (open_kind a) = open_kind a
cover_right (a_word p q r) (a_truth a b c) = open_kind (number_small (a_truth a b c))
cover_right (a_word {n = n} {l = l} {h = h} p q r) (a_word {n = m} {l = k} {h = j} a b c) = a_word {n = m} {l = min l k} {h = max h j} (omega arith) (omega arith) (omega arith)

-- "a choice reports the decided side, else the smallest report that covers both"
pub choice_covers : {u v w : Reading} {x y z : Report} → Covers u x → Covers v y → Covers w z → Covers (when is_true u then v else w) (choice_report x y z)
unfolding is_true choice_report only_true only_false with when◌then◌else◌ if◌equals◌then◌else◌
choice_covers {u} {v} {w} {x} {y} {z} (open_kind p) c d = go (is_true u)
  where
    go : (b : Bool) → Covers (pick b v w) (cover_of y z)
    go true = cover_left c d
    go false = cover_right c d
choice_covers {u} {v} {w} {x} {y} {z} (a_truth {n = n} {l = l} {h = h} p q r) c d = go (eqb n 1) (eqb l 1) (eqb h 0) refl refl refl
  where
    go : (b s t : Bool) → eqb n 1 ≡ b → eqb l 1 ≡ s → eqb h 0 ≡ t → Covers (pick b v w) (pick s y (pick t z (cover_of y z)))
    go true true t i j k = c
    go false true t i j k = absurd (omega (arith, eqb-false n 1 i, eqb-true l 1 j))
    go true false true i j k = absurd (omega (arith, eqb-true n 1 i, eqb-true h 0 k))
    go false false true i j k = d
    go true false false i j k = cover_left c d
    go false false false i j k = cover_right c d
choice_covers (a_word p q r) c d = cover_right c d
