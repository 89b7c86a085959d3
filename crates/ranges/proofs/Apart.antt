-- Equal on spans, by computation: those that have no word in common, and those that meet. Assumes nothing.
use mathlib.Core.Path.{◌≡◌, refl}
use Rattle.notation.specs.Notation.{with, when◌then◌else◌, if◌equals◌then◌else◌, if◌below◌then◌else◌}
use Rattle.semantics.specs.Spans.{truth_report, word_report, both_truths, are_spans}
use Rattle.ranges.specs.Ranges.{equal_range}

pub record Apart : Type 0 where
  pub ends_below : equal_range (word_report 3 5) (word_report 6 9) ≡ truth_report 0 0
  pub starts_above : equal_range (word_report 6 9) (word_report 3 5) ≡ truth_report 0 0
  -- 5 is in both
  pub ends_at : equal_range (word_report 3 5) (word_report 5 9) ≡ both_truths
  pub starts_at : equal_range (word_report 5 9) (word_report 3 5) ≡ both_truths
  -- a truth is no span of words
  pub of_a_truth : equal_range (truth_report 0 0) (word_report 6 9) ≡ both_truths

pub apart_instances : Apart
unfolding equal_range are_spans with when◌then◌else◌ if◌equals◌then◌else◌ if◌below◌then◌else◌
apart_instances = record { ends_below = refl; starts_above = refl; ends_at = refl; starts_at = refl; of_a_truth = refl }
