-- `boxes::fill`: the marks are as they were, and what the first i terms read as lies in their ranges. Assumes nothing.
use Rattle.std.proofs.Common.{◌≡◌, length}
use Rattle.boxes.specs.Boxes.{Ranged}
use Rattle.boxes.proofs.fill.Given as goal

abbrev pub invariant-loop-i : goal.invariant-loop-i
invariant-loop-i l = (length l.tops ≡ length l.initial.tops) × Ranged l.table l.bounds.lows l.bounds.highs l.i l.initial.work l.work l.tops
