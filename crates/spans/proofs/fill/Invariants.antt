-- The list has the reports of the first i terms. Assumes nothing.
use Rattle.spans.specs.Lists.{Laid}
use Rattle.spans.proofs.fill.Given as goal

abbrev pub invariant-loop-i : goal.invariant-loop-i
invariant-loop-i l = Laid l.lows l.highs l.table l.initial.list l.i l.list
