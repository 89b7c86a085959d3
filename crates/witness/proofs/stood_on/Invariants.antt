-- `witness::stood_on`: of the inputs, those that the first i terms name have their highs. Assumes nothing.
use Rattle.witness.specs.Search.{Stood}
use Rattle.witness.proofs.stood_on.Given as goal

abbrev pub invariant-loop-i : goal.invariant-loop-i
invariant-loop-i l = Stood l.table l.bounds.lows l.bounds.highs l.work l.i l.highs
