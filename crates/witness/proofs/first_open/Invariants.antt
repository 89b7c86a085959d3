-- `witness::first_open`: the inputs before i are one value each. Assumes nothing.
use Rattle.witness.specs.Search.{Single}
use Rattle.witness.proofs.first_open.Given as goal

abbrev pub invariant-loop-i : goal.invariant-loop-i
invariant-loop-i l = Single l.bounds.lows l.bounds.highs l.i
