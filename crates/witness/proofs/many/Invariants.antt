-- `witness::many`: fewer than 32 readings are counted. Assumes nothing.
use Rattle.std.proofs.Common.{◌<◌}
use Rattle.witness.proofs.many.Given as goal

abbrev pub invariant-loop-low : goal.invariant-loop-low
invariant-loop-low l = l.n < 32
