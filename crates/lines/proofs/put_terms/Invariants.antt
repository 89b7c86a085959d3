-- The lines of the terms before i stand in the buffer. Assumes nothing.
use Rattle.lines.proofs.Lines.{Shown}
use Rattle.lines.proofs.put_terms.Given as goal

abbrev pub invariant-loop-i : goal.invariant-loop-i
invariant-loop-i l = Shown l.fn.out l.at l.table l.from l.to l.out l.end l.i
