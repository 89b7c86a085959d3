-- From the marks that there are the terms below i come to those that all come to. Assumes nothing.
use Rattle.under.proofs.Marks.{Onward}
use Rattle.under.proofs.mark_down.Given as goal

abbrev pub invariant-loop-i : goal.invariant-loop-i
invariant-loop-i l = Onward l.table l.count l.initial.work l.i l.work
