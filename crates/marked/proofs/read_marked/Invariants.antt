-- The marks are as they were, and the marked ones of the first i terms are read. Assumes nothing.
use Rattle.marked.specs.Marked.{ReadsMarked}
use Rattle.marked.proofs.read_marked.Given as goal

abbrev pub invariant-loop-i : goal.invariant-loop-i
invariant-loop-i l = ReadsMarked l.numbers l.table l.i l.initial.work l.work
