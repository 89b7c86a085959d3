-- The marks are those under the result, and the answers for the first j samples are in place. Assumes nothing.
use Rattle.marked.specs.Marked.{Under}
use Rattle.samples.specs.Answers.{Answers}
use Rattle.samples.proofs.read_each.Given as goal

abbrev pub invariant-loop-j : goal.invariant-loop-j
invariant-loop-j l = record {
  marked : Under l.table l.session.count l.res l.work;
  answers : Answers l.session.inputs l.table l.session.count l.res l.numbers l.initial.answers l.j l.answers;
}
