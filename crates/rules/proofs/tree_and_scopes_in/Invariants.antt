-- What holds when the pass comes to a record is `Reached` (proofs/Pass.antt). Assumes nothing.
use Rattle.rules.proofs.Pass.{Reached}
use Rattle.rules.proofs.tree_and_scopes_in.Given as goal

abbrev pub invariant-loop-i : goal.invariant-loop-i
invariant-loop-i l = Reached l.rule l.n l.i l.marks l.bindings l.scoped l.turns
