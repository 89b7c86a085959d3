-- The invariant: what is left of the branches leads on from the start. Assumes nothing.
use Rattle.std.proofs.Common.{drop}
use Rattle.semantics.specs.Steps.{each}
use Rattle.semantics.specs.Merge.{asserted_step}
use Rattle.terms.specs.Gives.{Leads}
use Rattle.merge.proofs.merge_asserted.Given as goal

abbrev pub invariant-loop-b : goal.invariant-loop-b
invariant-loop-b l = Leads (each asserted_step l.fn.x l.branches) l.fn.table 0 (each asserted_step l.state (drop l.b-index l.branches)) l.table
