-- The invariant: what is left of the branches leads on from the start. Assumes nothing.
use Rattle.std.proofs.Common.{drop}
use Rattle.semantics.specs.Steps.{each}
use Rattle.semantics.specs.Merge.{assumed_step}
use Rattle.terms.specs.Gives.{Leads}
use Rattle.merge.proofs.merge_assumed.Given as goal

abbrev pub invariant-loop-b : goal.invariant-loop-b
invariant-loop-b l = Leads (each assumed_step l.fn.x l.branches) l.fn.table 0 (each assumed_step l.state (drop l.b-index l.branches)) l.table
