-- What is left of the or, from a leaf on, leads from the start. Assumes nothing.
use Rattle.std.specs.Prelude.{drop}
use Rattle.semantics.specs.Steps.{each}
use Rattle.semantics.specs.Numbers.{false_number}
use Rattle.semantics.specs.Walk.{or_target_of}
use Rattle.terms.specs.Gives.{Leads}
use Rattle.walk.proofs.any_target.Given as goal

abbrev pub invariant-loop-leaf : goal.invariant-loop-leaf
invariant-loop-leaf l = Leads (each or_target_of false_number l.leaves) l.initial.table 0 (each or_target_of l.any (drop l.leaf-index l.leaves)) l.table
