-- The invariant: what is left of the branches, the last first, leads on from the start. Assumes nothing.
use Rattle.std.proofs.Common.{reverse}
use Rattle.std.specs.Slice.Iter.{iter_rest}
use Rattle.std.specs.Iterator.Adapters.{rev_source}
use Rattle.semantics.specs.Steps.{each}
use Rattle.semantics.specs.Merge.{merge_values_of}
use Rattle.terms.specs.Gives.{Leads}
use Rattle.branches.specs.Values.{folded_of}
use Rattle.merge.proofs.Values.{value_turn}
use Rattle.merge.proofs.merge_values.Given as goal

abbrev pub invariant-loop-b : goal.invariant-loop-b
invariant-loop-b l =
    Leads (merge_values_of l.branches) l.fn.table 0 (each value_turn (folded_of l.value) (reverse (iter_rest (rev_source l.b-iterator)))) l.table
