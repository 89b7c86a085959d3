-- The place that is left, along the chain that is left, is the place asked for. Assumes nothing.
use Rattle.std.specs.Prelude.{◌≡◌, ◌-◌}
use Rattle.semantics.specs.Evaluation.{place_of}
use Rattle.terms.specs.Gives.{held}
use Rattle.expressions.proofs.place.Given as goal

abbrev pub invariant-loop : goal.invariant-loop
invariant-loop l = place_of (l.p - l.counter) l.chain (held l.table) ≡ place_of l.p l.env (held l.table)
