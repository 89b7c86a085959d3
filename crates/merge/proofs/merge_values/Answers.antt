-- `merge::merge_values` meets its contract: a step for each branch, the last first. Assumes nothing.
use mathlib.Core.Path.{ap}
use mathlib.Core.List.{reverse}
use Rattle.std.proofs.lemmas.List.{nil_from_length}
use Rattle.std.proofs.lemmas.Result.{err_from_is_err_and}
use Rattle.branches.specs.Values.{folded_result}
use Rattle.merge.proofs.Turns.{turn_end, turn_stop, turn_next}
use Rattle.merge.proofs.Values.{value_turn, values_start, values_last}
use Rattle.merge.proofs.merge_values.Goals as goal

pub loop-b-init : goal.loop-b-init
loop-b-init c = values_start _ c.into_iter-b-iterator.result.iter.rest.now _ cc

pub returns-in_err-value : goal.returns-in_err-value
returns-in_err-value c =
    let u = err_from_is_err_and c.from_residual.result c.from_residual.ensures.1 in
    rw (u.1, u.2)
    (turn_stop value_turn _ c.loop-b.invariant _ _ (values_last _ _ _ c.in-Some.ensures.steps) c.merge_value.ensures _ (ap folded_result c.in_err-value.was))

pub loop-b-preserved : goal.loop-b-preserved
loop-b-preserved c =
    turn_next value_turn _ c.loop-b.invariant _ _ (values_last _ _ _ c.in-Some.ensures.steps) c.merge_value.ensures (ap folded_result c.in_ok-value.was)

pub returns : goal.returns
returns c = turn_end value_turn _ c.loop-b.invariant (ap reverse (nil_from_length _ c.in-None.ensures.steps.0))
