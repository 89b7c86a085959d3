-- `merge::merge_asserted` meets its contract: a step for each branch. Assumes nothing.
use Rattle.std.proofs.Common.{arith}
use Rattle.std.proofs.lemmas.List.{drop_more, drop_all}
use Rattle.semantics.specs.Merge.{asserted_step}
use Rattle.merge.proofs.Turns.{turn_end, turn_stopped, turn_next}
use Rattle.merge.proofs.merge_asserted.Goals as goal

pub returns-in_err-state : goal.returns-in_err-state
returns-in_err-state c =
    turn_stopped asserted_step _ c.loop-b.invariant _ _ (drop_more c.args.branches.now c.loop-b.b-index _ (omega arith)) c.merge_asserted.ensures _ c.in_err-state.was _
    c.from_residual.ensures

pub loop-b-preserved : goal.loop-b-preserved
loop-b-preserved c =
    turn_next asserted_step _ c.loop-b.invariant _ _ (drop_more c.args.branches.now c.loop-b.b-index _ (omega arith)) c.merge_asserted.ensures c.in_ok-state.was

pub returns : goal.returns
returns c = turn_end asserted_step _ c.loop-b.invariant (drop_all c.loop-b.b-index c.args.branches.now (omega arith))
