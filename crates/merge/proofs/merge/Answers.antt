-- `merge::merge` meets its contract: the passes, then the halt test. Assumes nothing.
use mathlib.Core.Path.{ap}
use Rattle.std.proofs.lemmas.Result.{err_from_is_err_and}
use Rattle.branches.specs.Values.{folded_result}
use Rattle.merge.proofs.Merged.{assumed_stop, asserted_stop, values_stop, merged}
use Rattle.merge.proofs.merge.Goals as goal

pub returns-in_err-assumed : goal.returns-in_err-assumed
returns-in_err-assumed c =
    let u = err_from_is_err_and c.from_residual.result c.from_residual.ensures.1 in
    rw (u.1, u.2) (assumed_stop c.args.x c.args.branches.now c.merge_assumed.ensures _ c.in_err-assumed.was)

pub returns-in_err-merged : goal.returns-in_err-merged
returns-in_err-merged c =
    let u = err_from_is_err_and c.from_residual-in_err-merged.result c.from_residual-in_err-merged.ensures.1 in
    rw (u.1, u.2) (asserted_stop c.args.x c.args.branches.now c.merge_assumed.ensures c.in_ok-assumed.was c.merge_asserted.ensures _ c.in_err-merged.was)

pub returns-in_err-value : goal.returns-in_err-value
returns-in_err-value c =
    let u = err_from_is_err_and c.from_residual-in_err-value.result c.from_residual-in_err-value.ensures.1 in
    rw (u.1, u.2)
    (values_stop c.args.x c.args.branches.now c.merge_assumed.ensures c.in_ok-assumed.was c.merge_asserted.ensures c.in_ok-merged.was c.merge_values.ensures _
    (ap folded_result c.in_err-value.was))

pub returns : goal.returns
returns c =
    merged c.args.x c.args.branches.now c.merge_assumed.ensures c.in_ok-assumed.was c.merge_asserted.ensures c.in_ok-merged.was c.merge_values.ensures
    (ap folded_result c.in_ok-value.was) c.finish.ensures
