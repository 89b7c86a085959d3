-- One input more, no place for one, and record 0 under all of them. Assumes nothing.
use Rattle.std.proofs.Common.{rules, arith}
use Rattle.std.proofs.lemmas.Result.{err_from_is_err_and}
use Rattle.interpreter.proofs.Runs.{kept_still}
use Rattle.interpreter.proofs.Inputs.{inputs_none, start_more, start_full, start_run}
use Rattle.interpreter.proofs.Run.start.Goals as goal

pub loop-k-init : goal.loop-k-init
loop-k-init c = (c.requires, (kept_still c.args.self.now, (omega arith, inputs_none c.args.self.now.store.now c.args.inputs c.args.numbers (search rules) (search rules))))

pub returns-in_err-bind : goal.returns-in_err-bind
returns-in_err-bind c =
    let p = err_from_is_err_and c.from_residual.result c.from_residual.ensures.1 in
    rw (p.1, p.2, c.in_err-bind.ensures.full.0)
    (start_full c.args.inputs c.args.numbers c.loop-k.invariant.1.0 c.loop-k.k c.loop-k.invariant.0 _ _ c.loop-k-test.true c.in_err-bind.ensures.full.1)

pub loop-k-preserved : goal.loop-k-preserved
loop-k-preserved c =
    start_more c.args.inputs c.args.numbers c.loop-k.invariant.1.0 c.loop-k.k c.loop-k.invariant.0 (search rules) (search rules) c.loop-k-test.true c.loop-k.invariant.1.1.1 _
    (rw c.from-i.ensures at c.input_value.ensures.value) c.input_value.ensures.plain c.in_ok-bind.ensures.taken

pub returns : goal.returns
returns c =
    start_run c.args.inputs c.args.numbers c.loop-k.invariant.1.0 c.loop-k.k c.loop-k.invariant.0 c.args.allowance (omega arith) c.loop-k.invariant.1.1.0 c.loop-k.invariant.1.1.1
    c.evaluate.ensures
