-- `byte_witness::witness`: 255 or 3 of the forms, then each answer of the operation. Assumes nothing.
use mathlib.Core.Path.{refl}
use Rattle.witness.proofs.Whole.{number_some}
use Rattle.byte_witness.proofs.Answers.{hit_unformed, hit_refused, hit_said_lem}
use Rattle.byte_witness.proofs.witness.Goals as goal

pub returns-in-Err : goal.returns-in-Err
returns-in-Err c =
    hit_unformed c.args.session.now c.args.table.now c.args.res.now c.args.goal.now c.args.lows.now c.args.highs.now c.args.work.now c.args.hit.now c.in-Err.refusal c.in-Err.ensures c.number.ensures c.wipe.ensures

pub returns-in-Ok : goal.returns-in-Ok
returns-in-Ok c =
    hit_said_lem c.args.session.now c.args.table.now c.args.res.now c.args.goal.now c.args.lows.now c.args.highs.now c.args.work.now c.args.hit.now c.in_default.ensures c.session_in.ensures c.result_in.ensures c.goal_in.ensures c.numbers_in.ensures c.numbers_in-2.ensures c.in-Ok.ensures refl c.put_hit.ensures

pub returns-in-Err-found : goal.returns-in-Err-found
returns-in-Err-found c =
    hit_refused c.args.session.now c.args.table.now c.args.res.now c.args.goal.now c.args.lows.now c.args.highs.now c.args.work.now c.args.hit.now c.in_default.ensures c.session_in.ensures c.result_in.ensures c.goal_in.ensures c.numbers_in.ensures c.numbers_in-2.ensures c.in-Err-found.ensures (number_some c.in-Err-found.refusal) c.number-in-Err-found.ensures
