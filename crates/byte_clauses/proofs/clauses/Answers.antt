-- `byte_clauses::clauses` meets its contract: 255 or 3 of the forms, then each answer of the operation. Assumes nothing.
use Rattle.std.proofs.Common.{rules, refl, ap, arith}
use Rattle.std.specs.declared.result.Result.TheVariants.{Err}
use Rattle.writer.specs.Answer.{written_as}
use Rattle.byte_clauses.proofs.Answers.{formed_one, unformed, with_none, with_length}
use Rattle.byte_clauses.proofs.clauses.Goals as goal

pub returns-in-Err : goal.returns-in-Err
returns-in-Err c = unformed _ _ _ _ _ _ c.in-Err.ensures c.in-Err.refusal refl c.number.ensures

pub bounds-length-0 : goal.bounds-length-0
bounds-length-0 c = let one = formed_one _ _ _ _ c.in_default.ensures refl in search rules

pub bounds-length-0-in-TooLong : goal.bounds-length-0-in-TooLong
bounds-length-0-in-TooLong c = let one = formed_one _ _ _ _ c.in_default.ensures refl in search rules

pub returns-in-Ok : goal.returns-in-Ok
returns-in-Ok c =
    with_length _ _ _ _ _ _ c.in_default.ensures refl c.session_in.ensures c.result_in.ensures c.goal_in.ensures c.in-Ok.ensures refl (omega arith) (omega arith) refl refl

pub returns-in-TooLong : goal.returns-in-TooLong
returns-in-TooLong c =
    with_length _ _ _ _ _ _ c.in_default.ensures refl c.session_in.ensures c.result_in.ensures c.goal_in.ensures c.in-Err-written.ensures (ap (λ k. written_as (Err k)) c.in-TooLong.is) (omega arith) (omega arith) c.number-in-TooLong.ensures refl

pub returns-in-Refused : goal.returns-in-Refused
returns-in-Refused c =
    with_none _ _ _ _ _ _ c.in_default.ensures refl c.session_in.ensures c.result_in.ensures c.goal_in.ensures c.in-Err-written.ensures (ap (λ k. written_as (Err k)) c.in-Refused.is) c.in-Refused.refusal refl refl _ c.number-in-Refused.ensures
