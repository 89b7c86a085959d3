-- An evaluation that the tests of the forms refuse, one that is refused, and one that is not. Assumes nothing.
use Rattle.std.proofs.Common.{rules}
use Rattle.byte_evaluating.proofs.Answers.{unformed, evaluate_refused, evaluate_accepted}
use Rattle.byte_evaluating.proofs.evaluate.Goals as goal

pub returns-in-Err : goal.returns-in-Err
returns-in-Err c = unformed _ _ _ _ _ c.in-Err.ensures c.in-Err.refusal (search rules) c.number.ensures

pub returns-then-refusal-ne0 : goal.returns-then-refusal-ne0
returns-then-refusal-ne0 c = evaluate_refused _ _ _ _ _ c.in_default.ensures (search rules) c.session_in.ensures c.enter_once-entered.ensures c.put_answer-refusal.ensures c.if-refusal-ne0.true

pub returns : goal.returns
returns c =
    evaluate_accepted _ _ _ _ _ c.in_default.ensures (search rules) c.session_in.ensures c.enter_once-entered.ensures c.put_answer-refusal.ensures c.if-refusal-ne0.false c.put_session.ensures.0 c.put_session.ensures.1
