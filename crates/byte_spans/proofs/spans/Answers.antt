-- A form is refused, or the operation answers for what the forms stand for. Assumes nothing.
use Rattle.std.proofs.Common.{refl, ◌∙◌}
use Rattle.byte_spans.proofs.Answers.{above_zero, spans_unformed_lem, spans_formed}
use Rattle.byte_spans.proofs.spans.Goals as goal

pub returns-in-Err : goal.returns-in-Err
returns-in-Err c = spans_unformed_lem _ _ _ _ _ (c.number.ensures ∙ c.in-Err.ensures) (rw c.number.ensures (above_zero c.in-Err.refusal))

pub returns : goal.returns
returns c =
    spans_formed _ _ _ _ _ c.in_default.ensures refl c.session_in.ensures c.numbers_in.ensures c.numbers_in-2.ensures (rw c.answer_number.ensures c.spans-answer.ensures)
