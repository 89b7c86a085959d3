-- A form is refused, or the operation answers for what the forms stand for. Assumes nothing.
use Rattle.std.proofs.Common.{refl, ◌∙◌}
use Rattle.samples.proofs.Refusals.{above_zero}
use Rattle.byte_samples.proofs.Answers.{samples_unformed_lem, samples_formed}
use Rattle.byte_samples.proofs.read_all.Goals as goal

pub returns-in-Err : goal.returns-in-Err
returns-in-Err c =
    samples_unformed_lem _ _ _ _ _ _ (c.number.ensures ∙ c.in-Err.ensures) (rw c.number.ensures (above_zero c.in-Err.refusal)) c.wipe.ensures

pub returns : goal.returns
returns c =
    samples_formed _ _ _ _ _ _ c.in_default.ensures refl c.session_in.ensures c.result_in.ensures (rw c.answer_number.ensures c.read_all-answer.ensures)
