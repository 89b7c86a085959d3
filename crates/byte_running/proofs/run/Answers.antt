-- A run that the tests of the forms refuse, and one that they do not. Assumes nothing.
use Rattle.std.proofs.Common.{refl}
use Rattle.operations.proofs.Answers.{all_wiped}
use Rattle.byte_running.proofs.Answers.{unformed, run_whole}
use Rattle.byte_running.proofs.run.Goals as goal

pub returns-in-Err : goal.returns-in-Err
returns-in-Err c = unformed _ _ _ _ _ _ c.in-Err.ensures c.in-Err.refusal refl c.number.ensures (all_wiped _ c.wipe.ensures)

pub returns : goal.returns
returns c = run_whole _ _ _ _ _ _ c.in_default.ensures refl c.inputs_in.ensures c.numbers_in.ensures c.run_plainly-outcome.ensures c.put_outcome.ensures
