-- A reading that the tests of the forms refuse, and one that they do not. Assumes nothing.
use Rattle.std.proofs.Common.{refl}
use Rattle.byte_reading.proofs.Answers.{unformed, read_whole}
use Rattle.byte_reading.proofs.read.Goals as goal

pub returns-in-Err : goal.returns-in-Err
returns-in-Err c = unformed _ _ _ _ _ _ c.in-Err.ensures c.in-Err.refusal refl c.number.ensures c.wipe.ensures

pub returns : goal.returns
returns c = read_whole _ _ _ _ _ _ c.in_default.ensures refl c.session_in.ensures c.numbers_in.ensures c.result_in.ensures c.read-outcome.ensures c.put_outcome.ensures
