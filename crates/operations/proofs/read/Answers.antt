-- A reading that passed the tests, and one that did not. Assumes nothing.
use Rattle.std.proofs.Common.{rules}
use Rattle.operations.proofs.Answers.{read_as}
use Rattle.operations.proofs.read.Goals as goal

pub returns-in-Ok : goal.returns-in-Ok
returns-in-Ok c = read_as _ _ _ _ _ (search rules) c.in-Ok.ensures.taken (search rules)

pub returns-in-Err : goal.returns-in-Err
returns-in-Err c = read_as _ _ _ _ _ (search rules) c.in-Err.ensures.refused (search rules)
