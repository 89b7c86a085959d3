-- A run that passed the tests, and one that did not. Assumes nothing.
use Rattle.std.proofs.Common.{rules}
use Rattle.operations.proofs.Answers.{all_wiped, run_as}
use Rattle.operations.proofs.run_plainly.Goals as goal

pub returns-in-Ok : goal.returns-in-Ok
returns-in-Ok c = run_as _ _ _ _ _ (search rules) c.in-Ok.ensures.taken (search rules)

pub returns-in-Err : goal.returns-in-Err
returns-in-Err c = run_as _ _ _ _ _ (search all_wiped) c.in-Err.ensures.refused (search rules)
