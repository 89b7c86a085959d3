-- `goal_clauses::put_aborts` meets its contract: only S is false. Assumes nothing.
use Rattle.cursor.proofs.Writing.{said}
use Rattle.goal_clauses.proofs.Goals.{aborts_given}
use Rattle.goal_clauses.proofs.put_aborts.Goals as goal

pub returns : goal.returns
returns c = said c.put_units.ensures (aborts_given _ c.truth-s.ensures.0 c.truth-t.ensures.0)
