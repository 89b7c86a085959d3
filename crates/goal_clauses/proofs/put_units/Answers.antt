-- `goal_clauses::put_units` meets its contract: a clause after another. Assumes nothing.
use Rattle.cursor.proofs.Writing.{onward, said}
use Rattle.goal_clauses.proofs.Goals.{units_text}
use Rattle.goal_clauses.proofs.put_units.Goals as goal

pub returns : goal.returns
returns c = said (onward c.put_unit.ensures c.put_unit-2.ensures) (units_text _ _)
