-- `goal_clauses::put_unit` meets its contract: one literal. Assumes nothing.
use Rattle.cursor.proofs.Writing.{onward}
use Rattle.dimacs.specs.Text.{clause_text}
use Rattle.goal_clauses.proofs.put_unit.Goals as goal

pub returns : goal.returns
unfolding clause_text
returns c = onward c.put_literal.ensures c.put_end.ensures
