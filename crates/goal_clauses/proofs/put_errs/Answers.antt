-- `goal_clauses::put_errs` meets its contract: a halt, or not. Assumes nothing.
use Rattle.cursor.proofs.Writing.{said}
use Rattle.goal_clauses.proofs.Goals.{errs_halted, errs_given}
use Rattle.goal_clauses.proofs.put_errs.Goals as goal

pub returns-then-res : goal.returns-then-res
returns-then-res c = said c.put_two.ensures (errs_halted _ c.if-res.true c.truth-s.ensures.0 c.truth-t.ensures.0)

pub returns : goal.returns
returns c = said c.put_unit.ensures (errs_given c.args.res c.if-res.false c.truth-t.ensures.0)
