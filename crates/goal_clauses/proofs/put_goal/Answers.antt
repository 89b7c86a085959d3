-- `goal_clauses::put_goal` meets its contract: goal by goal. Assumes nothing.
use mathlib.Core.Path.{ap, sym}
use Rattle.clauses.specs.Clauses.{goal_clauses}
use Rattle.cursor.proofs.Writing.{said}
use Rattle.dimacs.specs.Text.{clauses_text}
use Rattle.goal_clauses.proofs.put_goal.Goals as goal

pub returns-in-Errs : goal.returns-in-Errs
returns-in-Errs c = said c.put_errs.ensures (ap (λ g. clauses_text (goal_clauses c.args.res g)) (sym c.in-Errs.is))

pub returns-in-Aborts : goal.returns-in-Aborts
returns-in-Aborts c = said c.put_aborts.ensures (ap (λ g. clauses_text (goal_clauses c.args.res g)) (sym c.in-Aborts.is))

pub returns-in-Gives : goal.returns-in-Gives
returns-in-Gives c = said c.put_gives.ensures (ap (λ g. clauses_text (goal_clauses c.args.res g)) (sym c.in-Gives.is))
