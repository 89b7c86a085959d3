-- `goal_clauses::goal_count` meets its contract: goal by goal. Assumes nothing.
use borrow.Author.Rules.{rules}
use Rattle.goal_clauses.proofs.Goals.{errs_count, aborts_count, errs_short, aborts_short}
use Rattle.goal_clauses.proofs.goal_count.Goals as goal

pub returns-in-Errs : goal.returns-in-Errs
returns-in-Errs c = rw c.in-Errs.is (errs_count _, search rules, errs_short c.args.res (search rules) (search rules))

pub returns-in-Aborts : goal.returns-in-Aborts
returns-in-Aborts c = rw c.in-Aborts.is (aborts_count _, search rules, aborts_short c.args.res (search rules) (search rules))
