-- `goal_clauses::gives_count` meets its contract: a halt, or not. Assumes nothing.
use borrow.Author.Rules.{rules}
use Rattle.goal_clauses.proofs.Goals.{gives_none, gives_count, gives_short}
use Rattle.goal_clauses.proofs.gives_count.Goals as goal

pub returns-then-res : goal.returns-then-res
returns-then-res c = (gives_none _ _ c.if-res.true, search rules, gives_short c.args.res (search rules) (search rules) (search rules) _ (search rules))

pub returns-else-res : goal.returns-else-res
returns-else-res c = (gives_count _ _ c.if-res.false, search rules, gives_short c.args.res (search rules) (search rules) (search rules) _ (search rules))
