-- `table_clauses::add_up` meets its contract: term after term. Assumes nothing.
use mathlib.Core.Path.{◌∙◌}
use borrow.Author.Rules.{rules}
use Rattle.table_clauses.proofs.Terms.{counted_none, counted_one}
use Rattle.table_clauses.proofs.add_up.Goals as goal

pub loop-n-init : goal.loop-n-init
loop-n-init c = counted_none

pub loop-n-preserved : goal.loop-n-preserved
loop-n-preserved c =
    counted_one c.loop-n.invariant c.loop-n-test.true (search rules) c.term_at-t.ensures (search rules) (search rules) (search rules) c.term-u.ensures (c.from.ensures ∙ c.helper_count.ensures.0)
    (search rules) (c.from-in-loop-n.ensures ∙ c.clause_count.ensures) (search rules)
