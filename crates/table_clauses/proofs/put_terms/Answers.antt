-- `table_clauses::put_terms` meets its contract: term after term. Assumes nothing.
use mathlib.Core.Path.{◌∙◌}
use borrow.Author.Rules.{rules}
use Rattle.table_clauses.proofs.Terms.{through_none, through_one}
use Rattle.table_clauses.proofs.put_terms.Goals as goal

pub loop-own-init : goal.loop-own-init
loop-own-init c = rw c.from.ensures through_none

pub loop-own-preserved : goal.loop-own-preserved
loop-own-preserved c =
    through_one c.loop-own.invariant c.term_at-t.ensures c.term-u.ensures c.put_term.ensures (c.from-helpers.ensures ∙ c.helper_count.ensures.0) (search rules)
