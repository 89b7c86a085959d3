-- `terms::Table::append` meets its contract. Assumes nothing.
use borrow.Author.Rules.{rules}
use mathlib.Core.Path.{refl}
use Rattle.terms.proofs.Gives.{make_many, make_short, make_new, put_written}
use Rattle.terms.proofs.table.Table.append.Goals as goal

pub returns-then-number-ge-TERM_LIMIT : goal.returns-then-number-ge-TERM_LIMIT
returns-then-number-ge-TERM_LIMIT c = make_many _ _ (search rules) (search rules) (search rules) _ c.requires (search rules)

pub returns-then-self-at : goal.returns-then-self-at
returns-then-self-at c = make_short _ _ (search rules) (search rules) (search rules) _ c.requires (search rules) (search rules)

pub returns : goal.returns
returns c = make_new _ _ _ c.requires (search rules) c.if-self-at.false (search rules) (put_written _ _ _ _ c.if-self-at.false c.write.ensures) (search rules)
