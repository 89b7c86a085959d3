-- `terms::same` meets its contract. Assumes nothing.
use borrow.Author.Tests.{ne_eqb}
use Rattle.terms.proofs.Tables.{tables}
use Rattle.terms.proofs.same.Goals as goal

pub returns-then-x-y-4 : goal.returns-then-x-y-4
returns-then-x-y-4 c = search tables

pub returns-else-x-y-4 : goal.returns-else-x-y-4
returns-else-x-y-4 c = rw (ne_eqb _ _ c.if-x-y-4.false) (search tables)

pub returns-else-x-y-3 : goal.returns-else-x-y-3
returns-else-x-y-3 c = rw (ne_eqb _ _ c.if-x-y-3.false) (search tables)

pub returns-else-x-y-2 : goal.returns-else-x-y-2
returns-else-x-y-2 c = rw (ne_eqb _ _ c.if-x-y-2.false) (search tables)

pub returns-else-x-y : goal.returns-else-x-y
returns-else-x-y c = rw (ne_eqb _ _ c.if-x-y.false) (search tables)
