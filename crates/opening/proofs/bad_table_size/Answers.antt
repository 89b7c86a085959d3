-- `opening::bad_table_size` meets its contract. Assumes nothing.
use mathlib.Core.Path.{refl}
use borrow.Author.Tests.{eq-eqb, ne_eqb, lt-ltb, le-ltb}
use Rattle.semantics.specs.Opening.{bad_table_size}
use Rattle.opening.proofs.bad_table_size.Goals as goal

pub returns-then-l-lt-LEAST_TABLE : goal.returns-then-l-lt-LEAST_TABLE
unfolding bad_table_size
returns-then-l-lt-LEAST_TABLE c = rw (eq-eqb _ _ c.if-l-eq0.true, lt-ltb _ _ c.if-l-lt-LEAST_TABLE.true) refl

pub returns-else-l-lt-LEAST_TABLE : goal.returns-else-l-lt-LEAST_TABLE
unfolding bad_table_size
returns-else-l-lt-LEAST_TABLE c = rw (eq-eqb _ _ c.if-l-eq0.true, le-ltb _ _ c.if-l-lt-LEAST_TABLE.false) refl

pub returns : goal.returns
unfolding bad_table_size
returns c = rw (ne_eqb _ _ c.if-l-eq0.false) refl
