-- `formulas::is_not` meets its contract: Assumes nothing.
use borrow.Author.Tests.{ne_eqb}
use Rattle.notation.proofs.Follow.{tests}
use Rattle.semantics.specs.Factory.{is_not_of}
use Rattle.formulas.proofs.is_not.Goals as goal

pub returns-then-t-eq-OPERATOR_TERM : goal.returns-then-t-eq-OPERATOR_TERM
unfolding is_not_of
returns-then-t-eq-OPERATOR_TERM c = search tests depth 12

pub returns-else-t-eq-OPERATOR_TERM : goal.returns-else-t-eq-OPERATOR_TERM
unfolding is_not_of
returns-else-t-eq-OPERATOR_TERM c = rw (ne_eqb _ _ c.if-t-eq-OPERATOR_TERM.false) (search tests depth 12)
