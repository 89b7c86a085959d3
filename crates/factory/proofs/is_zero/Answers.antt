-- `factory::is_zero` meets its contract: Assumes nothing.
use borrow.Author.Tests.{ne_eqb}
use Rattle.notation.proofs.Follow.{tests}
use Rattle.semantics.specs.Factory.{is_zero_of}
use Rattle.factory.proofs.is_zero.Goals as goal

pub returns-then-t-eq-WORD_TERM : goal.returns-then-t-eq-WORD_TERM
unfolding is_zero_of
returns-then-t-eq-WORD_TERM c = search tests depth 12

pub returns-else-t-eq-WORD_TERM : goal.returns-else-t-eq-WORD_TERM
unfolding is_zero_of
returns-else-t-eq-WORD_TERM c = rw (ne_eqb _ _ c.if-t-eq-WORD_TERM.false) (search tests depth 12)
