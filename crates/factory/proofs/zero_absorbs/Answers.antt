-- `factory::zero_absorbs` meets its contract: Assumes nothing.
use borrow.Author.Tests.{eq-eqb}
use Rattle.notation.proofs.Follow.{tests}
use Rattle.semantics.specs.Factory.{zero_absorbs_of}
use Rattle.factory.proofs.zero_absorbs.Goals as goal

pub returns-then-op-eq-MULTIPLY_CODE : goal.returns-then-op-eq-MULTIPLY_CODE
unfolding zero_absorbs_of
returns-then-op-eq-MULTIPLY_CODE c = rw (eq-eqb _ _ c.if-op-eq-MULTIPLY_CODE.true) (search tests depth 12)

pub returns-else-op-eq-MULTIPLY_CODE : goal.returns-else-op-eq-MULTIPLY_CODE
unfolding zero_absorbs_of
returns-else-op-eq-MULTIPLY_CODE c = search tests depth 12
