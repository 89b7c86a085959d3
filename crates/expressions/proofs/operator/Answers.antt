-- `expressions::operator` meets its contract: it follows the text of its definition. Assumes nothing.
use borrow.Author.Rules.{rules}
use Rattle.terms.proofs.Gives.{steps}
use Rattle.expressions.proofs.Stops.{stopped}
use Rattle.semantics.specs.Evaluation.{operator_of}
use Rattle.expressions.proofs.operator.Goals as goal

pub returns-then-op-lt-NOT_CODE : goal.returns-then-op-lt-NOT_CODE
unfolding operator_of
returns-then-op-lt-NOT_CODE c = record { gives = search steps depth 12; low = search rules }

pub returns-in_err-made : goal.returns-in_err-made
unfolding operator_of
returns-in_err-made c = stopped _ c.from_residual.ensures (search steps depth 12)

pub returns : goal.returns
unfolding operator_of
returns c = rw c.value.ensures (record { gives = search steps depth 12; low = search rules })
