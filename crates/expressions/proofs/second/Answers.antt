-- `expressions::second` meets its contract: it follows the text of its definition. Assumes nothing.
use Rattle.notation.proofs.Follow.{values}
use Rattle.semantics.specs.Evaluation.{second_of}
use Rattle.expressions.proofs.second.Goals as goal

pub returns-then-operands-eq1 : goal.returns-then-operands-eq1
unfolding second_of
returns-then-operands-eq1 c = search values

pub returns : goal.returns
unfolding second_of
returns c = search values
