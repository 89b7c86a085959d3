-- `expressions::procedure` meets its contract: it follows the text of its definition. Assumes nothing.
use borrow.Author.Rules.{rules}
use Rattle.terms.proofs.Gives.{steps}
use Rattle.expressions.proofs.Stops.{stopped}
use Rattle.semantics.specs.Evaluation.{procedure_of}
use Rattle.expressions.proofs.procedure.Goals as goal

pub returns-in_err-made : goal.returns-in_err-made
unfolding procedure_of
returns-in_err-made c = stopped _ c.from_residual.ensures (search steps depth 12)

pub returns : goal.returns
unfolding procedure_of
returns c = rw c.value.ensures (record { gives = search steps depth 12; low = search rules })
