-- `expressions::abort` meets its contract: it follows the text of its definition. Assumes nothing.
use borrow.Author.Rules.{rules}
use Rattle.terms.proofs.Gives.{steps}
use Rattle.expressions.proofs.Stops.{stopped}
use Rattle.semantics.specs.Evaluation.{abort_of}
use Rattle.expressions.proofs.abort.Goals as goal

pub returns-in_err-after : goal.returns-in_err-after
unfolding abort_of
returns-in_err-after c = stopped _ c.from_residual.ensures (search steps depth 12)

pub returns : goal.returns
unfolding abort_of
returns c = rw c.halt.ensures (record { gives = search steps depth 12; low = search rules })
