-- `expressions::operation` meets its contract: it follows the text of its definition. Assumes nothing.
use borrow.Author.Rules.{rules}
use Rattle.terms.proofs.Gives.{steps}
use Rattle.expressions.proofs.Stops.{stopped}
use Rattle.semantics.specs.Evaluation.{operation_of}
use Rattle.expressions.proofs.operation.Goals as goal

pub returns-in_err-on_words : goal.returns-in_err-on_words
unfolding operation_of
returns-in_err-on_words c = stopped _ c.from_residual.ensures (search steps depth 12)

pub returns-in_err-after : goal.returns-in_err-after
unfolding operation_of
returns-in_err-after c = stopped _ c.from_residual-in_err-after.ensures (search steps depth 12)

pub returns-then-halts : goal.returns-then-halts
unfolding operation_of
returns-then-halts c = rw c.halt.ensures (record { gives = search steps depth 12; low = search rules })

pub returns-in_err-made : goal.returns-in_err-made
unfolding operation_of
returns-in_err-made c = stopped _ c.from_residual-in_err-made.ensures (search steps depth 12)

pub returns : goal.returns
unfolding operation_of
returns c = rw c.value.ensures (record { gives = search steps depth 12; low = search rules })
