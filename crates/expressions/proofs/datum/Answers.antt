-- `expressions::datum` meets its contract: it follows the text of its definition. Assumes nothing.
use borrow.Author.Rules.{rules}
use Rattle.terms.proofs.Gives.{steps}
use Rattle.expressions.proofs.Stops.{stopped}
use Rattle.semantics.specs.Evaluation.{datum_of}
use Rattle.expressions.proofs.datum.Goals as goal

pub returns-then-x-ne-WORD_DATUM : goal.returns-then-x-ne-WORD_DATUM
unfolding datum_of
returns-then-x-ne-WORD_DATUM c = rw c.value.ensures (record { gives = search steps depth 12; low = search rules })

pub returns-in_err-made : goal.returns-in_err-made
unfolding datum_of
returns-in_err-made c = stopped _ c.from_residual.ensures (rw (← c.datum_word.ensures) (search steps depth 12))

pub returns : goal.returns
unfolding datum_of
returns c = rw (c.value-2.ensures, ← c.datum_word.ensures) (record { gives = search steps depth 12; low = search rules })
