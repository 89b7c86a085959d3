-- `expressions::variable` meets its contract: it follows the text of its definition. Assumes nothing.
use borrow.Author.Rules.{rules}
use Rattle.terms.proofs.Gives.{steps}
use Rattle.expressions.proofs.variable.Goals as goal

pub returns : goal.returns
returns c = rw c.value.ensures (record { gives = search steps depth 12; low = search rules })
