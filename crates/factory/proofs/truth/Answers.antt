-- `factory::truth` meets its contract: it follows the text of its definition. Assumes nothing.
use borrow.Author.Rules.{rules}
use Rattle.terms.proofs.Gives.{steps}
use Rattle.semantics.specs.Factory.{truth_of}
use Rattle.factory.proofs.truth.Goals as goal

pub returns-in-6 : goal.returns-in-6
unfolding truth_of
returns-in-6 c = search steps depth 12

pub returns-in-1 : goal.returns-in-1
unfolding truth_of
returns-in-1 c = search steps depth 12

pub returns-in_default : goal.returns-in_default
unfolding truth_of
returns-in_default c = search steps depth 12
