-- `State::assume` meets its contract: it follows the text of its definition. Assumes nothing.
use borrow.Author.Rules.{rules}
use Rattle.terms.proofs.Gives.{steps}
use Rattle.semantics.specs.States.{assume_of}
use Rattle.states.proofs.StateSteps.assume.Goals as goal

pub returns : goal.returns
unfolding assume_of
returns c = search steps depth 12
