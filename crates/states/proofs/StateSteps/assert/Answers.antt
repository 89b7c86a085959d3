-- `State::assert` meets its contract: it follows the text of its definition. Assumes nothing.
use borrow.Author.Rules.{rules}
use Rattle.terms.proofs.Gives.{steps}
use Rattle.semantics.specs.States.{assert_of}
use Rattle.states.proofs.StateSteps.assert.Goals as goal

pub returns : goal.returns
unfolding assert_of
returns c = search steps depth 12
