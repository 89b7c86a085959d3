-- `State::merge_assumed` meets its contract: it follows the text of its definition. Assumes nothing.
use borrow.Author.Rules.{rules}
use Rattle.terms.proofs.Gives.{steps}
use Rattle.semantics.specs.States.{merge_assumed_of}
use Rattle.states.proofs.StateSteps.merge_assumed.Goals as goal

pub returns-in_err-implied : goal.returns-in_err-implied
unfolding merge_assumed_of
returns-in_err-implied c = search steps depth 12

pub returns-in_err-assumed : goal.returns-in_err-assumed
unfolding merge_assumed_of
returns-in_err-assumed c = search steps depth 12

pub returns : goal.returns
unfolding merge_assumed_of
returns c = search steps depth 12
