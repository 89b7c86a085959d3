-- `State::merge_asserted` meets its contract: it follows the text of its definition. Assumes nothing.
use borrow.Author.Rules.{rules}
use Rattle.terms.proofs.Gives.{steps}
use Rattle.semantics.specs.States.{merge_asserted_of}
use Rattle.states.proofs.StateSteps.merge_asserted.Goals as goal

pub returns-in_err-implied : goal.returns-in_err-implied
unfolding merge_asserted_of
returns-in_err-implied c = search steps depth 12

pub returns-in_err-asserted : goal.returns-in_err-asserted
unfolding merge_asserted_of
returns-in_err-asserted c = search steps depth 12

pub returns : goal.returns
unfolding merge_asserted_of
returns c = search steps depth 12
