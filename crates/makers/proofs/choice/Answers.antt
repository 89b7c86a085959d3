-- `makers::choice` meets its contract: it follows the text of its definition. Assumes nothing.
use borrow.Author.Rules.{rules}
use Rattle.terms.proofs.Gives.{steps}
use Rattle.semantics.specs.Factory.{choice_of}
use Rattle.makers.proofs.choice.Goals as goal

pub returns-in-Some-true : goal.returns-in-Some-true
unfolding choice_of
returns-in-Some-true c = search steps depth 12

pub returns-in-Some-false : goal.returns-in-Some-false
unfolding choice_of
returns-in-Some-false c = search steps depth 12

pub returns-in-None : goal.returns-in-None
unfolding choice_of
returns-in-None c = search steps depth 12

pub returns-in-None-2 : goal.returns-in-None-2
unfolding choice_of
returns-in-None-2 c = search steps depth 12
