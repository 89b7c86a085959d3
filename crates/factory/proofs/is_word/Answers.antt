-- `factory::is_word` meets its contract: it follows the text of its definition. Assumes nothing.
use borrow.Author.Rules.{rules}
use Rattle.terms.proofs.Gives.{steps}
use Rattle.semantics.specs.Factory.{is_word_of}
use Rattle.factory.proofs.is_word.Goals as goal

pub returns-in-6 : goal.returns-in-6
unfolding is_word_of
returns-in-6 c = search steps depth 12

pub returns-in-2 : goal.returns-in-2
unfolding is_word_of
returns-in-2 c = search steps depth 12

pub returns-in_default : goal.returns-in_default
unfolding is_word_of
returns-in_default c = search steps depth 12
