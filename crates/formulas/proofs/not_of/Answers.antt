-- `formulas::not_of` meets its contract: it follows the text of its definition. Assumes nothing.
use borrow.Author.Rules.{rules}
use Rattle.terms.proofs.Gives.{steps}
use Rattle.semantics.specs.Factory.{not_of}
use Rattle.formulas.proofs.not_of.Goals as goal

pub returns-in-Some-true : goal.returns-in-Some-true
unfolding not_of
returns-in-Some-true c = search steps depth 12

pub returns-in-Some-false : goal.returns-in-Some-false
unfolding not_of
returns-in-Some-false c = search steps depth 12

pub returns-then-is_not : goal.returns-then-is_not
unfolding not_of
returns-then-is_not c = search steps depth 12

pub returns : goal.returns
unfolding not_of
returns c = search steps depth 12
