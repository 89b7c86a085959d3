-- `formulas::or_of` meets its contract: it follows the text of its definition. Assumes nothing.
use borrow.Author.Rules.{rules}
use Rattle.terms.proofs.Gives.{steps}
use Rattle.semantics.specs.Factory.{or_of}
use Rattle.formulas.proofs.or_of.Goals as goal

pub returns-in-Some-true : goal.returns-in-Some-true
unfolding or_of
returns-in-Some-true c = search steps depth 12

pub returns-in-Some-false : goal.returns-in-Some-false
unfolding or_of
returns-in-Some-false c = search steps depth 12

pub returns-in-Some-true-known : goal.returns-in-Some-true-known
unfolding or_of
returns-in-Some-true-known c = search steps depth 12

pub returns-in-Some-false-known : goal.returns-in-Some-false-known
unfolding or_of
returns-in-Some-false-known c = search steps depth 12

pub returns-then-x-y : goal.returns-then-x-y
unfolding or_of
returns-then-x-y c = search steps depth 12

pub returns : goal.returns
unfolding or_of
returns c = search steps depth 12
