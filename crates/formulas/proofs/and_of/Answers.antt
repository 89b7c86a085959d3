-- `formulas::and_of` meets its contract: it follows the text of its definition. Assumes nothing.
use borrow.Author.Rules.{rules}
use Rattle.terms.proofs.Gives.{steps}
use Rattle.semantics.specs.Factory.{and_of}
use Rattle.formulas.proofs.and_of.Goals as goal

pub returns-in-Some-true : goal.returns-in-Some-true
unfolding and_of
returns-in-Some-true c = search steps depth 12

pub returns-in-Some-false : goal.returns-in-Some-false
unfolding and_of
returns-in-Some-false c = search steps depth 12

pub returns-in-Some-true-known : goal.returns-in-Some-true-known
unfolding and_of
returns-in-Some-true-known c = search steps depth 12

pub returns-in-Some-false-known : goal.returns-in-Some-false-known
unfolding and_of
returns-in-Some-false-known c = search steps depth 12

pub returns-then-x-y : goal.returns-then-x-y
unfolding and_of
returns-then-x-y c = search steps depth 12

pub returns : goal.returns
unfolding and_of
returns c = search steps depth 12
