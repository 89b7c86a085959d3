-- `formulas::implies` meets its contract: it follows the text of its definition. Assumes nothing.
use borrow.Author.Rules.{rules}
use Rattle.terms.proofs.Gives.{steps}
use Rattle.semantics.specs.Factory.{implies_of}
use Rattle.formulas.proofs.implies.Goals as goal

pub returns-in_err-negated : goal.returns-in_err-negated
unfolding implies_of
returns-in_err-negated c = search steps depth 12

pub returns : goal.returns
unfolding implies_of
returns c = search steps depth 12
