-- `factory::constant` meets its contract: it follows the text of its definition. Assumes nothing.
use borrow.Author.Rules.{rules}
use Rattle.terms.proofs.Gives.{steps}
use Rattle.semantics.specs.Factory.{constant_of}
use Rattle.factory.proofs.constant.Goals as goal

pub returns-then-gives_truth : goal.returns-then-gives_truth
unfolding constant_of
returns-then-gives_truth c = search steps depth 12

pub returns : goal.returns
unfolding constant_of
returns c = search steps depth 12
