-- `factory::zero_fold` meets its contract: it follows the text of its definition. Assumes nothing.
use borrow.Author.Rules.{rules}
use Rattle.terms.proofs.Gives.{steps}
use Rattle.semantics.specs.Factory.{zero_fold_of}
use Rattle.factory.proofs.zero_fold.Goals as goal

pub returns-then-not-zero_absorbs : goal.returns-then-not-zero_absorbs
unfolding zero_fold_of
returns-then-not-zero_absorbs c = search steps depth 12

pub returns-then-is_zero : goal.returns-then-is_zero
unfolding zero_fold_of
returns-then-is_zero c = search steps depth 12

pub returns-then-is_zero-2 : goal.returns-then-is_zero-2
unfolding zero_fold_of
returns-then-is_zero-2 c = search steps depth 12

pub returns : goal.returns
unfolding zero_fold_of
returns c = search steps depth 12
