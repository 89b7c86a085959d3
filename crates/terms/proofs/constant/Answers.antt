-- `terms::constant` meets its contract. Assumes nothing.
use borrow.Author.Rules.{rules}
use Rattle.notation.proofs.Follow.{values}
use Rattle.semantics.specs.Terms.{known_of}
use Rattle.terms.proofs.constant.Goals as goal

pub returns-then-t-eq0 : goal.returns-then-t-eq0
unfolding known_of
returns-then-t-eq0 c = search values

pub returns-else-t-eq0 : goal.returns-else-t-eq0
unfolding known_of
returns-else-t-eq0 c = search values

pub returns-else-t-eq-TRUTH_TERM : goal.returns-else-t-eq-TRUTH_TERM
unfolding known_of
returns-else-t-eq-TRUTH_TERM c = search values
