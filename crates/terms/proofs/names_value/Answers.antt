-- `terms::names_value` meets its contract. Assumes nothing.
use Rattle.notation.proofs.Follow.{values}
use Rattle.semantics.specs.Terms.{names_value}
use Rattle.terms.proofs.names_value.Goals as goal

pub returns-then-sort-eq0 : goal.returns-then-sort-eq0
unfolding names_value
returns-then-sort-eq0 c = search values depth 12

pub returns : goal.returns
unfolding names_value
returns c = search values depth 12
