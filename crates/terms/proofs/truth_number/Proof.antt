-- `terms::truth_number` meets its contract. Assumes nothing.
use Rattle.notation.proofs.Follow.{values}
use Rattle.semantics.specs.Terms.{truth_number}
use Rattle.terms.proofs.truth_number.Statement.{statement}
use Rattle.terms.proofs.truth_number.Tie as tie

pub truth_number_spec : {M : Type 1} → statement M
unfolding truth_number
truth_number_spec = tie.close (tie.spec (λ c. search values) (λ c. search values))
