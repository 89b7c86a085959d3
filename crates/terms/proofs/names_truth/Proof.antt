-- `terms::names_truth` meets its contract. Assumes nothing.
use borrow.Author.Rules.{rules}
use Rattle.semantics.specs.Terms.{names_truth}
use Rattle.terms.proofs.names_truth.Statement.{statement}
use Rattle.terms.proofs.names_truth.Tie as tie

returns : tie.Need-returns
unfolding names_truth
returns c = rw c.sort_at.ensures

pub names_truth_spec : {M : Type 1} → statement M
names_truth_spec = tie.close (tie.spec (λ c κs. search rules) returns)
