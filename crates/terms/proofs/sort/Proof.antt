-- `terms::sort` meets its contract. Assumes nothing.
use borrow.Author.Rules.{rules}
use Rattle.notation.proofs.Follow.{values}
use Rattle.semantics.specs.Terms.{sort_of}
use Rattle.terms.proofs.sort.Statement.{statement}
use Rattle.terms.proofs.sort.Tie as tie

pub sort_spec : {M : Type 1} → statement M
unfolding sort_of
sort_spec =
    tie.close
    (tie.spec (λ c κs. search rules) (λ c. search values depth 12) (λ c. search values depth 12) (λ c. search values depth 12) (λ c. search values depth 12)
    (λ c. search values depth 12) (λ c. search values depth 12) (λ c. search values depth 12) (λ c. search values depth 12) (λ c. search values depth 12)
    (λ c. search values depth 12))
