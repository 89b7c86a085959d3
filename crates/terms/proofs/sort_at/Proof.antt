-- `terms::sort_at` meets its contract. Assumes nothing.
use borrow.Author.Rules.{rules}
use mathlib.Core.Path.{ap, ◌∙◌}
use Rattle.semantics.specs.Terms.{sort_of}
use Rattle.terms.proofs.sort_at.Statement.{statement}
use Rattle.terms.proofs.sort_at.Tie as tie

returns : tie.Need-returns
returns c = c.sort.ensures ∙ ap sort_of c.term.ensures

pub sort_at_spec : {M : Type 1} → statement M
sort_at_spec = tie.close (tie.spec (λ c κs. search rules) (λ c κs. search rules) returns)
