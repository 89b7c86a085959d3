-- `terms::term` meets its contract. Assumes nothing.
use borrow.Author.Rules.{rules}
use Rattle.terms.proofs.Tables.{tables}
use Rattle.terms.proofs.term.Statement.{statement}
use Rattle.terms.proofs.term.Tie as tie

pub term_spec : {M : Type 1} → statement M
term_spec = tie.close (tie.spec (λ c κs. search rules) (λ c. search tables) (λ c. search tables))
