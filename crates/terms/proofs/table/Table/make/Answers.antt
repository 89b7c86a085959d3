-- `terms::Table::make` meets its contract. Assumes nothing.
use borrow.Author.Rules.{rules}
use mathlib.Core.Path.{refl}
use Rattle.terms.proofs.Gives.{make_found}
use Rattle.terms.proofs.table.Table.make.Goals as goal

pub returns-in-Some : goal.returns-in-Some
returns-in-Some c = make_found _ _ refl refl refl _ _ (search rules)
