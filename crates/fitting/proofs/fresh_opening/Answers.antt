-- `fitting::fresh_opening` meets its contract. Assumes nothing.
use borrow.Author.Rules.{rules}
use mathlib.Core.Path.{refl}
use Rattle.fitting.proofs.Whole.{fresh_made, fresh}
use Rattle.fitting.proofs.fresh_opening.Goals as goal

pub unwrap-environment-requires : goal.unwrap-environment-requires
unwrap-environment-requires c = fresh_made _ (search rules) refl refl c.open_all.ensures

pub returns : goal.returns
returns c = fresh _ (search rules) refl refl c.open_all.ensures (search rules) refl (search rules)
