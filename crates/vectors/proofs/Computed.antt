-- The definitions give what the vectors want, by computation. Each table is a fact of its own: together they take more steps than a
-- declaration may. Assumes nothing.
use mathlib.Core.Path.{◌≡◌, refl}
use mathlib.Core.Bool.{true}
use Rattle.semantics.proofs.Computing.{computing}
use Rattle.cases.specs.Table as Table
use Rattle.vectors.specs.Script as Script
use Rattle.vectors.specs.Vectors as Vectors

-- sessions with every kind of step and of refusal
pub sessions_hold : Table.all_hold Vectors.sessions ≡ true
unfolding computing Table.alike Table.all_hold Table.desk Table.answer Table.reading Script.term_numbers Script.report_numbers Script.played Script.opened_with Script.script Script.line_numbers Vectors.sessions Vectors.prints
sessions_hold = refl

-- what the printing program prints
pub prints_hold : Table.all_hold Vectors.prints ≡ true
unfolding computing Table.alike Table.all_hold Table.desk Table.answer Table.reading Script.term_numbers Script.report_numbers Script.played Script.opened_with Script.script Script.line_numbers Vectors.sessions Vectors.prints
prints_hold = refl
