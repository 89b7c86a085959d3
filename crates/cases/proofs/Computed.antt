-- The marked cases hold and the printed case is printed: facts about the definitions, by computation. Assumes nothing.
use mathlib.Core.Path.{◌≡◌, refl}
use mathlib.Core.Bool.{true}
use Rattle.semantics.proofs.Computing.{computing}
use Rattle.semantics.specs.Print as Print
use Rattle.cases.specs.Table as Table
use Rattle.cases.specs.Marked as Marked

pub record Computed : Type 0 where
  -- P1 to P10
  pub marked_hold : Table.all_hold Marked.marked ≡ true
  -- the printed case, first line and all six terms
  pub printed_case : Print.printed_of Marked.printed_input ≡ Marked.printed_lines

pub computed : Computed
unfolding computing Table.alike Table.all_hold Table.desk Table.answer Table.reading Table.running Marked.marked Marked.printed_input Marked.printed_lines
computed = record { marked_hold = refl; printed_case = refl }
