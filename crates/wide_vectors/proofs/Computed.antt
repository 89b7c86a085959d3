-- The definitions give what the vector wants, by computation. Assumes nothing.
use mathlib.Core.Path.{◌≡◌, refl}
use mathlib.Core.Bool.{true}
use Rattle.semantics.proofs.Computing.{computing}
use Rattle.cases.specs.Table as Table
use Rattle.vectors.specs.Script as Script
use Rattle.wide_vectors.specs.Wide as Wide

-- a call with one leaf too many
pub wide_hold : Table.all_hold Wide.wide ≡ true
unfolding computing Table.alike Table.all_hold Script.line_numbers Wide.wide
wide_hold = refl
