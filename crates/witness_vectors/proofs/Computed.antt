-- The definitions give the witnesses that the vectors want, by computation. Assumes nothing.
use mathlib.Core.Path.{◌≡◌, refl}
use mathlib.Core.Bool.{true}
use mathlib.Core.List.{flat_map}
use Rattle.semantics.proofs.Computing.{computing}
use Rattle.firsts.specs.Witness as Witness
use Rattle.cases.specs.Table as Table
use Rattle.vectors.specs.Script as Script
use Rattle.witness_vectors.specs.Asked as Asked
use Rattle.witness_vectors.specs.Witnesses as Witnesses

pub witnesses_computed : Table.all_hold Witnesses.witnesses ≡ true
unfolding computing flat_map Witness.reached_at Witness.up_from Witness.readings_from Witness.first_that Witness.least_of Witness.greatest_of Witness.bits_in Witness.bits_of Witness.spans_fit Witness.first_reached Witness.witness_refusal Witness.witness_of Table.alike Table.all_hold Table.answer Script.played Script.opened_with Script.script Asked.witness_numbers Asked.witnessed Witnesses.witnesses
witnesses_computed = refl
