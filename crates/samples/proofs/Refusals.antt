-- The number of a refusal is not 0. Assumes nothing.
use Rattle.std.specs.Prelude.{◌≡◌, false, eqb}
use Rattle.std.proofs.Common.{arith}
use Rattle.semantics.specs.declared.refusal.Refusal.{Refusal}
use Rattle.semantics.specs.Refusals.{number_of}

pub above_zero : (k : Refusal) → eqb (number_of k) 0 ≡ false
above_zero k = grind arith
