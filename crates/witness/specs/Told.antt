-- What a search answers, as the definitions have it: numbers are a hit, none is no hit, and a refusal has no hit. Assumes nothing.
use Rattle.std.specs.Prelude.{true, List, ℕ}
use Rattle.std.specs.declared.result.Result.{Result}
use Rattle.std.specs.declared.result.Result.TheVariants.{Ok, Err}
use Rattle.std.specs.declared.option.Option.{Option}
use Rattle.std.specs.declared.option.Option.TheVariants.{None, Some}
use Rattle.semantics.specs.declared.refusal.Refusal.{Refusal}
use Rattle.semantics.specs.declared.Hit.{Hit}
use Rattle.semantics.specs.declared.Witness.{Witness}
use Rattle.semantics.specs.Refusals.{number_of}
use Rattle.firsts.specs.Witness.{First, none, some, no_hit, witness_refused}

abbrev pub hit_told : Option (List ℕ) → Hit
hit_told None = no_hit
hit_told (Some ns) = record { found = true; numbers = ns }

abbrev pub witness_told : Result (Option (List ℕ)) Refusal → Witness
witness_told (Ok h) = record { refusal = 0; hit = hit_told h }
witness_told (Err k) = witness_refused (number_of k)

-- the numbers of the first reading, where there is one
abbrev pub numbers_of : First → Option (List ℕ)
numbers_of none = None
numbers_of (some ns) = Some ns
