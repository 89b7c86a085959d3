-- The value of the branches that a merge has met, as the code says it. Assumes nothing.
use Rattle.std.specs.Prelude.{ℕ, true}
use Rattle.std.specs.declared.option.Option.{Option}
use Rattle.std.specs.declared.option.Option.TheVariants.{None, Some}
use Rattle.std.specs.declared.result.Result.{Result}
use Rattle.std.specs.declared.result.Result.TheVariants.{Ok, Err}
use Rattle.semantics.specs.declared.Folded.{Folded}
use Rattle.semantics.specs.declared.refusal.Refusal.{Refusal}
use Rattle.semantics.specs.Merge.{none_given}
use Rattle.semantics.specs.Steps.{Make}
use Rattle.terms.specs.Gives.{Gives}
use Rattle.terms.specs.declared.table.Table.{Table}

-- a value, if a branch gave one
abbrev pub folded_of : Option ℕ → Folded
folded_of None = none_given
folded_of (Some v) = record { any = true; value = v }

abbrev pub folded_result : Result (Option ℕ) Refusal → Result Folded Refusal
folded_result (Ok o) = Ok (folded_of o)
folded_result (Err k) = Err k

-- From the table s the step m, of values, gives the answer r, and leaves the table y.
abbrev pub GivesValue : Make Folded → Table → Result (Option ℕ) Refusal → Table → Type 0
GivesValue m s r y = Gives m s 0 (folded_result r) y
