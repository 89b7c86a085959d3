-- What code that evaluates an expression promises. Assumes nothing.
use Rattle.std.specs.Prelude.{ℕ}
use Rattle.std.specs.declared.result.Result.{Result}
use Rattle.std.specs.declared.result.Result.TheVariants.{Ok, Err}
use Rattle.semantics.specs.declared.Result.{Result as Ending}
use Rattle.semantics.specs.declared.refusal.Refusal.{Refusal}
use Rattle.semantics.specs.Steps.{Make}
use Rattle.terms.specs.Gives.{mapped, Within}
use Rattle.terms.specs.declared.table.Table.{Table}
use Rattle.expressions.specs.declared.Out.{Out}

-- the depth that was used; 0 where the evaluation was refused
abbrev pub used_by : Result Out Refusal → ℕ
used_by (Ok o) = o.used
used_by (Err k) = 0

-- what the expression comes to
abbrev pub ending_of : Result Out Refusal → Result Ending Refusal
ending_of r = mapped (λ o. o.result) r

-- From the table s the evaluation m, with at most the depth d, comes to r and leaves the table y.
abbrev pub Evaluates : ℕ → Make Ending → Table → Result Out Refusal → Table → Type 0
Evaluates d m s r y = Within d m s (used_by r) (ending_of r) y
