-- Merging guarded results over a state (document 01, "Evaluation", "Merge"). Assumes nothing.
use Rattle.std.specs.Prelude.{ℕ, true, false, List, [], ◌∷◌}
use Rattle.notation.specs.Notation.{when◌then◌else◌}
use Rattle.semantics.specs.declared.Folded.{Folded}
use Rattle.semantics.specs.declared.State.{State}
use Rattle.semantics.specs.declared.Result.{Result}
use Rattle.semantics.specs.declared.Branch.{Branch}
use Rattle.semantics.specs.Steps.{Make, ◌>>=◌, ◌▹◌, give, each}
use Rattle.semantics.specs.Factory.{choice_of}
use Rattle.semantics.specs.States.{merge_assumed_of, merge_asserted_of, halts, out_of, halt_of}

abbrev pub branch_of : ℕ → Result → Branch
branch_of g r = record { guard = g; state = r.state; value = r.value; halted = r.halted }

-- ---- "S is and'ed with implies(guard, branch S) for each branch in order, then T likewise."
abbrev pub assumed_step : State → Branch → Make State
assumed_step x b = merge_assumed_of x b.guard b.state.assumed

abbrev pub asserted_step : State → Branch → Make State
asserted_step x b = merge_asserted_of x b.guard b.state.asserted

unfoldable pub merge_states_of : State → List Branch → Make State
merge_states_of x bs = each assumed_step x bs >>= λ y. each asserted_step y bs

-- ---- "Halted branches give no value; of the others the last value is folded from the right by choice."

-- no branch gave a value
abbrev pub none_given : Folded
none_given = record { any = false; value = 0 }

-- a branch before the later ones' value, if there is one
unfoldable pub value_step_of : Branch → Folded → Make Folded
value_step_of b later =
    when b.halted then give later else
    when later.any then (choice_of b.guard b.value later.value ▹ λ v. record { any = true; value = v }) else
    give (record { any = true; value = b.value })

unfoldable pub merge_values_of : List Branch → Make Folded
merge_values_of [] = give none_given
merge_values_of (b ∷ bs) = merge_values_of bs >>= λ later. value_step_of b later

-- ---- "All halted, or none ran: halt. Else halt only if S or T is false."
unfoldable pub finish_of : State → Folded → Make Result
finish_of x v = when v.any then (halts x λ b. when b then give (halt_of x) else give (out_of x v.value)) else give (halt_of x)

unfoldable pub merge_of : State → List Branch → Make Result
merge_of x bs = merge_states_of x bs >>= λ y. merge_values_of bs >>= λ v. finish_of y v
