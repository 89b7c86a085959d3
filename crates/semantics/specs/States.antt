-- The state of an evaluation: the pair assumed S, asserted T (document 01, "Evaluation"). Assumes nothing.
use Rattle.std.specs.Prelude.{ℕ, Bool, true, false, List}
use Rattle.notation.specs.Notation.{with, if◌equals◌then◌else◌}
use Rattle.semantics.specs.declared.Term.{Term}
use Rattle.semantics.specs.declared.State.{State}
use Rattle.semantics.specs.declared.Result.{Result}
use Rattle.semantics.specs.Numbers.{known_false}
use Rattle.semantics.specs.Terms.{at, known_of}
use Rattle.semantics.specs.Steps.{Make, ◌>>=◌, ◌▹◌, reads}
use Rattle.semantics.specs.Factory.{and_of, implies_of}

abbrev pub state_of : ℕ → ℕ → State
state_of s t = record { assumed = s; asserted = t }

-- ---- "S is and'ed with implies(guard, branch S) [...], then T likewise": one branch
unfoldable pub merge_assumed_of : State → ℕ → ℕ → Make State
merge_assumed_of x g s = implies_of g s >>= λ i. and_of x.assumed i ▹ λ n. state_of n x.asserted

unfoldable pub merge_asserted_of : State → ℕ → ℕ → Make State
merge_asserted_of x g t = implies_of g t >>= λ i. and_of x.asserted i ▹ λ n. state_of x.assumed n

-- "Assume g: S becomes and(S, implies(T, g))."
unfoldable pub assume_of : State → ℕ → Make State
assume_of x g = merge_assumed_of x x.asserted g

-- "Assert g: T becomes and(T, implies(S, g))."
unfoldable pub assert_of : State → ℕ → Make State
assert_of x g = merge_asserted_of x x.assumed g

-- "A state with false on either side halts."
unfoldable pub halts_of : State → List Term → Bool
halts_of x ts =
    with (known_of (at ts x.assumed)) λ k. if k equals known_false then true else
    with (known_of (at ts x.asserted)) λ l. if l equals known_false then true else false

-- by whether a state halts
abbrev pub halts : {A : Type 0} → State → (Bool → Make A) → Make A
halts x k = reads (halts_of x) k

-- ---- what an evaluation comes to
abbrev pub out_of : State → ℕ → Result
out_of x v = record { state = x; value = v; halted = false }

abbrev pub halt_of : State → Result
halt_of x = record { state = x; value = 0; halted = true }
