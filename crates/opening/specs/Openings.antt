-- Opening as the code goes about it: an input's term on the way down, its binding on the way back. Assumes nothing.
use Rattle.std.specs.Prelude.{ℕ, ◌+◌, List, [], ◌∷◌}
use Rattle.std.specs.declared.result.Result.{Result}
use Rattle.std.specs.declared.result.Result.TheVariants.{Ok, Err}
use Rattle.semantics.specs.declared.Input.{Input}
use Rattle.semantics.specs.declared.Opened.{Opened}
use Rattle.semantics.specs.declared.Session.{Session}
use Rattle.semantics.specs.declared.refusal.Refusal.{Refusal}
use Rattle.semantics.specs.Refusals.{number_of}
use Rattle.semantics.specs.Numbers.{no_binding}
use Rattle.semantics.specs.Steps.{Make, ◌>>=◌, give, make_of}
use Rattle.semantics.specs.Factory.{make_truth_of, make_binding_of}
use Rattle.semantics.specs.Opening.{input_term, session_of}

abbrev pub no_input : Input
no_input = record { kind = 0; value = 0 }

-- the inputs from number i on, and then their bindings
unfoldable pub open_from : ℕ → List Input → Make ℕ
open_from i [] = give no_binding
open_from i (x ∷ xs) = make_of (input_term i x) >>= λ v. open_from (i + 1) xs >>= λ e. make_binding_of v e

-- false and true first
unfoldable pub open_all : List Input → Make ℕ
open_all xs = make_truth_of 0 >>= λ f. make_truth_of 1 >>= λ t. open_from 0 xs

-- what opening answers; a refusal comes with a session that has no terms
abbrev pub opened_of : List Input → Result Session Refusal → Opened
opened_of xs (Ok x) = record { refusal = 0; session = x }
opened_of xs (Err k) = record { refusal = number_of k; session = session_of xs 0 }
