-- What an opening leaves: false and true first, then well-formed terms, with input 0's binding. Assumes nothing.
use mathlib.Core.Path.{◌≡◌, refl, ◌∙◌}
use mathlib.Core.Bool.{true}
use mathlib.Core.List.{List, [], ◌∷◌}
use Prim.Native.Nat.{ℕ}
use native.Mathlib.Omega.{arith}
use lib.ListN.{length}
use Rattle.notation.specs.Notation.{if◌equals◌then◌else◌}
use Rattle.semantics.specs.declared.Term.{Term}
use Rattle.semantics.specs.declared.Input.{Input}
use Rattle.semantics.specs.Numbers.{truth_term, binding_term, input_count, most_table}
use Rattle.semantics.specs.Terms.{term, same_of, find_of, laid_out, well_formed}
use Rattle.semantics.specs.Steps.{setting_of, Got, deeper, ◌>>=◌, make_of}
use Rattle.semantics.specs.Opening.{opening_of, opening}
use Rattle.terms.specs.Search.{code_setting}
use Rattle.typing.proofs.Grown.{Grown, Sort}
use Rattle.opening.specs.Openings.{open_from, open_all}
use Rattle.opening.proofs.Order.{same_opening}
use Rattle.opening.proofs.Room.{Roomy, roomy, input_roomy, from_roomy}

abbrev pub constants : List Term
constants = term truth_term 0 1 0 0 ∷ term truth_term 0 0 0 0 ∷ []

pub record Begins (xs : List Input) : Type 0 where
  pub base : Grown constants (opening xs).terms
  pub environment : Sort binding_term (opening xs).terms (opening xs).environment
  pub formed : well_formed 0 (opening xs).terms ≡ true

constants_formed : well_formed 0 constants ≡ true
unfolding well_formed laid_out find_of same_of if◌equals◌then◌else◌
constants_formed = refl

from_constants : (xs : List Input) → open_all xs (setting_of most_table) [] ≡ deeper 0 (deeper 0 (open_from 0 xs (setting_of most_table) constants))
unfolding open_all ◌>>=◌ make_of find_of same_of
from_constants xs = refl

pub begins : (x : Input) (xs : List Input) → length (x ∷ xs) ≡ input_count → Begins (x ∷ xs)
unfolding opening
begins x xs n =
    go (open_from 0 (x ∷ xs) (code_setting most_table) constants) (open_from 0 (x ∷ xs) (setting_of most_table) constants) (same_opening (x ∷ xs) (setting_of most_table) [] ∙ from_constants (x ∷ xs))
    (input_roomy most_table 0 x xs constants (omega arith) constants_formed (omega arith) (omega arith)
    (λ us w b. from_roomy most_table 1 xs us (omega arith) w (omega arith) (omega arith)))
  where
    go : {k : ℕ} (y z : Got ℕ) → opening_of (x ∷ xs) (setting_of most_table) [] ≡ deeper 0 (deeper 0 z) → Roomy k constants (Sort binding_term) y z → Begins (x ∷ xs)
    go y z e (roomy g w b q) = record { base = rw e g; environment = rw e q; formed = rw e w }
