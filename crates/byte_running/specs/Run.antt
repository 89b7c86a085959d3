-- The plain run over byte forms, on all arguments: the answer, 0 or the number of a refusal; the store and the reading's place then. A refused call
-- leaves the store zero and the reading's place as it was. Assumes nothing.
use Rattle.std.specs.Prelude.{ℕ, List, eqb, length}
use Rattle.notation.specs.Notation.{with, if◌equals◌then◌else◌, unless◌then◌else◌}
use Rattle.semantics.specs.Numbers.{bad_input}
use Rattle.semantics.specs.PlainRun.{run_plainly_of}
use Rattle.forms.specs.Forms.{numbers_length, reading_length, wrong_length, inputs_in, inputs_formed, numbers_in}
use Rattle.forms.specs.Outcomes.{outcome_form, unread}

-- 255 of the numbers and the reading's place, of l bytes; 2 of inputs that are not of their form; else 0
unfoldable pub run_unformed : List ℕ → List ℕ → ℕ → ℕ
run_unformed inputs numbers l =
    unless eqb (length numbers) numbers_length then wrong_length else
    unless eqb l reading_length then wrong_length else
    unless inputs_formed inputs then bad_input else
    0

-- then the plain run's own tests in their order, 2 first
unfoldable pub desk_run : List ℕ → List ℕ → List ℕ → ℕ → List ℕ → List ℕ → ℕ × List ℕ × List ℕ
desk_run inputs numbers rule allowance store reading =
    with (run_unformed inputs numbers (length reading)) λ k.
    if k equals 0 then outcome_form (run_plainly_of (inputs_in inputs) (numbers_in numbers) rule allowance store) reading else
    unread k store reading
