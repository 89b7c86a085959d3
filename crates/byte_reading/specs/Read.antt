-- Reading over byte forms, on all arguments: the answer, 0 or the number of a refusal; the work list and the reading's place then. A refused call
-- leaves the work list zero and the reading's place as it was. Assumes nothing.
use Rattle.std.specs.Prelude.{ℕ, List, eqb, length}
use Rattle.notation.specs.Notation.{with, if◌equals◌then◌else◌, unless◌then◌else◌}
use Rattle.semantics.specs.Numbers.{misfit}
use Rattle.semantics.specs.Reading.{read_of}
use Rattle.forms.specs.Forms.{session_length, numbers_length, result_length, reading_length, wrong_length, numbers_in, session_in, session_formed, result_in}
use Rattle.forms.specs.Outcomes.{outcome_form, unread}

-- 255 of the session, the numbers, the result and the reading's place, of l bytes; 3 of a session that is not of its form; else 0
unfoldable pub read_unformed : List ℕ → List ℕ → List ℕ → ℕ → ℕ
read_unformed session numbers result l =
    unless eqb (length session) session_length then wrong_length else
    unless eqb (length numbers) numbers_length then wrong_length else
    unless eqb (length result) result_length then wrong_length else
    unless eqb l reading_length then wrong_length else
    unless session_formed session then misfit else
    0

-- then Read's own 3, 13, 14 and 15, of which 14 refuses a result that is not of its form too
unfoldable pub desk_read : List ℕ → List ℕ → List ℕ → List ℕ → List ℕ → List ℕ → ℕ × List ℕ × List ℕ
desk_read session table numbers result work reading =
    with (read_unformed session numbers result (length reading)) λ k.
    if k equals 0 then outcome_form (read_of (session_in session) table (numbers_in numbers) (result_in result) work) reading else
    unread k work reading
