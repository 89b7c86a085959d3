-- Samples over byte forms, on all arguments: the answer, 0 or the number of a refusal; the work list and the answers then. A refused call leaves the work
-- list zero and the answers as they were. Assumes nothing.
use Rattle.std.specs.Prelude.{ℕ, List, eqb, length}
use Rattle.notation.specs.Notation.{with, if◌equals◌then◌else◌, unless◌then◌else◌}
use Rattle.semantics.specs.Numbers.{misfit}
use Rattle.semantics.specs.Samples.{read_all_of}
use Rattle.forms.specs.Forms.{session_length, result_length, wrong_length, session_in, session_formed, result_in}
use Rattle.forms.specs.Outcomes.{unread}

-- 255 of the session and the result; 3 of a session that is not of its form; else 0
unfoldable pub samples_unformed : List ℕ → List ℕ → ℕ
samples_unformed session result =
    unless eqb (length session) session_length then wrong_length else
    unless eqb (length result) result_length then wrong_length else
    unless session_formed session then misfit else
    0

-- then the operation's own 3, 14 and 15, of which 14 refuses a result that is not of its form too
unfoldable pub desk_read_all : List ℕ → List ℕ → List ℕ → List ℕ → List ℕ → List ℕ → ℕ × List ℕ × List ℕ
desk_read_all session table result numbers work answers =
    with (samples_unformed session result) λ k.
    if k equals 0 then read_all_of (session_in session) table (result_in result) numbers work answers else
    unread k work answers
