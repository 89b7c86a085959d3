-- Clauses over byte forms, on all arguments: the answer, 0 or the number of a refusal; the buffer for the text and the list of the text's length then.
-- A refused call leaves both as they were, but for 18, which says the length. Assumes nothing.
use Rattle.std.specs.Prelude.{ℕ, List, eqb, length, set}
use Rattle.notation.specs.Notation.{with, if◌equals◌then◌else◌, unless◌then◌else◌}
use Rattle.semantics.specs.Numbers.{misfit, bad_result}
use Rattle.dimacs.specs.Written.{Written}
use Rattle.dimacs.specs.Write.{write_of}
use Rattle.forms.specs.Forms.{session_length, result_length, reading_length, wrong_length, session_in, session_formed, result_in}
use Rattle.goal_forms.specs.Goals.{goal_formed, goal_in}

-- 255 of the session, the result, the goal and the list of the length, which has l numbers, and of a goal that is not of its form; 3 of a session
-- that is not of its form; else 0
unfoldable pub clauses_unformed : List ℕ → List ℕ → List ℕ → ℕ → ℕ
clauses_unformed session result goal l =
    unless eqb (length session) session_length then wrong_length else
    unless eqb (length result) result_length then wrong_length else
    unless eqb (length goal) reading_length then wrong_length else
    unless eqb l 1 then wrong_length else
    unless goal_formed goal then wrong_length else
    unless session_formed session then misfit else
    0

-- the answer, the buffer, and the list, which 3 and 14 leave
abbrev pub length_said : Written × List ℕ → List ℕ → ℕ × List ℕ × List ℕ
length_said w list =
    (w.0.refusal, w.1, if w.0.refusal equals misfit then list else if w.0.refusal equals bad_result then list else set list 0 w.0.length)

-- then the operation's own 3, 14 and 18, of which 14 refuses a result that is not of its form too
unfoldable pub desk_clauses : List ℕ → List ℕ → List ℕ → List ℕ → List ℕ → List ℕ → ℕ × List ℕ × List ℕ
desk_clauses session table result goal text list =
    with (clauses_unformed session result goal (length list)) λ k.
    if k equals 0 then length_said (write_of (session_in session) table (result_in result) (goal_in goal) text) list else
    (k, text, list)
