-- Spans over byte forms, on all arguments: the answer, 0 or the number of a refusal, and the list of reports then. A refused call leaves it as it was.
-- Assumes nothing.
use Rattle.std.specs.Prelude.{ℕ, List, eqb, length}
use Rattle.notation.specs.Notation.{with, if◌equals◌then◌else◌, unless◌then◌else◌}
use Rattle.semantics.specs.Numbers.{misfit}
use Rattle.semantics.specs.Spans.{spans_of}
use Rattle.forms.specs.Forms.{session_length, numbers_length, wrong_length, numbers_in, session_in, session_formed}

-- 255 of the session, the lows and the highs; 3 of a session that is not of its form; else 0
unfoldable pub spans_unformed : List ℕ → List ℕ → List ℕ → ℕ
spans_unformed session lows highs =
    unless eqb (length session) session_length then wrong_length else
    unless eqb (length lows) numbers_length then wrong_length else
    unless eqb (length highs) numbers_length then wrong_length else
    unless session_formed session then misfit else
    0

-- then the operation's own 3, 17 and 15
unfoldable pub desk_spans : List ℕ → List ℕ → List ℕ → List ℕ → List ℕ → ℕ × List ℕ
desk_spans session table lows highs list =
    with (spans_unformed session lows highs) λ k.
    if k equals 0 then spans_of (session_in session) table (numbers_in lows) (numbers_in highs) list else (k, list)
