-- Opening over byte forms, on all arguments: the answer, 0 or the number of a refusal; the table and the session's place then. What is lent to
-- a refused call stays as it was. Assumes nothing.
use Rattle.std.specs.Prelude.{ℕ, List, eqb, length}
use Rattle.notation.specs.Notation.{when◌then◌else◌, if◌equals◌then◌else◌, unless◌then◌else◌}
use Rattle.semantics.specs.declared.Opened.{Opened}
use Rattle.semantics.specs.Numbers.{table_size, bad_input}
use Rattle.semantics.specs.Opening.{bad_table_size, open_of}
use Rattle.forms.specs.Forms.{session_length, wrong_length, inputs_in, inputs_formed, session_bytes}

-- an opening that is not refused writes the session
abbrev pub opened_form : Opened × List ℕ → List ℕ → ℕ × List ℕ × List ℕ
opened_form o session = if o.0.refusal equals 0 then (0, o.1, session_bytes o.0.session) else (o.0.refusal, o.1, session)

-- 255 of the session's place; then Open's own 1 and 2, of which 2 refuses inputs that are not of their form too
unfoldable pub desk_open : List ℕ → List ℕ → List ℕ → ℕ × List ℕ × List ℕ
desk_open inputs table session =
    unless eqb (length session) session_length then (wrong_length, table, session) else
    when bad_table_size (length table) then (table_size, table, session) else
    unless inputs_formed inputs then (bad_input, table, session) else
    opened_form (open_of (inputs_in inputs) table) session
