-- Evaluating over byte forms, on all arguments: the answer, 0 or the number of a refusal; session, table and the answer's place then. What is
-- lent to a refused call stays as it was. Assumes nothing.
use Rattle.std.specs.Prelude.{ℕ, List, eqb, length}
use Rattle.notation.specs.Notation.{with, if◌equals◌then◌else◌, unless◌then◌else◌}
use Rattle.semantics.specs.declared.Evaluated.{Evaluated}
use Rattle.semantics.specs.Numbers.{misfit}
use Rattle.semantics.specs.Evaluate.{evaluate_of}
use Rattle.forms.specs.Forms.{session_length, answer_length, wrong_length, session_in, session_formed, pairs_of, session_bytes}
use Rattle.forms.specs.Answers.{answer_values, written_at}

-- an answer that is no refusal advances the session
unfoldable pub evaluated_form : Evaluated × List ℕ → List ℕ → List ℕ → ℕ × List ℕ × List ℕ × List ℕ
evaluated_form e session answer =
    with (written_at pairs_of (answer_values e.0.answer) answer) λ w.
    (w.0, (if w.0 equals 0 then session_bytes e.0.session else session), e.1, w.1)

-- 255 of the session and of the answer's place; then Evaluate's own tests, of which 3, the first, refuses a session that is not of its form too
unfoldable pub desk_evaluate : List ℕ → List ℕ → List ℕ → ℕ → List ℕ → ℕ × List ℕ × List ℕ × List ℕ
desk_evaluate session table rule allowance answer =
    unless eqb (length session) session_length then (wrong_length, session, table, answer) else
    unless eqb (length answer) answer_length then (wrong_length, session, table, answer) else
    unless session_formed session then (misfit, session, table, answer) else
    evaluated_form (evaluate_of rule allowance (session_in session) table) session answer

-- the number of those that come before Evaluate's own, where the answer's place has l bytes; 0 where none refuses
unfoldable pub evaluate_unformed : List ℕ → ℕ → ℕ
evaluate_unformed session l =
    unless eqb (length session) session_length then wrong_length else
    unless eqb l answer_length then wrong_length else
    unless session_formed session then misfit else
    0
