-- What reading and running leave over byte forms: the answer, the work list or the store, and the reading's place then. Assumes nothing.
use Rattle.std.specs.Prelude.{ℕ, List, length, replicate}
use Rattle.notation.specs.Notation.{with}
use Rattle.semantics.specs.declared.Outcome.{Outcome}
use Rattle.forms.specs.Forms.{words_of}
use Rattle.forms.specs.Answers.{outcome_values, written_at}

-- what was read or run
unfoldable pub outcome_form : Outcome × List ℕ → List ℕ → ℕ × List ℕ × List ℕ
outcome_form o reading = with (written_at words_of (outcome_values o.0) reading) λ w. (w.0, o.1, w.1)

-- refused by the number k: the work list or the store is zero, and the reading's place as it was
abbrev pub unread : ℕ → List ℕ → List ℕ → ℕ × List ℕ × List ℕ
unread k work reading = (k, replicate (length work) 0, reading)
