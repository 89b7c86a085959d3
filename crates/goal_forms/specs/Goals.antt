-- A goal in bytes. Assumes nothing.
use Rattle.std.specs.Prelude.{ℕ, Bool, true, false, List, eqb}
use Rattle.notation.specs.Notation.{with, if◌equals◌then◌else◌}
use Rattle.words.specs.Words.{word_bytes}
use Rattle.semantics.specs.declared.Goal.{Goal}
use Rattle.semantics.specs.declared.Goal.TheVariants.{Errs, Aborts, Gives}
use Rattle.semantics.specs.Numbers.{word_term, abort_record, error_record}
use Rattle.semantics.specs.Records.{word_at}

-- a goal has the form of a reading: what it is and its number, each as a word. It is a word, an abort or an error, of which these have no number.
unfoldable pub goal_formed : List ℕ → Bool
goal_formed s =
    with (word_at s 0) λ k.
    if k equals word_term then true else
    with (word_at s word_bytes) λ n.
    if k equals abort_record then eqb n 0 else
    if k equals error_record then eqb n 0 else
    false

unfoldable pub goal_in : List ℕ → Goal
goal_in s =
    with (word_at s 0) λ k.
    if k equals abort_record then Aborts else
    if k equals error_record then Errs else
    Gives (word_at s word_bytes)
