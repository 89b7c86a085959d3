-- What the reader promises. A place of a work list holds the reading of a term as a number. Assumes nothing.
use Rattle.std.specs.Prelude.{List, ℕ, ◌/◌, ◌%◌, get_or}
use Rattle.words.specs.Words.{word_limit}
use Rattle.semantics.specs.declared.Result.{Result}
use Rattle.semantics.specs.declared.Reading.{Reading}
use Rattle.semantics.specs.declared.Outcome.{Outcome}
use Rattle.semantics.specs.Reading.{reading_of, is_true, result_outcome}

-- the reading that a place of the work list holds: its sort, counted in words, and its number
unfoldable pub unpacked_of : ℕ → Reading
unpacked_of n = reading_of (n / word_limit % 256) (n % word_limit)

-- the reading at place k of a list; nothing past its end
abbrev pub held_reading : List ℕ → ℕ → Reading
held_reading work k = unpacked_of (get_or work k 0)

-- what a result reads as, of what a list holds for the terms
abbrev pub held_outcome : List ℕ → Result → Outcome
held_outcome held r = result_outcome (is_true (held_reading held r.state.assumed)) (is_true (held_reading held r.state.asserted)) r.halted (held_reading held r.value)
