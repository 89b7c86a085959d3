-- What the answers of document 02's request Four tell. It is said of `read_all_of` and `read_of`, which the operations are proved equal to, on what can be
-- lent: a table of bytes, and numbers that are words. Assumes nothing.
use Rattle.std.specs.Prelude.{◌≡◌, List, ℕ, ◌<◌, length, get_or}
use Rattle.semantics.specs.declared.Session.{Session}
use Rattle.semantics.specs.declared.Result.{Result}
use Rattle.semantics.specs.Numbers.{input_count}
use Rattle.semantics.specs.Reading.{read_of}
use Rattle.semantics.specs.Samples.{sample_at, outcome_told, read_all_of}
use Rattle.certainty.specs.Certain.{Bytes, Words}

-- "the answers hold just what single readings would give": of every call that is not refused, what stands in each place of the answers tells the whole
-- outcome of a single reading of that sample.
abbrev pub SamplesTold : Type 0
SamplesTold =
    (x : Session) (s : List ℕ) (r : Result) (numbers work answers : List ℕ) → length x.inputs ≡ input_count → Bytes s → Words numbers
    → (read_all_of x s r numbers work answers).0 ≡ 0 → (j : ℕ) → j < length answers
    → outcome_told (get_or (read_all_of x s r numbers work answers).2 j 0) ≡ (read_of x s (sample_at numbers j) r work).0
