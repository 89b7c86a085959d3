-- What the lines of the printing program take, and when they are known to fit. Assumes nothing.
use Rattle.std.specs.Prelude.{ℕ, ◌*◌, ◌≤◌}
use Rattle.semantics.specs.declared.Answer.{Answer}
use Rattle.semantics.specs.declared.Answer.TheVariants.{Out, Halt, Refused}
use Rattle.semantics.specs.Numbers.{term_limit}
use Rattle.text.specs.Appends.{number_bytes}

-- the longest line, a term's of six numbers
abbrev pub line_bytes : ℕ
line_bytes = 6 * number_bytes

-- An accepted rule leaves a table within its limit; a refused one's is not told.
abbrev pub Told : Answer → ℕ → Type 0
Told (Out x v d) n = n ≤ term_limit
Told (Halt x d) n = n ≤ term_limit
Told (Refused k) n = Unit {0}
