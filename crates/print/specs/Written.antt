-- What the printing program writes, byte by byte. Assumes nothing.
use Rattle.std.specs.Prelude.{ℕ, List}
use Rattle.semantics.specs.Print.{printed_of}
use Rattle.lines.specs.Lines.{lines_text}

-- what is written, of what is read
unfoldable pub written_of : List ℕ → List ℕ
written_of s = lines_text (printed_of s)
