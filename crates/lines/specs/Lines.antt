-- The lines of document 01's "The printed case", as text in ASCII. Assumes nothing.
use Rattle.std.specs.Prelude.{ℕ, List, [], ◌∷◌, ◌++◌, map}
use Rattle.semantics.specs.Print.{Line, out, halt, refusal, numbers}
use Rattle.text.specs.Text.{ascii, decimal_of, joined, numbers_text}

unfoldable pub line_text : Line → List ℕ
line_text (out ns) = joined (ascii "out" ∷ map decimal_of ns)
line_text (halt ns) = joined (ascii "halt" ∷ map decimal_of ns)
line_text (refusal k) = joined (ascii "refused" ∷ decimal_of k ∷ [])
line_text (numbers ns) = numbers_text ns

unfoldable pub lines_text : List Line → List ℕ
lines_text [] = []
lines_text (l ∷ ls) = line_text l ++ lines_text ls
