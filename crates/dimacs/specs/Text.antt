-- Clauses as DIMACS CNF text (document 02, Six): "After the p cnf line clauses stand in term order, the goal's last, each its literals, then 0, one
-- space between, no leading zeros; every line ends in a line feed." Assumes nothing.
use Rattle.std.specs.Prelude.{ℕ, List, [], ◌∷◌, ◌++◌, length}
use Prim.Native.Char.{code}
use Rattle.text.specs.Text.{ascii, space, line_feed, digit, decimal_of}
use Rattle.semantics.specs.declared.Term.{Term}
use Rattle.semantics.specs.declared.Result.{Result}
use Rattle.semantics.specs.declared.Goal.{Goal}
use Rattle.circuits.specs.Gates.{Literal, pos, neg}
use Rattle.clauses.specs.Clauses.{variable_count, clauses_for}

abbrev pub minus : ℕ
minus = code "-"

-- a literal and the space after it
unfoldable pub literal_text : Literal ℕ → List ℕ
literal_text (pos v) = decimal_of v ++ (space ∷ [])
literal_text (neg v) = minus ∷ (decimal_of v ++ (space ∷ []))

-- "each its literals, then 0": a line
unfoldable pub clause_text : List (Literal ℕ) → List ℕ
clause_text [] = digit 0 ∷ line_feed ∷ []
clause_text (l ∷ ls) = literal_text l ++ clause_text ls

unfoldable pub clauses_text : List (List (Literal ℕ)) → List ℕ
clauses_text [] = []
clauses_text (c ∷ cs) = clause_text c ++ clauses_text cs

-- "the p cnf line": of v variables and n clauses
unfoldable pub header_text : ℕ → ℕ → List ℕ
header_text v n = ascii "p cnf " ++ (decimal_of v ++ (space ∷ (decimal_of n ++ (line_feed ∷ []))))

-- the text of a table of c terms, a result and a goal
unfoldable pub text_for : ℕ → List Term → Result → Goal → List ℕ
text_for c ts r g = header_text (variable_count c ts) (length (clauses_for c ts r g)) ++ clauses_text (clauses_for c ts r g)
