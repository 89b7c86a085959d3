-- What is counted of a table's terms before the text is written. Assumes nothing.
use Rattle.std.specs.Prelude.{◌≡◌, List, ℕ, ◌*◌, ◌<◌, ◌≤◌, length}
use Rattle.semantics.specs.declared.Term.{Term}
use Rattle.clauses.specs.Clauses.{helpers_in, table_clauses}
use Rattle.dimacs.specs.Text.{clauses_text}

-- a clause takes at most so many bytes
abbrev pub clause_bytes : ℕ
clause_bytes = 64

-- The helpers and clauses of these terms, in a table of c; they are few, and their text is short.
pub record TotalsOf (ts : List Term) (c helpers clauses : ℕ) : Type 0 where
  pub helpers_are : helpers ≡ helpers_in ts
  pub clauses_are : clauses ≡ length (table_clauses c ts)
  pub few_helpers : helpers < 134217728
  pub short : length (clauses_text (table_clauses c ts)) ≤ clause_bytes * clauses
