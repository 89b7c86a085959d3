-- What is read from the text that document 02's request Six writes. It is said of `write_of`, which the operation is proved equal to. Assumes nothing.
use Rattle.std.specs.Prelude.{◌≡◌, List, ℕ, take}
use Rattle.std.proofs.Math.Option.{some}
use Rattle.semantics.specs.declared.Session.{Session}
use Rattle.semantics.specs.declared.Result.{Result}
use Rattle.semantics.specs.declared.Goal.{Goal}
use Rattle.semantics.specs.Terms.{terms_in}
use Rattle.clauses.specs.Clauses.{variable_count, clauses_of_call}
use Rattle.models.specs.Models.{Taken}
use Rattle.dimacs.specs.Write.{written_of, write_of}
use Rattle.grammar.specs.Dimacs.{dimacs_in}

-- Of every call that is not refused: what the grammar reads from the bytes that were written is the clauses, over their variables.
abbrev pub TextIsClauses : Type 0
TextIsClauses =
    (x : Session) (s : List ℕ) (r : Result) (g : Goal) → Taken x s r g → (buffer left : List ℕ) (n : ℕ) → write_of x s r g buffer ≡ (written_of 0 n, left)
    → dimacs_in (take n left) ≡ some (record { variables = variable_count x.count (terms_in s x.count); clauses = clauses_of_call x s r g })
