-- The text of clauses, one list after another. Assumes nothing.
use mathlib.Core.Path.{◌≡◌, refl, sym}
use mathlib.Core.List.{List, [], ◌∷◌, ◌++◌, append_assoc}
use Prim.Native.Nat.{ℕ}
use Rattle.circuits.specs.Gates.{Literal}
use Rattle.dimacs.specs.Text.{clause_text, clauses_text}

pub clauses_append : (cs ds : List (List (Literal ℕ))) → clauses_text (cs ++ ds) ≡ clauses_text cs ++ clauses_text ds
unfolding clauses_text
clauses_append [] ds = refl
clauses_append (c ∷ cs) ds = rw (clauses_append cs ds) (sym (append_assoc (clause_text c) (clauses_text cs) (clauses_text ds)))
