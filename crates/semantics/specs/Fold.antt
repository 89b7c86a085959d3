-- A fold over a table's terms: a result for each, from the lowest up, made of the results of those that it names (document 01, "Terms": "A term
-- names only lower terms"). What a term reads as is one; an analysis of a table is another. Assumes nothing.
use Rattle.std.specs.Prelude.{ℕ, List, [], ◌∷◌, length}
use Rattle.notation.specs.Notation.{with, if◌equals◌then◌else◌}
use Rattle.semantics.specs.declared.Term.{Term}

-- what has number k, of a list newest first; d where there is none
unfoldable pub numbered : {A : Type 0} → A → List A → ℕ → A
numbered d [] k = d
numbered d (v ∷ vs) k = if k equals length vs then v else numbered d vs k

-- a term's result, of those that its a, b and c name
abbrev pub FromLower : Type 0 → Type 0
FromLower A = Term → A → A → A → A

-- the results of all terms, newest first; d stands for a number that names no lower term
unfoldable pub fold_terms : {A : Type 0} → FromLower A → A → List Term → List A
fold_terms f d [] = []
fold_terms f d (t ∷ ts) = with (fold_terms f d ts) λ vs. f t (numbered d vs t.a) (numbered d vs t.b) (numbered d vs t.c) ∷ vs

-- the result of term k
abbrev pub fold_at : {A : Type 0} → FromLower A → A → List Term → ℕ → A
fold_at f d ts k = numbered d (fold_terms f d ts) k
