-- A list over a table's terms, lent to an analysis: it holds a fold's result for each. Assumes nothing.
use Rattle.std.specs.Prelude.{◌≡◌, List, ℕ}
use Rattle.notation.specs.Notation.{if◌below◌then◌else◌}
use Rattle.semantics.specs.Terms.{terms_in}
use Rattle.semantics.specs.Fold.{FromLower, fold_at}

-- the result of term k, of the first i in a list that holds for each what `held` says; d where it is not among them
unfoldable pub held_of : {A : Type 0} → (List ℕ → ℕ → A) → A → List ℕ → ℕ → ℕ → A
held_of held d work i k = if k below i then held work k else d

-- the list holds the results of the first i terms of the table s
pub record Holds {A : Type 0} (held : List ℕ → ℕ → A) (f : FromLower A) (d : A) (s : List ℕ) (i : ℕ) (work : List ℕ) : Type 0 where
  pub is : (k : ℕ) → held_of held d work i k ≡ fold_at f d (terms_in s i) k
