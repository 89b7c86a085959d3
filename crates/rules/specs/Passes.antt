-- What the functions of this crate hand to each other: the counts of bindings, lists of zeros, and the number by which the pass for the tests
-- 6 and 7 refuses. Assumes nothing.
use Rattle.std.specs.Prelude.{ℕ, ◌+◌, ◌≤◌, List, [], ◌∷◌, ◌≡◌, length, get_or, set}
use Rattle.notation.specs.Notation.{unless◌then◌else◌, up_to}
use Rattle.semantics.specs.Numbers.{bad_tree, bad_place}
use Rattle.semantics.specs.Rules.{Part, linked_of, scoped_of}

-- a record under d bindings tells each child its own
unfoldable pub told_of : ℕ → List Part → List ℕ → List ℕ
told_of d [] m = m
told_of d (c ∷ cs) m = told_of d cs (set m c.child (d + c.more))

-- a list with a zero for each of n records
pub record Cleared (n : ℕ) (m : List ℕ) : Type 0 where
  pub long : n ≤ length m
  pub zero : (j : ℕ) → get_or m j 0 ≡ 0

-- the first of the tests 6 and 7 that refuses a rule of n records; 0 where neither does
unfoldable pub tree_and_scopes_of : List ℕ → ℕ → ℕ
tree_and_scopes_of s n = unless up_to n (linked_of s n) then bad_tree else unless up_to n (scoped_of s) then bad_place else 0
