-- The choices that a call walks (document 01, "Evaluation", "Call"). Assumes nothing.
use Rattle.std.specs.Prelude.{ℕ, zero, suc, List, [], ◌∷◌, ◌++◌, length}
use Rattle.notation.specs.Notation.{with, if◌equals◌then◌else◌, if◌below◌then◌else◌}
use Rattle.semantics.specs.declared.Term.{Term}
use Rattle.semantics.specs.declared.State.{State}
use Rattle.semantics.specs.declared.Leaf.{Leaf}
use Rattle.semantics.specs.Numbers.{choice_term, procedure_term, leaf_limit, term_limit, call_too_wide, false_number, true_number, known_false}
use Rattle.semantics.specs.Steps.{Make, ◌>>=◌, ◌▹◌, give, refuse, each, look, seen}
use Rattle.semantics.specs.Factory.{not_of, and_of, or_of}
use Rattle.semantics.specs.States.{assert_of}

-- "any other term met that is no choice is a leaf"; 10: "a 65th leaf in one call's walk"
unfoldable pub leaf_of : List Leaf → ℕ → Term → Make (List Leaf)
leaf_of found g t = with (length found) λ n. if n below leaf_limit then give (found ++ (record { guard = g; term = t } ∷ [])) else refuse call_too_wide

-- a walk, of the guard, a term's number and the leaves found before
abbrev pub Walk : Type 0
Walk = ℕ → ℕ → List Leaf → Make (List Leaf)

-- "A side with a false guard is passed over"
unfoldable pub side_of : Walk → Walk
side_of walk g x found = seen g λ k. if k equals known_false then give found else walk g x found

-- "A left guard is and(path, test), a right one and(path, not test), each made as that side is entered."
unfoldable pub left_side_of : Walk → ℕ → ℕ → ℕ → List Leaf → Make (List Leaf)
left_side_of walk path a b found = and_of path a >>= λ g. side_of walk g b found

unfoldable pub right_side_of : Walk → ℕ → ℕ → ℕ → List Leaf → Make (List Leaf)
right_side_of walk path a c found = not_of a >>= λ n. and_of path n >>= λ g. side_of walk g c found

-- "walk the choices, left side first"
unfoldable pub sides_of : Walk → ℕ → Term → List Leaf → Make (List Leaf)
sides_of walk path t found = left_side_of walk path t.a t.b found >>= λ more. right_side_of walk path t.a t.c more

unfoldable pub node_of : Walk → Walk
node_of walk path x found = look x λ t. if t.kind equals choice_term then sides_of walk path t found else leaf_of found path t

-- The number bounds how far the walk goes down: a choice names only lower terms, and a table has at most 8,192.
unfoldable pub walk_of : ℕ → Walk
walk_of zero path x found = give found
walk_of (suc n) path x found = node_of (walk_of n) path x found

-- "Procedure leaves are the targets; assert the or, from the left starting at false, of their guards"
unfoldable pub or_target_of : ℕ → Leaf → Make ℕ
or_target_of g l = if l.term.kind equals procedure_term then or_of g l.guard else give g

-- The leaves of a call, and the state once it is asserted that one of them is a target.
pub record Aim : Type 0 where
  pub leaves : List Leaf
  pub state : State

-- "from guard true"
unfoldable pub aim_of : ℕ → State → Make Aim
aim_of f x = walk_of term_limit true_number f [] >>= λ ls. each or_target_of false_number ls >>= λ g. assert_of x g ▹ λ y. record { leaves = ls; state = y }
