-- What the functions of this crate hand to each other and to the pass: a record's children, and the marks of the tree test. Assumes
-- nothing.
use Rattle.std.specs.Prelude.{ℕ, ◌+◌, ◌≤◌, min, List, [], ◌∷◌, get_or, set}
use Rattle.semantics.specs.Rules.{Part, part}
use Rattle.children.specs.declared.Child.{Child}
use Rattle.children.specs.declared.Children.{Children}
use Rattle.children.specs.declared.Children.TheVariants.{Empty, One, Two}

-- a child, as the definitions have it
abbrev pub part_of : Child → Part
part_of c = part c.at c.more

-- the children that the code holds, in their order
abbrev pub children_of : Children → List Part
children_of Empty = []
children_of (One a) = part_of a ∷ []
children_of (Two a b) = part_of a ∷ part_of b ∷ []

-- no child has more than one binding more than its parent
abbrev pub OneMore : Children → Type 0
OneMore Empty = Unit {0}
OneMore (One a) = a.more ≤ 1
OneMore (Two a b) = (a.more ≤ 1) × (b.more ≤ 1)

-- one mark more for record c, and at most two
unfoldable pub bumped_of : List ℕ → ℕ → List ℕ
bumped_of m c = set m c (min 2 (get_or m c 0 + 1))

-- one mark more for each child
unfoldable pub marked_of : List Part → List ℕ → List ℕ
marked_of [] m = m
marked_of (c ∷ cs) m = marked_of cs (bumped_of m c.child)
