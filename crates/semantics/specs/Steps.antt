-- Steps that make terms, one after another (document 01, "Terms"): of the terms that there are, a step gives those that there are then, an
-- answer, and the depth that it used; or it is refused. Assumes nothing.
use Rattle.std.specs.Prelude.{ℕ, ◌+◌, ◌/◌, min, max, List, [], ◌∷◌, ltb, length}
use Rattle.notation.specs.Notation.{pick}
use Rattle.semantics.specs.declared.Term.{Term}
use Rattle.semantics.specs.declared.Found.{Found}
use Rattle.semantics.specs.Numbers.{table_full, term_limit}
use Rattle.semantics.specs.Terms.{at, find_of, known_of}

-- Where steps are taken: how many terms the table has room for, and how an equal term is searched for. Document 01's search is `find_of`;
-- on a table that 3 takes, any search that finds the same terms will do.
pub record Setting : Type 0 where
  pub room : ℕ
  pub search : List Term → Term → Found

-- a term for each 8 bytes of a table, at most 8,192
abbrev pub room_of : ℕ → ℕ
room_of l = min term_limit (l / 8)

-- document 01's setting for a table of l bytes
abbrev pub setting_of : ℕ → Setting
setting_of l = record { room = room_of l; search = find_of }

pub data Got (A : Type 0) : Type 0 where
  gave : (terms : List Term) → (answer : A) → (used : ℕ) → Got A
  refused : (number : ℕ) → Got A

abbrev pub Make : Type 0 → Type 0
Make A = Setting → List Term → Got A

-- ---- steps one after another; the depth used is the largest
abbrev pub deeper : {A : Type 0} → ℕ → Got A → Got A
deeper u (gave ts a w) = gave ts a (max u w)
deeper u (refused k) = refused k

abbrev pub next : {A B : Type 0} → Setting → Got A → (A → Make B) → Got B
next z (gave ts a u) f = deeper u (f a z ts)
next z (refused k) f = refused k

infixl 10 ◌>>=◌
unfoldable pub ◌>>=◌ : {A B : Type 0} → Make A → (A → Make B) → Make B
◌>>=◌ m f = λ z ts. next z (m z ts) f

unfoldable pub give : {A : Type 0} → A → Make A
give x = λ z ts. gave ts x 0

unfoldable pub refuse : {A : Type 0} → ℕ → Make A
refuse k = λ z ts. refused k

-- a step whose answer is f of another's
infixl 10 ◌▹◌
unfoldable pub ◌▹◌ : {A B : Type 0} → Make A → (A → B) → Make B
m ▹ f = m >>= λ a. give (f a)

-- a step for each element, in order
unfoldable pub each : {A B : Type 0} → (A → B → Make A) → A → List B → Make A
each f a [] = give a
each f a (x ∷ xs) = f a x >>= λ b. each f b xs

-- ---- a step that reads the terms first
unfoldable pub reads : {A B : Type 0} → (List Term → B) → (B → Make A) → Make A
reads f k = λ z ts. k (f ts) z ts

-- with the term x
abbrev pub look : {A : Type 0} → ℕ → (Term → Make A) → Make A
look x k = reads (λ ts. at ts x) k

-- with what is known of the term x
abbrev pub seen : {A : Type 0} → ℕ → (ℕ → Make A) → Make A
seen x k = reads (λ ts. known_of (at ts x)) k

-- ---- one expression deeper
abbrev pub up_of : {A : Type 0} → Got A → Got A
up_of (gave ts a u) = gave ts a (u + 1)
up_of (refused k) = refused k

unfoldable pub up : {A : Type 0} → Make A → Make A
up m = λ z ts. up_of (m z ts)

-- ---- "A term equal to one present takes that number; another takes the next"; 11: "a new term with the table full"
unfoldable pub make_of : Term → Make ℕ
make_of t = λ z ts.
    pick (z.search ts t).is (gave ts (z.search ts t).at 0) (pick (ltb (length ts) z.room) (gave (t ∷ ts) (length ts) 0) (refused table_full))
