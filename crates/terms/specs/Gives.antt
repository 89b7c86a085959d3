-- What code that takes a step over a lent table promises. Assumes nothing.
use Rattle.std.specs.Prelude.{◌≡◌, ℕ, zero, suc, ◌+◌, ◌*◌, ◌<◌, ◌≤◌, max, List, [], ◌∷◌, get_or, length}
use Rattle.std.specs.declared.result.Result.{Result}
use Rattle.std.specs.declared.result.Result.TheVariants.{Ok, Err}
use Rattle.semantics.specs.declared.Term.{Term}
use Rattle.semantics.specs.declared.refusal.Refusal.{Refusal}
use Rattle.semantics.specs.Refusals.{number_of}
use Rattle.semantics.specs.Terms.{terms_in, image_of}
use Rattle.semantics.specs.Steps.{Got, gave, refused, Make}
use Rattle.terms.specs.Search.{code_setting}
use Rattle.terms.specs.declared.table.Table.{Table}

-- the terms of a table
abbrev pub held : Table → List Term
held t = terms_in t.bytes.now t.count

-- what the code answers, with the terms ts then, once it used the depth u
abbrev pub shown : {A : Type 0} → List Term → ℕ → Result A Refusal → Got A
shown ts u (Ok a) = gave ts a u
shown ts u (Err k) = refused (number_of k)

-- an answer told by f
abbrev pub mapped : {A B : Type 0} → (A → B) → Result A Refusal → Result B Refusal
mapped f (Ok a) = Ok (f a)
mapped f (Err k) = Err k

-- Only records from the old count to the new one are written, in the same bytes.
pub record OnlyAppends (s y : Table) : Type 0 where
  pub same : y.bytes.ghost_name ≡ s.bytes.ghost_name
  pub long : length y.bytes.now ≡ length s.bytes.now
  pub grows : s.count ≤ y.count
  pub fits : s.count * 8 ≤ length s.bytes.now → y.count * 8 ≤ length y.bytes.now
  pub whole : s.bytes.now ≡ image_of (length s.bytes.now) (held s) → y.bytes.now ≡ image_of (length y.bytes.now) (held y)
  pub low : (k : ℕ) → k < s.count * 8 → get_or y.bytes.now k 0 ≡ get_or s.bytes.now k 0
  pub high : (k : ℕ) → y.count * 8 ≤ k → get_or y.bytes.now k 0 ≡ get_or s.bytes.now k 0

-- From the table s the step m gives the answer r, with the depth u used, and leaves the table y.
pub record Gives {A : Type 0} (m : Make A) (s : Table) (u : ℕ) (r : Result A Refusal) (y : Table) : Type 0 where
  pub is : shown (held y) u r ≡ m (code_setting (length s.bytes.now)) (held s)
  pub kept : OnlyAppends s y

-- a step that makes a term gives this, where the code answers r
abbrev pub Makes : Make ℕ → Table → Result ℕ Refusal → Table → Type 0
Makes m s r y = Gives m s 0 r y

-- a step that gives this, and uses at most the depth d
pub record Within (d : ℕ) {A : Type 0} (m : Make A) (s : Table) (u : ℕ) (r : Result A Refusal) (y : Table) : Type 0 where
  pub gives : Gives m s u r y
  pub low : u ≤ d

-- To take the step m from the table s is to take the step l from the table y, once the depth d is used.
pub record Leads {A : Type 0} (m : Make A) (s : Table) (d : ℕ) (l : Make A) (y : Table) : Type 0 where
  pub on : (u v : ℕ) (r : Result A Refusal) (z : Table) → v ≡ max d u → Gives l y u r z → Gives m s v r z

-- k elements of an array from i on
unfoldable pub from : {A : Type 0} → A → List A → ℕ → ℕ → List A
from z l i zero = []
from z l i (suc k) = get_or l i z ∷ from z l (i + 1) k
