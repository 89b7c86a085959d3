-- What the search for a witness asks and promises. Assumes nothing.
use Rattle.std.specs.Prelude.{◌≡◌, ◌⊎◌, Bool, true, false, List, [], ◌∷◌, ℕ, ◌+◌, ◌-◌, ◌/◌, ◌<◌, ◌≤◌, eqb, leb, length, get_or}
use Rattle.std.specs.declared.option.Option.{Option}
use Rattle.std.specs.declared.option.Option.TheVariants.{None, Some}
use Rattle.notation.specs.Notation.{with, when◌then◌else◌, if◌equals◌then◌else◌, if◌below◌then◌else◌}
use Rattle.semantics.specs.declared.Term.{Term}
use Rattle.semantics.specs.declared.Goal.{Goal}
use Rattle.semantics.specs.declared.Result.{Result}
use Rattle.semantics.specs.Numbers.{free_truth_term, free_word_term, input_count}
use Rattle.semantics.specs.Terms.{term_at, terms_in}
use Rattle.firsts.specs.Witness.{first_reached}
use Rattle.under.specs.Marks.{mark_place, mark_in}
use Rattle.marked.specs.Marked.{Under}
use Rattle.boxes.specs.Boxes.{Ready}
use Rattle.witness.specs.Told.{numbers_of}

-- ---- boxes

-- each low is at most its high
pub record Ordered (lows highs : List ℕ) : Type 0 where
  pub at : (i : ℕ) → get_or lows i 0 ≤ get_or highs i 0

-- every input before n is one value
abbrev pub Single : List ℕ → List ℕ → ℕ → Type 0
Single lows highs n = (j : ℕ) → j < n → get_or lows j 0 ≡ get_or highs j 0

-- i is the first input that is not yet one value
pub record FirstAt (lows highs : List ℕ) (i : ℕ) : Type 0 where
  pub single : Single lows highs i
  pub apart : get_or lows i 0 ≡ get_or highs i 0 → ⊥
  pub within : i < input_count

-- the first such input; none where every one is one value
abbrev pub FirstOpen : List ℕ → List ℕ → Option ℕ → Type 0
FirstOpen lows highs None = Single lows highs input_count
FirstOpen lows highs (Some i) = FirstAt lows highs i

-- input i is not yet one value
pub record OpenAt (lows highs : List ℕ) (i : ℕ) : Type 0 where
  pub input : i < input_count
  pub room : get_or lows i 0 < get_or highs i 0

-- halfway between two numbers
unfoldable pub middle_of : ℕ → ℕ → ℕ
middle_of l h = l + (h - l) / 2

-- how far the highs are above the lows
unfoldable pub spread : List ℕ → List ℕ → ℕ
spread [] hs = 0
spread (l ∷ ls) [] = 0
spread (l ∷ ls) (h ∷ hs) = (h - l) + spread ls hs

-- ---- the inputs that a result stands on

-- a free input's term
unfoldable pub is_free : Term → Bool
is_free t = if t.kind equals free_truth_term then true else eqb t.kind free_word_term

-- the input that a term names, where its place n is marked and it is a free input's
unfoldable pub named_input : ℕ → Term → Option ℕ
named_input n t =
    with (leb mark_place n) λ b. when b then (with (is_free t) λ f. when f then (if t.a below input_count then Some t.a else None) else None) else None

-- ts has the high of input i, or its low where none of the marked ones of the first n terms of the table s names it
pub record Stood (s lows highs m : List ℕ) (n : ℕ) (ts : List ℕ) : Type 0 where
  pub long : length ts ≡ length lows
  pub either : (i : ℕ) → i < input_count
      → (get_or ts i 0 ≡ get_or highs i 0) ⊎ ((get_or ts i 0 ≡ get_or lows i 0) × ((k : ℕ) → k < n → mark_in m k ≡ true → is_free (term_at s k) ≡ true → (term_at s k).a ≡ i → ⊥))

-- ---- the search

-- what it asks of a box and a work list
pub record SearchedFor (s : List ℕ) (count : ℕ) (r : Result) (lows highs work : List ℕ) : Type 0 where
  pub under : Under s count r work
  pub ordered : Ordered lows highs
  pub ready : Ready s count highs

-- what it finds of a single reading
abbrev pub single_hit : Bool → List ℕ → Option (List ℕ)
single_hit true ns = Some ns
single_hit false ns = None

-- what it finds of a box
abbrev pub Searched : List ℕ → ℕ → Result → Goal → List ℕ → List ℕ → Option (List ℕ) → Type 0
Searched s count r g lows highs h = h ≡ numbers_of (first_reached (terms_in s count) r g lows highs)
