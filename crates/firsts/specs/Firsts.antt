-- What "the first such reading, comparing inputs from 0 up as plain numbers" says of an answer. Assumes nothing.
use Rattle.std.specs.Prelude.{◌≡◌, Bool, true, false, List, [], ◌∷◌, ℕ, ◌<◌, ◌≤◌}
use Rattle.firsts.specs.Witness.{First, none, some}

-- the numbers lie in the box from the lows to the highs
pub data InBox : List ℕ → List ℕ → List ℕ → Type 0 where
  end : {hs : List ℕ} → InBox [] hs []
  one : {l h n : ℕ} {ls hs ns : List ℕ} → l ≤ n → n ≤ h → InBox ls hs ns → InBox (l ∷ ls) (h ∷ hs) (n ∷ ns)

-- "comparing inputs from 0 up as plain numbers": the first comes before the second
pub data Before : List ℕ → List ℕ → Type 0 where
  here : {n m : ℕ} {ns ms : List ℕ} → n < m → Before (n ∷ ns) (m ∷ ms)
  later : {n : ℕ} {ns ms : List ℕ} → Before ns ms → Before (n ∷ ns) (n ∷ ms)

-- it lies in the box, p holds of it, and of none in the box that comes before it
pub record Found (p : List ℕ → Bool) (ls hs ns : List ℕ) : Type 0 where
  pub inside : InBox ls hs ns
  pub reached : p ns ≡ true
  pub least : (ms : List ℕ) → InBox ls hs ms → Before ms ns → p ms ≡ false

-- what an answer says: it is the first; or p holds of none
abbrev pub Says : (List ℕ → Bool) → List ℕ → List ℕ → First → Type 0
Says p ls hs none = (ms : List ℕ) → InBox ls hs ms → p ms ≡ false
Says p ls hs (some ns) = Found p ls hs ns
