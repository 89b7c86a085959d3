-- What code that adds text to a buffer promises. Assumes nothing.
use Rattle.std.specs.Prelude.{◌≡◌, ℕ, ◌+◌, ◌≤◌, List, ◌++◌, take}
use Rattle.io.specs.Counts.{IsPrefixLen}
use Rattle.text.specs.Text.{decimal_of}

-- the longest number and the byte after it: below 65,536 there are at most five digits
abbrev pub number_bytes : ℕ
number_bytes = 6

-- The first r bytes of the text are n in base ten.
pub record Spells (n : ℕ) (text : List ℕ) (r : ℕ) : Type 0 where
  pub counts : IsPrefixLen r text
  pub few : r ≤ 5
  pub is : take r text ≡ decimal_of n

-- The first `at` bytes of s, then this text, are the first r bytes of y; the text is at most `most` bytes long.
pub record Appends (most : ℕ) (text s : List ℕ) (at : ℕ) (y : List ℕ) (r : ℕ) : Type 0 where
  pub is : take r y ≡ take at s ++ text
  pub low : at ≤ r
  pub high : r ≤ at + most

-- The first r bytes of y are this text.
pub record Writes (text y : List ℕ) (r : ℕ) : Type 0 where
  pub counts : IsPrefixLen r y
  pub is : take r y ≡ text
