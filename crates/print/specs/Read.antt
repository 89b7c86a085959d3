-- What the printing program has of its input. Assumes nothing.
use Rattle.std.specs.Prelude.{◌≡◌, ℕ, List, length, take}

-- What reading hands over where no read fails: the first n bytes of the buffer are as much of the input's beginning as the buffer holds.
pub record Read (buffer : List ℕ) (n : ℕ) (input : List ℕ) : Type 0 where
  pub is : take n buffer ≡ take (length buffer) input
