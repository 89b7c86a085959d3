-- Shifts by the amounts about the width, by computation: a definition that no longer gives them is refused here. Assumes nothing.
use Rattle.std.proofs.Common.{◌≡◌, ℕ, List, [], ◌∷◌, map, refl}
use Rattle.notation.specs.Notation.{if◌below◌then◌else◌}
use Rattle.words.specs.Words.{left_of, right_of}

-- words of 16 bits: below the width, at it and past it
abbrev amounts : List ℕ
amounts = 0 ∷ 1 ∷ 15 ∷ 16 ∷ 17 ∷ 31 ∷ 32 ∷ 255 ∷ 65535 ∷ []

-- words of 32 bits
abbrev wider_amounts : List ℕ
wider_amounts = 0 ∷ 1 ∷ 31 ∷ 32 ∷ 33 ∷ 63 ∷ 64 ∷ 4294967295 ∷ []

pub record ShiftInstances : Type 0 where
  pub lefts : map (left_of 16 65535) amounts ≡ 65535 ∷ 65534 ∷ 32768 ∷ 0 ∷ 0 ∷ 0 ∷ 0 ∷ 0 ∷ 0 ∷ []
  pub rights : map (right_of 16 65535) amounts ≡ 65535 ∷ 32767 ∷ 1 ∷ 0 ∷ 0 ∷ 0 ∷ 0 ∷ 0 ∷ 0 ∷ []
  pub wider_lefts : map (left_of 32 4294967295) wider_amounts ≡ 4294967295 ∷ 4294967294 ∷ 2147483648 ∷ 0 ∷ 0 ∷ 0 ∷ 0 ∷ 0 ∷ []
  pub wider_rights : map (right_of 32 4294967295) wider_amounts ≡ 4294967295 ∷ 2147483647 ∷ 1 ∷ 0 ∷ 0 ∷ 0 ∷ 0 ∷ 0 ∷ []

pub shift_instances : ShiftInstances
unfolding if◌below◌then◌else◌
shift_instances = record { lefts = refl; rights = refl; wider_lefts = refl; wider_rights = refl }
