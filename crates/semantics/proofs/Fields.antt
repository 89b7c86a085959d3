-- A word in the fields of a term. Assumes nothing.
use mathlib.Core.Path.{◌≡◌, refl}
use mathlib.Core.Bool.{true}
use Prim.Native.Nat.{ℕ}
use Rattle.notation.specs.Notation.{if◌below◌then◌else◌}
use Rattle.words.specs.Words.{word_fields, high_of}
use Rattle.semantics.specs.Records.{field_of}

-- What a word does not use of its second field is zero.
pub high_unused : (w : ℕ) → field_of word_fields 1 (high_of w) ≡ true
unfolding field_of if◌below◌then◌else◌ high_of
high_unused w = refl
