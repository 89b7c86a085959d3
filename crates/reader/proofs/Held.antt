-- The work list of readings: what stands past its end, and that it is zero in the end. Assumes nothing.
use mathlib.Core.Path.{◌≡◌}
use mathlib.Core.List.{List}
use Prim.Native.Nat.{ℕ, ◌≤◌}
use lib.ListN.{length, replicate, get_or-eq_default}
use Rattle.semantics.specs.Reading.{nothing}
use Rattle.reader.specs.Reader.{unpacked_of, held_reading}

-- past the last place of a work list stands nothing
pub reading_past : (m : List ℕ) (k : ℕ) → length m ≤ k → nothing ≡ held_reading m k
unfolding unpacked_of
reading_past m k l = rw (get_or-eq_default m 0 l)

pub zero_as : {m : List ℕ} (a b : ℕ) → m ≡ replicate a 0 → a ≡ b → m ≡ replicate b 0
zero_as a b p q = rw q at p
