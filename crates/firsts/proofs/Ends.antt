-- The numbers that stand for sixteen inputs: those of spans, or one number for all where no spans are given. Assumes nothing.
use mathlib.Core.Path.{◌≡◌, refl}
use mathlib.Core.Bool.{Bool, true, false}
use mathlib.Core.List.{List}
use Prim.Native.Nat.{ℕ, zero, suc, ◌<◌, ◌≤◌}
use native.Mathlib.Omega.{arith}
use lib.ListN.{length, get_or, replicate, length-replicate, get_or-eq_default}
use Rattle.notation.specs.Notation.{pick}
use Rattle.words.specs.Words.{word_limit, last_word}
use Rattle.semantics.specs.Numbers.{input_count}

-- past the last number stands 0
pub past : (ns : List ℕ) (i : ℕ) → length ns ≤ i → ◌≡◌ {A = ℕ} (get_or ns i 0) 0
past ns i h = get_or-eq_default ns 0 h

-- with spans or without, there are sixteen
pub given : (spanned : Bool) (ns : List ℕ) (d : ℕ) → length ns ≡ input_count → length (pick spanned ns (replicate input_count d)) ≡ input_count
given true ns d n = n
given false ns d n = length-replicate input_count d

-- each of the same numbers
pub same_at : (d m i : ℕ) → i < m → get_or (replicate m d) i 0 ≡ d
same_at d zero i h = absurd (omega arith)
same_at d (suc m) zero h = refl
same_at d (suc m) (suc i) h = same_at d m i (omega arith)

-- the greatest words are words, and so is what stands past them
pub lasts_word : (m i : ℕ) → get_or (replicate m last_word) i 0 < word_limit
lasts_word zero i = omega arith
lasts_word (suc m) zero = omega arith
lasts_word (suc m) (suc i) = lasts_word m i
