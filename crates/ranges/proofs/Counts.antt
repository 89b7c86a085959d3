-- Counts of ones and of leading zeros of a span of words. Assumes nothing.
use mathlib.Core.Path.{◌≡◌, refl}
use mathlib.Core.Bool.{Bool, true, false}
use Prim.Native.Nat.{ℕ, suc, ◌+◌, ◌-◌, ◌*◌, ◌^◌, ◌<◌, ◌≤◌}
use native.Mathlib.Omega.{arith}
use lib.Dec.{ltb}
use lib.Pow.{pow_mono}
use lib.Count.{ones-le, leading_length}
use borrow.Author.Tests.{ltb-true, ltb-false}
use Rattle.words.specs.Words.{ones_of, zeros_of}

-- the larger word has no more leading zeros: it has as many bits below them, or more
pub zeros_falls : (k a b : ℕ) → a ≤ b → b < 2 ^ k → zeros_of k b ≤ zeros_of k a
zeros_falls k a b h l =
    let x = leading_length k a (omega arith) in
    let y = leading_length k b l in
    go x.0 y.0 x.1 y.1 x.3 y.2 (ltb y.0 x.0) refl
  where
    go : (m n : ℕ) → zeros_of k a + m ≡ k → zeros_of k b + n ≡ k → 2 ^ m ≤ 2 * a + 1 → b < 2 ^ n → (c : Bool) → ltb n m ≡ c → zeros_of k b ≤ zeros_of k a
    go m n p q r s true e =
        let i = ltb-true n m e in
        let j : 2 ^ suc n ≤ 2 ^ m = pow_mono (omega arith) in
        let t : 2 ^ suc n ≡ 2 * 2 ^ n = omega arith in
        absurd (omega arith)
    go m n p q r s false e = let i = ltb-false n m e in omega arith

-- a word has no more ones than bits below its leading zeros, and neither has a smaller one
pub ones_bound : (k a b : ℕ) → a ≤ b → b < 2 ^ k → ones_of a ≤ k - zeros_of k b
ones_bound k a b h l = let y = leading_length k b l in go y.0 y.1 y.2
  where
    go : (n : ℕ) → zeros_of k b + n ≡ k → b < 2 ^ n → ones_of a ≤ k - zeros_of k b
    go n p q = let o = ones-le n a (omega arith) in omega arith
