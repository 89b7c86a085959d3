-- Bytes wiped one after another. Assumes nothing.
use mathlib.Core.Path.{◌≡◌}
use mathlib.Core.List.{List, append-nil}
use Prim.Native.Nat.{ℕ, zero, suc, ◌+◌, ◌-◌, ◌<◌, ◌≤◌}
use native.Mathlib.Nat.{sub-zero}
use native.Mathlib.Numerals.{add-one}
use native.Mathlib.Omega.{arith}
use lib.ListN.{length, set, replicate, length-set}
use lib.Seq.{take_all, take-suc-set, append_snoc}
use Rattle.slices.specs.Wiped.{wiped}

module _ (s : List ℕ) (k : ℕ) where
  pub wiped_done : length s ≤ k → wiped s k ≡ s
  unfolding wiped
  wiped_done h = let e : length s - k ≡ zero = omega arith in simp (e, take_all k s h, append-nil)

  pub wiped_more : k < length s → wiped (set s k 0) (k + 1) ≡ wiped s k
  unfolding wiped
  wiped_more h =
      let e : length s - k ≡ suc (length s - suc k) = omega arith in
      simp (length-set, add-one, take-suc-set s k 0 h, append_snoc, e)

-- wiped from the first byte on
pub wiped_all : (s : List ℕ) → wiped s 0 ≡ replicate (length s) 0
unfolding wiped
wiped_all s = rw (sub-zero (length s))
