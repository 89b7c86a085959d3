-- A test of every number of a range, from its start on, is the test of every number below its end. Assumes nothing.
use mathlib.Core.Path.{◌≡◌, refl}
use mathlib.Core.Bool.{Bool, true, false, ◌&&◌}
use Prim.Native.Nat.{ℕ, zero, suc, ◌+◌}
use native.Mathlib.Numerals.{add-one}
use native.Mathlib.Omega.{arith}
use Rattle.std.specs.List.{list_all, range_with_len}
use Rattle.notation.specs.Notation.{pick, when◌then◌else◌, up_to}

module _ (f : ℕ → Bool) where
  -- what is tested before a, and from a on
  from : (a n : ℕ) → (up_to a f && list_all f (range_with_len a n)) ≡ up_to (a + n) f
  unfolding up_to when◌then◌else◌
  from a zero = let e : a + zero ≡ a = omega arith in rw e (go (up_to a f))
    where
      go : (b : Bool) → (b && true) ≡ b
      go true = refl
      go false = refl
  from a (suc n) =
      let e : a + suc n ≡ (a + 1) + n = omega arith in
      rw (e, ← from (a + 1) n, add-one) (go (up_to a f) (f a) (list_all f (range_with_len (suc a) n)))
    where
      go : (b c d : Bool) → (b && (c && d)) ≡ (pick b c false && d)
      go true c d = refl
      go false c d = refl

  pub below : (n : ℕ) → list_all f (range_with_len 0 n) ≡ up_to n f
  unfolding up_to
  below n = let e : 0 + n ≡ n = omega arith in rw e at (from 0 n)
