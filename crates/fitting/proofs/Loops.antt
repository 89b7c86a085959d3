-- Tests over the terms of a table, from term 0 up or from both ends, are the definitions', which go from the newest down. Assumes nothing.
use mathlib.Core.Path.{◌≡◌, refl, ◌∙◌}
use mathlib.Core.Bool.{Bool, true, false, ◌&&◌}
use mathlib.Core.List.{List}
use Prim.Native.Nat.{ℕ, zero, suc, ◌+◌, ◌-◌, ◌≤◌}
use native.Mathlib.Omega.{arith}
use lib.Dec.{leb}
use lib.ListN.{take}
use borrow.Author.Tests.{leb-true, leb-false}
use Rattle.std.specs.List.{list_all, range_with_len}
use Rattle.notation.specs.Notation.{when◌then◌else◌, every}
use Rattle.semantics.specs.Terms.{term_at, terms_in, same_of}
use Rattle.semantics.specs.Fits.{same_terms, no_free}

-- one number more
all_more : (f : ℕ → Bool) (a n : ℕ) → list_all f (range_with_len a (suc n)) ≡ (f (a + n) && list_all f (range_with_len a n))
all_more f a n = go n a
  where
    last : (x y : Bool) → (x && true) ≡ (x && y) → (x && true) ≡ x
    last true y e = refl
    last false y e = refl

    swap : (x y z : Bool) → (x && (y && z)) ≡ (y && (x && z))
    swap true y z = refl
    swap false true z = refl
    swap false false z = refl

    go : (n a : ℕ) → list_all f (range_with_len a (suc n)) ≡ (f (a + n) && list_all f (range_with_len a n))
    go zero a = let e : a + zero ≡ a = omega arith in rw e
    go (suc n) a =
        let e : a + suc n ≡ a + 1 + n = omega arith in
        rw e (rw (go n (a + 1)) (swap (f a) (f (a + 1 + n)) (list_all f (range_with_len (a + 1) n))))

-- n + i with its mirror, over the lower half: m is half of k, rounded up. Of the numbers from n to the count, d at each end
-- are tested already, and k are left.
pub both_ends : (g : ℕ → Bool) (n count d k m : ℕ) → count - (n + (d + d)) ≡ k → k ≤ m + m → m + m ≤ k + 1
    → list_all (λ i. g (n + i) && g (count - 1 - i)) (range_with_len d m) ≡ list_all g (range_with_len (n + d) k)
both_ends g n count d zero m e h l = let z : m ≡ 0 = omega arith in rw z
both_ends g n count d (suc zero) m e h l =
    let z : m ≡ 1 = omega arith in
    let f : count - 1 - d ≡ n + d = omega arith in
    rw (z, f) (twice (g (n + d)))
  where
    twice : (x : Bool) → ((x && x) && true) ≡ (x && true)
    twice true = refl
    twice false = refl
both_ends g n count d (suc (suc k)) zero e h l = absurd (omega arith)
both_ends g n count d (suc (suc k)) (suc m) e h l =
    let f : count - 1 - d ≡ n + d + 1 + k = omega arith in
    let i : n + (d + 1) ≡ n + d + 1 = omega arith in
    rw (f, all_more g (n + d + 1) k, both_ends g n count (d + 1) k m (omega arith) (omega arith) (omega arith), i)
    (group (g (n + d)) (g (n + d + 1 + k)) _)
  where
    group : (x y z : Bool) → ((x && y) && z) ≡ (x && (y && z))
    group true y z = refl
    group false y z = refl

pub all_same : (s y : List ℕ) (n : ℕ) → list_all (λ i. same_of (term_at s i) (term_at y i)) (range_with_len 0 n) ≡ same_terms (terms_in s n) (terms_in y n)
unfolding same_terms terms_in
all_same s y zero = refl
all_same s y (suc n) = all_more (λ i. same_of (term_at s i) (term_at y i)) 0 n ∙ (let e : 0 + n ≡ n = omega arith in rw (e, all_same s y n))

module _ (s : List ℕ) where
  free_from : (a n : ℕ) → list_all (λ i. no_free (term_at s i)) (range_with_len a n) ≡ every no_free (take n (terms_in s (a + n)))
  unfolding every when◌then◌else◌ terms_in
  free_from a zero = refl
  free_from a (suc n) =
      let e : a + suc n ≡ suc (a + n) = omega arith in
      all_more (λ i. no_free (term_at s i)) a n ∙ rw (e, free_from a n) (tested (no_free (term_at s (a + n))) _)
    where
      tested : (x y : Bool) → (x && y) ≡ (when x then y else false)
      tested true y = refl
      tested false y = refl

  pub all_free : (n count : ℕ) → list_all (λ i. no_free (term_at s i)) (range_with_len n (count - n)) ≡ every no_free (take (count - n) (terms_in s count))
  unfolding every
  all_free n count = elim (leb n count) as (λ b. leb n count ≡ b → list_all (λ i. no_free (term_at s i)) (range_with_len n (count - n)) ≡ every no_free (take (count - n) (terms_in s count))) [
    | true ↦ λ h. let e : n + (count - n) ≡ count = omega (arith, leb-true n count h) in rw e at (free_from n (count - n))
    | false ↦ λ h. let e : count - n ≡ 0 = omega (arith, leb-false n count h) in rw e
  ] refl
