-- Whether the bytes of a slice are zero from a place on: each byte of four slices, given that what is left of the test decides it, and a tail in
-- parts. Assumes nothing.
use mathlib.Core.Path.{◌≡◌, refl, sym, ap, ◌∙◌}
use mathlib.Core.Bool.{Bool, true, false, ◌&&◌}
use mathlib.Core.List.{List, [], ◌∷◌}
use Prim.Native.Nat.{ℕ, zero, suc, ◌+◌, ◌-◌, ◌<◌, ◌≤◌}
use native.Mathlib.Numerals.{add-one}
use native.Mathlib.Omega.{arith}
use lib.ListN.{length, get_or, take, drop, length-take, length-drop, drop_of_length-le}
use lib.Seq.{drop-cons, drop-drop, take_all}
use lib.Bits.{bit_or, or_add_and, and_le_l, and_le_r}
use lib.Dec.{eqb}
use Rattle.std.specs.List.{list_all}
use borrow.Author.Tests.{eqb-true, eqb-false, ne_eqb}
use Rattle.notation.specs.Notation.{pick, when◌then◌else◌, every}
use Rattle.semantics.specs.Fits.{is_zero}
use Rattle.zeros.specs.Zeros.{four_zero}

-- the next byte, and those after it
left : (s : List ℕ) (i : ℕ) → i < length s → every is_zero (drop i s) ≡ pick (eqb (get_or s i 0) 0) (every is_zero (drop (i + 1) s)) false
unfolding every is_zero when◌then◌else◌
left s i h = rw (add-one, drop-cons s i 0 h)

-- ---- byte after byte

-- nothing is left past the end
pub past_end : (s : List ℕ) (i : ℕ) → length s ≤ i → true ≡ every is_zero (drop i s)
unfolding every
past_end s i h = rw (drop_of_length-le s h)

-- ---- four slices at once

-- no bit is set in either of two numbers
or_zero : (a b : ℕ) → eqb (bit_or a b) 0 ≡ (eqb a 0 && eqb b 0)
or_zero a b = go (eqb a 0) (eqb b 0) refl refl
  where
    go : (x y : Bool) → eqb a 0 ≡ x → eqb b 0 ≡ y → eqb (bit_or a b) 0 ≡ (x && y)
    go true true p q = rw (eqb-true a 0 p, eqb-true b 0 q)
    go true false p q = ne_eqb _ _ (λ (e : bit_or a b ≡ 0). eqb-false b 0 q (omega (arith, or_add_and a b, and_le_l a b)))
    go false y p q = ne_eqb _ _ (λ (e : bit_or a b ≡ 0). eqb-false a 0 p (omega (arith, or_add_and a b, and_le_r a b)))

module _ (x y z w : List ℕ) (ly : length y ≡ length x) (lz : length z ≡ length x) (lw : length w ≡ length x) {v : Bool} (i seen : ℕ)
    (inv : pick (eqb seen 0) (four_zero (drop i x) (drop i y) (drop i z) (drop i w)) false ≡ v) where
  pub four_end : length x ≤ i → eqb seen 0 ≡ v
  unfolding every
  four_end h =
      let hy : length y ≤ i = omega arith in
      let hz : length z ≤ i = omega arith in
      let hw : length w ≤ i = omega arith in
      go (eqb seen 0) (rw (drop_of_length-le x h, drop_of_length-le y hy, drop_of_length-le z hz, drop_of_length-le w hw) at inv)
    where
      go : (b : Bool) → pick b true false ≡ v → b ≡ v
      go true e = e
      go false e = e

  pub four_next : i < length x → pick (eqb (bit_or seen (bit_or (bit_or (bit_or (get_or x i 0) (get_or y i 0)) (get_or z i 0)) (get_or w i 0))) 0)
      (four_zero (drop (i + 1) x) (drop (i + 1) y) (drop (i + 1) z) (drop (i + 1) w)) false ≡ v
  four_next h =
      simp or_zero
      (go (eqb seen 0) (eqb (get_or x i 0) 0) (eqb (get_or y i 0) 0) (eqb (get_or z i 0) 0) (eqb (get_or w i 0) 0) _ _ _ _
      (rw (left x i h, left y i (omega arith), left z i (omega arith), left w i (omega arith)) at inv))
    where
      go : (s a b c d k l m n : Bool) → pick s (pick a k false && (pick b l false && (pick c m false && pick d n false))) false ≡ v
          → pick (s && (((a && b) && c) && d)) (k && (l && (m && n))) false ≡ v
      go false a b c d k l m n e = e
      go true false b c d k l m n e = e
      go true true false c d true l m n e = e
      go true true false c d false l m n e = e
      go true true true false d true true m n e = e
      go true true true false d true false m n e = e
      go true true true false d false l m n e = e
      go true true true true false true true true n e = e
      go true true true true false true true false n e = e
      go true true true true false true false m n e = e
      go true true true true false false l m n e = e
      go true true true true true k l m n e = e

-- ---- a tail in parts

split : (k : ℕ) (l : List ℕ) → every is_zero l ≡ (every is_zero (take k l) && every is_zero (drop k l))
unfolding every when◌then◌else◌
split zero l = refl
split (suc k) [] = refl
split (suc k) (x ∷ l) = go (is_zero x) (split k l)
  where
    go : (b : Bool) → every is_zero l ≡ (every is_zero (take k l) && every is_zero (drop k l))
        → pick b (every is_zero l) false ≡ (pick b (every is_zero (take k l)) false && every is_zero (drop k l))
    go true e = e
    go false e = refl

-- the part from a to b, and the tail from b
part_zero : (s : List ℕ) (a b : ℕ) → a ≤ b → every is_zero (drop a s) ≡ (every is_zero (take (b - a) (drop a s)) && every is_zero (drop b s))
part_zero s a b h =
    let e : a + (b - a) ≡ b = omega arith in
    split (b - a) (drop a s) ∙ ap (λ (l : List ℕ). every is_zero (take (b - a) (drop a s)) && every is_zero l) (drop-drop (b - a) a s ∙ ap (λ (k : ℕ). drop k s) e)

-- parts of one length
part_long : (s : List ℕ) (a b : ℕ) → a ≤ b → b ≤ length s → length (take (b - a) (drop a s)) ≡ b - a
part_long s a b h k = rw (length-take (b - a) (drop a s), length-drop a s) (omega arith)

pub parts_long : (s : List ℕ) (a b c d : ℕ) → a ≤ b → b ≤ length s → c ≤ d → d ≤ length s → b - a ≡ d - c → length (take (b - a) (drop a s)) ≡ length (take (d - c) (drop c s))
parts_long s a b c d h k l m e = part_long s a b h k ∙ (e ∙ sym (part_long s c d l m))

module _ (s : List ℕ) (from a b c d : ℕ) (ha : from ≤ a) (hb : a ≤ b) (hc : b ≤ c) (hd : c ≤ d) {r : Bool}
    (er : r ≡ four_zero (take (a - from) (drop from s)) (take (b - a) (drop a s)) (take (c - b) (drop b s)) (take (d - c) (drop c s))) where
  whole : every is_zero (drop from s) ≡ (r && every is_zero (drop d s))
  whole =
      rw (part_zero s from a ha, part_zero s a b hb, part_zero s b c hc, part_zero s c d hd, er)
      (go (every is_zero (take (a - from) (drop from s))) (every is_zero (take (b - a) (drop a s))) (every is_zero (take (c - b) (drop b s)))
      (every is_zero (take (d - c) (drop c s))) (every is_zero (drop d s)))
    where
      go : (k l m n t : Bool) → (k && (l && (m && (n && t)))) ≡ ((k && (l && (m && n))) && t)
      go true true true n t = refl
      go true true false n t = refl
      go true false m n t = refl
      go false l m n t = refl

  pub parts_on : r ≡ true → {v : Bool} → v ≡ every is_zero (take (length s - d) (drop d s)) → v ≡ every is_zero (drop from s)
  parts_on h e = rw (whole, h) (e ∙ ap (every is_zero) (take_all (length s - d) (drop d s) (simp length-drop (omega arith))))

  pub parts_miss : r ≡ false → r ≡ every is_zero (drop from s)
  parts_miss h = rw (whole, h)

-- ---- as std says it
pub every_all : (f : ℕ → Bool) (xs : List ℕ) → list_all f xs ≡ every f xs
unfolding every when◌then◌else◌
every_all f [] = refl
every_all f (x ∷ xs) = go (f x) (every_all f xs)
  where
    go : (b : Bool) → list_all f xs ≡ every f xs → (b && list_all f xs) ≡ pick b (every f xs) false
    go true e = e
    go false e = refl
