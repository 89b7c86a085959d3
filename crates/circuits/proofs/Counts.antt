-- Counts: of ones by a tree of sums, of leading zeros as a count of flags; equal; the operators bit by bit; masks. Assumes nothing.
use mathlib.Core.Path.{◌≡◌, refl, sym, ap, ◌∙◌}
use mathlib.Core.Bool.{Bool, true, false, not, ◌&&◌, beq}
use mathlib.Core.List.{List, [], ◌∷◌, ◌++◌}
use Prim.Native.Nat.{ℕ, zero, suc, ◌+◌, ◌-◌, ◌*◌, ◌/◌, ◌%◌, ◌^◌, min, max}
use native.Mathlib.Omega.{arith}
use native.Mathlib.Nat.{pow-suc}
use lib.ListN.{length, length-append}
use lib.Dec.{eqb}
use lib.Bits.{bit_and, bit_or, bit_xor, differ, and_step, or_step, xor_step}
use lib.Count.{ones, ones_step, count_leading_zeros, leading_of_zero}
use borrow.Author.Tests.{eqb-true, eqb-false, eq-eqb, ne_eqb}
use Rattle.operators.specs.Operators.{bit_of}
use Rattle.circuits.specs.Gates.{Literal, pos, flip, literal_true, gate, Function, and2, and3, and_or, and_xor, value_of}
use Rattle.circuits.specs.Circuits.{add, tree, flags, same_bits, pairs, masks}
use Rattle.circuits.specs.Templates.{literals}
use Rattle.circuits.proofs.Gates.{Holds, holds_l, holds_r, flip_true}
use Rattle.circuits.proofs.Sums.{number, double, length_add, add_is}

abbrev pub count_true : {W : Type 0} → (W → Bool) → List (Literal W) → ℕ
count_true σ [] = 0
count_true σ (l ∷ ls) = bit_of (literal_true σ l) + count_true σ ls

number_half : (b : Bool) (n : ℕ) → (bit_of b + 2 * n) / 2 ≡ n
number_half true n = omega arith
number_half false n = omega arith

number_odd : (b : Bool) (n : ℕ) → (bit_of b + 2 * n) % 2 ≡ bit_of b
number_odd true n = omega arith
number_odd false n = omega arith

pub count_ones : {W : Type 0} (σ : W → Bool) (xs : List (Literal W)) → count_true σ xs ≡ ones (number σ xs)
unfolding ones
count_ones σ [] = refl
count_ones σ (x ∷ xs) = sym (ones_step (number σ (x ∷ xs)) ∙ rw (number_half (literal_true σ x) (number σ xs), number_odd (literal_true σ x) (number σ xs), count_ones σ xs))

number_snoc : {W : Type 0} (σ : W → Bool) (xs : List (Literal W)) (c : Literal W) → number σ (xs ++ (c ∷ [])) ≡ number σ xs + 2 ^ length xs * bit_of (literal_true σ c)
number_snoc σ [] c = omega arith
number_snoc σ (x ∷ xs) c = omega (arith, number_snoc σ xs c, double (length xs) (bit_of (literal_true σ c)))

module _ {W : Type 0} (h : ℕ → W) where
  pub length_tree : (z : Literal W) (k d : ℕ) (xs : List (Literal W)) → length (tree h z k d xs).outs ≡ suc d
  unfolding tree
  length_tree z k zero [] = refl
  length_tree z k zero (x ∷ xs) = refl
  length_tree z k (suc d) xs =
      let a = tree h z k d xs in
      let b = tree h z a.next d a.left in
      let s = add h b.next z a.outs b.outs in
      length-append s.outs (s.carry ∷ [])
      ∙ omega (arith, length_add h b.next z a.outs b.outs (length_tree z k d xs ∙ sym (length_tree z a.next d a.left)), length_tree z k d xs)

  pub tree_is : (σ : W → Bool) (z : Literal W) (k d : ℕ) (xs : List (Literal W)) → literal_true σ z ≡ false → Holds σ (tree h z k d xs).gates
      → number σ (tree h z k d xs).outs + count_true σ (tree h z k d xs).left ≡ count_true σ xs
  unfolding tree
  tree_is σ z k zero [] o g = rw o
  tree_is σ z k zero (x ∷ xs) o g = omega arith
  tree_is σ z k (suc d) xs o g =
      let a = tree h z k d xs in
      let b = tree h z a.next d a.left in
      let s = add h b.next z a.outs b.outs in
      let g2 = holds_r σ a.gates (b.gates ++ s.gates) g in
      let se = add_is h σ b.next z a.outs b.outs o (length_tree z k d xs ∙ sym (length_tree z a.next d a.left)) (holds_r σ b.gates s.gates g2) in
      let ls = length_add h b.next z a.outs b.outs (length_tree z k d xs ∙ sym (length_tree z a.next d a.left)) in
      let sn = rw ls at (number_snoc σ s.outs s.carry) in
      omega (arith, se, sn, tree_is σ z k d xs o (holds_l σ a.gates (b.gates ++ s.gates) g), tree_is σ z a.next d a.left o (holds_l σ b.gates s.gates g2))

  tree_left : (z : Literal W) (k d : ℕ) (xs : List (Literal W)) → length (tree h z k d xs).left ≡ length xs - 2 ^ d
  unfolding tree
  tree_left z k zero [] = refl
  tree_left z k zero (x ∷ xs) = omega arith
  tree_left z k (suc d) xs =
      let a = tree h z k d xs in
      omega (arith, tree_left z a.next d a.left, tree_left z k d xs, pow-suc 2 d)

  pub tree_all : (σ : W → Bool) (z : Literal W) (k d : ℕ) (xs : List (Literal W)) → length xs ≡ 2 ^ d → literal_true σ z ≡ false → Holds σ (tree h z k d xs).gates
      → number σ (tree h z k d xs).outs ≡ count_true σ xs
  tree_all σ z k d xs e o g = go (tree h z k d xs).left (omega (arith, tree_left z k d xs)) (tree_is σ z k d xs o g)
    where
      go : (l : List (Literal W)) {n m : ℕ} → length l ≡ 0 → n + count_true σ l ≡ m → n ≡ m
      go [] e p = omega arith
      go (x ∷ l) e p = absurd (omega arith)

  pub length_flags : (t : Literal W) (k : ℕ) (xs : List (Literal W)) → length (flags h t k xs).outs ≡ length xs
  unfolding flags
  length_flags t k [] = refl
  length_flags t k (x ∷ xs) = ap suc (length_flags t k xs)

  pub flags_is : (σ : W → Bool) (t : Literal W) (k : ℕ) (xs : List (Literal W)) → literal_true σ t ≡ true → Holds σ (flags h t k xs).gates
      → (literal_true σ (flags h t k xs).carry ≡ eqb (number σ xs) 0) × (count_true σ (flags h t k xs).outs ≡ count_leading_zeros (length xs) (number σ xs))
  unfolding flags count_leading_zeros
  flags_is σ t k [] o g = (o, refl)
  flags_is σ t k (x ∷ xs) o g =
      let r = flags h t k xs in
      let ih = flags_is σ t k xs o (holds_l σ r.gates (gate and2 (h r.next) r.carry (flip x) (flip x) ∷ []) g) in
      let e = (holds_r σ r.gates (gate and2 (h r.next) r.carry (flip x) (flip x) ∷ []) g).0 in
      step (literal_true σ x) (σ (h r.next)) (literal_true σ r.carry) (number σ xs) (count_true σ r.outs) (length xs) (rw (flip_true σ x) at e) ih.0 ih.1
    where
      test : (x : Bool) (n : ℕ) → (eqb n 0 && not x) ≡ eqb (bit_of x + 2 * n) 0
      test x zero = go x
        where
          go : (x : Bool) → not x ≡ eqb (bit_of x + 2 * 0) 0
          go true = refl
          go false = refl
      test true (suc n) = rw (ne_eqb (suc n) 0 (λ e. omega arith), ne_eqb (1 + 2 * suc n) 0 (λ e. omega arith))
      test false (suc n) = rw (ne_eqb (suc n) 0 (λ e. omega arith), ne_eqb (0 + 2 * suc n) 0 (λ e. omega arith))

      zeros : (w m n : ℕ) (b : Bool) → eqb m 0 ≡ b → n ≡ m / 2 → bit_of b + count_leading_zeros w n ≡ count_leading_zeros (suc w) m
      zeros w zero n true q e = rw (e, leading_of_zero w) (omega arith)
      zeros w zero n false q e = absurd (let y : ◌≡◌ {A = ℕ} 0 1 = cc in omega arith)
      zeros w (suc m) n true q e = absurd (let y = eqb-true (suc m) 0 q in omega arith)
      zeros w (suc m) n false q e = rw e (omega arith)

      step : (x f c : Bool) (n q w : ℕ) → f ≡ (c && not x) → c ≡ eqb n 0 → q ≡ count_leading_zeros w n
          → (f ≡ eqb (bit_of x + 2 * n) 0) × (bit_of f + q ≡ count_leading_zeros (suc w) (bit_of x + 2 * n))
      step x f c n q w e1 e2 e3 =
          let p : f ≡ eqb (bit_of x + 2 * n) 0 = rw (e1, e2) (test x n) in
          (p, rw e3 (zeros w (bit_of x + 2 * n) n f (sym p) (sym (number_half x n))))

  pub same_bits_is : (σ : W → Bool) (k : ℕ) (c : Literal W) (xs ys : List (Literal W)) → length xs ≡ length ys → Holds σ (same_bits h k c xs ys).gates
      → literal_true σ (same_bits h k c xs ys).carry ≡ (literal_true σ c && eqb (number σ xs) (number σ ys))
  unfolding same_bits
  same_bits_is σ k c [] [] e g = go (literal_true σ c)
    where
      go : (b : Bool) → b ≡ (b && true)
      go true = refl
      go false = refl
  same_bits_is σ k c [] (y ∷ ys) e g = absurd (omega arith)
  same_bits_is σ k c (x ∷ xs) [] e g = absurd (omega arith)
  same_bits_is σ k c (x ∷ xs) (y ∷ ys) e g =
      same_bits_is σ (1 + k) (pos (h k)) xs ys (omega arith) g.1 ∙ rw (g.0, flip_true σ y) (go (literal_true σ c) (literal_true σ x) (literal_true σ y) (eqb (number σ xs) (number σ ys)) refl)
    where
      same : (m n : ℕ) (x y b : Bool) → eqb m n ≡ b → not (beq x (not y)) ≡ true → b ≡ eqb (bit_of x + 2 * m) (bit_of y + 2 * n)
      same m n true true true q t = sym (eq-eqb (1 + 2 * m) (1 + 2 * n) (let z = eqb-true m n q in omega arith))
      same m n true true false q t = sym (ne_eqb (1 + 2 * m) (1 + 2 * n) (λ w. eqb-false m n q (omega arith)))
      same m n false false true q t = sym (eq-eqb (0 + 2 * m) (0 + 2 * n) (let z = eqb-true m n q in omega arith))
      same m n false false false q t = sym (ne_eqb (0 + 2 * m) (0 + 2 * n) (λ w. eqb-false m n q (omega arith)))
      same m n true false b q t = absurd (let z : ◌≡◌ {A = ℕ} 0 1 = cc in omega arith)
      same m n false true b q t = absurd (let z : ◌≡◌ {A = ℕ} 0 1 = cc in omega arith)

      differs : (m n : ℕ) (x y : Bool) → not (beq x (not y)) ≡ false → false ≡ eqb (bit_of x + 2 * m) (bit_of y + 2 * n)
      differs m n true false t = sym (ne_eqb (1 + 2 * m) (0 + 2 * n) (λ w. omega arith))
      differs m n false true t = sym (ne_eqb (0 + 2 * m) (1 + 2 * n) (λ w. omega arith))
      differs m n true true t = absurd (let z : ◌≡◌ {A = ℕ} 0 1 = cc in omega arith)
      differs m n false false t = absurd (let z : ◌≡◌ {A = ℕ} 0 1 = cc in omega arith)

      here : (x y b r : Bool) → eqb (number σ xs) (number σ ys) ≡ b → not (beq x (not y)) ≡ r → (r && b) ≡ eqb (bit_of x + 2 * number σ xs) (bit_of y + 2 * number σ ys)
      here x y b true q t = same (number σ xs) (number σ ys) x y b q t
      here x y b false q t = differs (number σ xs) (number σ ys) x y t

      go : (c x y b : Bool) → eqb (number σ xs) (number σ ys) ≡ b → (c && not (beq x (not y)) && b) ≡ (c && eqb (bit_of x + 2 * number σ xs) (bit_of y + 2 * number σ ys))
      go true x y b q = here x y b (not (beq x (not y))) q refl
      go false x y b q = refl

-- ---- the last gates
and_bits : (x y : Bool) → bit_of (value_of and3 true x y) ≡ min (bit_of x) (bit_of y)
and_bits true true = refl
and_bits true false = refl
and_bits false true = refl
and_bits false false = refl

or_bits : (x y : Bool) → bit_of (value_of and_or true x y) ≡ max (bit_of x) (bit_of y)
or_bits true true = refl
or_bits true false = refl
or_bits false true = refl
or_bits false false = refl

xor_bits : (x y : Bool) → bit_of (value_of and_xor true x y) ≡ differ (bit_of x) (bit_of y)
xor_bits true true = refl
xor_bits true false = refl
xor_bits false true = refl
xor_bits false false = refl

module _ {W : Type 0} (h o : ℕ → W) (g : Literal W) (σ : W → Bool) where
  -- any operation on numbers that goes digit by digit
  pairs_is : (f : Function) (op : ℕ → ℕ → ℕ) (dg : ℕ → ℕ → ℕ) → op 0 0 ≡ 0 → ((a b : ℕ) → op a b ≡ op (a / 2) (b / 2) * 2 + dg (a % 2) (b % 2))
      → ((x y : Bool) → bit_of (value_of f true x y) ≡ dg (bit_of x) (bit_of y)) → (s : ℕ) (xs ys : List (Literal W)) (n : ℕ) → literal_true σ g ≡ true
      → length xs ≡ n → length ys ≡ n → Holds σ (pairs h o g f s xs ys) → number σ (literals o s n) ≡ op (number σ xs) (number σ ys)
  unfolding pairs
  pairs_is f op dg z st d s [] [] zero t e i H = sym z
  pairs_is f op dg z st d s [] ys (suc n) t e i H = absurd (omega arith)
  pairs_is f op dg z st d s (x ∷ xs) ys zero t e i H = absurd (omega arith)
  pairs_is f op dg z st d s [] (y ∷ ys) zero t e i H = absurd (omega arith)
  pairs_is f op dg z st d s (x ∷ xs) [] (suc n) t e i H = absurd (omega arith)
  pairs_is f op dg z st d s (x ∷ xs) (y ∷ ys) (suc n) t e i H =
      rw (H.0, t, d (literal_true σ x) (literal_true σ y), pairs_is f op dg z st d (suc s) xs ys n t (omega arith) (omega arith) H.1)
      (sym (st (number σ (x ∷ xs)) (number σ (y ∷ ys))
      ∙ rw (number_half (literal_true σ x) (number σ xs), number_half (literal_true σ y) (number σ ys), number_odd (literal_true σ x) (number σ xs), number_odd (literal_true σ y) (number σ ys)) (omega arith)))

  pub pairs_off : (f : Function) → ((x y : Bool) → value_of f false x y ≡ false) → (s : ℕ) (xs ys : List (Literal W)) (n : ℕ) → literal_true σ g ≡ false
      → length xs ≡ n → length ys ≡ n → Holds σ (pairs h o g f s xs ys) → number σ (literals o s n) ≡ 0
  unfolding pairs
  pairs_off f d s [] [] zero t e i H = refl
  pairs_off f d s [] ys (suc n) t e i H = absurd (omega arith)
  pairs_off f d s (x ∷ xs) ys zero t e i H = absurd (omega arith)
  pairs_off f d s [] (y ∷ ys) zero t e i H = absurd (omega arith)
  pairs_off f d s (x ∷ xs) [] (suc n) t e i H = absurd (omega arith)
  pairs_off f d s (x ∷ xs) (y ∷ ys) (suc n) t e i H =
      rw (H.0, t, d (literal_true σ x) (literal_true σ y), pairs_off f d (suc s) xs ys n t (omega arith) (omega arith) H.1)

  module _ (s : ℕ) (xs ys : List (Literal W)) (n : ℕ) (t : literal_true σ g ≡ true) (e : length xs ≡ n) (i : length ys ≡ n) where
    pub and_is : Holds σ (pairs h o g and3 s xs ys) → number σ (literals o s n) ≡ bit_and (number σ xs) (number σ ys)
    and_is H = pairs_is and3 bit_and min refl and_step and_bits s xs ys n t e i H

    pub or_is : Holds σ (pairs h o g and_or s xs ys) → number σ (literals o s n) ≡ bit_or (number σ xs) (number σ ys)
    or_is H = pairs_is and_or bit_or max refl or_step or_bits s xs ys n t e i H

    pub xor_is : Holds σ (pairs h o g and_xor s xs ys) → number σ (literals o s n) ≡ bit_xor (number σ xs) (number σ ys)
    xor_is H = pairs_is and_xor bit_xor differ refl xor_step xor_bits s xs ys n t e i H

  bit_mask : (a r : Bool) (n : ℕ) → bit_of (a && r) + 2 * (bit_of a * n) ≡ bit_of a * (bit_of r + 2 * n)
  bit_mask true r n = omega arith
  bit_mask false r n = omega arith

  pub masks_is : (s : ℕ) (rs : List (Literal W)) (n : ℕ) → length rs ≡ n → Holds σ (masks h o g s rs) → number σ (literals o s n) ≡ bit_of (literal_true σ g) * number σ rs
  unfolding masks
  masks_is s [] zero e H = omega arith
  masks_is s (r ∷ rs) zero e H = absurd (omega arith)
  masks_is s [] (suc n) e H = absurd (omega arith)
  masks_is s (r ∷ rs) (suc n) e H = rw (H.0, masks_is (suc s) rs n (omega arith) H.1) (bit_mask (literal_true σ g) (literal_true σ r) (number σ rs))
