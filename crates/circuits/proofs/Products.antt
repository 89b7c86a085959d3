-- Products. Assumes nothing.
use mathlib.Core.Path.{◌≡◌, refl, sym, ap, ◌∙◌}
use mathlib.Core.Bool.{Bool, true, false, ◌&&◌}
use mathlib.Core.List.{List, [], ◌∷◌, ◌++◌}
use Prim.Native.Nat.{ℕ, zero, suc, ◌+◌, ◌*◌, ◌^◌}
use native.Mathlib.Omega.{arith}
use native.Mathlib.Nat.{pow-suc}
use lib.ListN.{length}
use Rattle.operators.specs.Operators.{bit_of}
use Rattle.circuits.specs.Gates.{Literal, literal_true, gate, and2, and3}
use Rattle.circuits.specs.Circuits.{low, add, ands, product, sums, products}
use Rattle.circuits.specs.Templates.{literals}
use Rattle.circuits.proofs.Gates.{Holds, holds_l, holds_r}
use Rattle.circuits.proofs.Sums.{number, double, Like, length_add, add_is, sums_is, sums_off}

bit_and : (x y : Bool) → bit_of (x && y) ≡ bit_of x * bit_of y
bit_and true true = refl
bit_and true false = refl
bit_and false true = refl
bit_and false false = refl

abbrev pub top : {A : Type 0} → A → List A → A
top x [] = x
top x (y ∷ ys) = top y ys

pub length_low : {A : Type 0} (x : A) (xs : List A) → length (low (x ∷ xs)) ≡ length xs
length_low x [] = refl
length_low x (y ∷ ys) = ap suc (length_low y ys)

pub number_low : {W : Type 0} (σ : W → Bool) (x : Literal W) (xs : List (Literal W))
    → number σ (low (x ∷ xs)) + 2 ^ length xs * bit_of (literal_true σ (top x xs)) ≡ number σ (x ∷ xs)
number_low σ x [] = omega arith
number_low σ x (y ∷ ys) = omega (arith, number_low σ y ys, double (length ys) (bit_of (literal_true σ (top y ys))))

-- one row: the product by y + 2 * Y from that by Y
row : (n nx ni t Y y p0 pt r s c q : ℕ) → ni + 2 ^ n * t ≡ nx → p0 + 2 * pt ≡ y * nx → r + 2 ^ n * q ≡ ni * Y → s + 2 ^ n * c ≡ pt + r
    → Like (suc n) (p0 + 2 * s) (nx * (y + 2 * Y))
row n nx ni t Y y p0 pt r s c q e1 e2 e3 e4 = (c + q + t * Y, rw (pow-suc 2 n) (go (2 ^ n) e1 e3 e4))
  where
    go : (P : ℕ) → ni + P * t ≡ nx → r + P * q ≡ ni * Y → s + P * c ≡ pt + r → (p0 + 2 * s) + (P * 2) * (c + q + t * Y) ≡ nx * (y + 2 * Y)
    go P e1 e3 e4 = omega (arith, ap (λ z. z * Y) e1, e2, e3, e4)

as_wide : (m n a b : ℕ) → m ≡ n → Like m a b → Like n a b
as_wide m n a b e l = (l.0, rw (sym e) l.1)

module _ {W : Type 0} (h : ℕ → W) where
  length_ands : (k : ℕ) (g : Literal W) (xs : List (Literal W)) → length (ands h k g xs).outs ≡ length xs
  unfolding ands
  length_ands k g [] = refl
  length_ands k g (x ∷ xs) = ap suc (length_ands (1 + k) g xs)

  length_product : (z : Literal W) (k : ℕ) (xs ys : List (Literal W)) → length xs ≡ length ys → length (product h z k xs ys).outs ≡ length ys
  unfolding product
  length_product z k xs [] e = refl
  length_product z k [] (y ∷ ys) e = absurd (omega arith)
  length_product z k (x ∷ xs) (y ∷ ys) e =
      let r = product h z k (low (x ∷ xs)) ys in
      let p = ands h (1 + r.next) y xs in
      ap suc (length_add h p.next z p.outs r.outs
      (omega (arith, length_ands (1 + r.next) y xs, length_product z k (low (x ∷ xs)) ys (omega (arith, length_low x xs))))
      ∙ omega (arith, length_ands (1 + r.next) y xs))

  module _ (σ : W → Bool) where
    ands_is : (k : ℕ) (g : Literal W) (xs : List (Literal W)) → Holds σ (ands h k g xs).gates → number σ (ands h k g xs).outs ≡ bit_of (literal_true σ g) * number σ xs
    unfolding ands
    ands_is k g [] hs = omega arith
    ands_is k g (x ∷ xs) hs = omega (arith, ands_is (1 + k) g xs hs.1, ap bit_of hs.0, bit_and (literal_true σ g) (literal_true σ x))

    product_is : (z : Literal W) (k : ℕ) (xs ys : List (Literal W)) → literal_true σ z ≡ false → length xs ≡ length ys → Holds σ (product h z k xs ys).gates
        → Like (length ys) (number σ (product h z k xs ys).outs) (number σ xs * number σ ys)
    unfolding product
    product_is z k xs [] o e hs = (number σ xs * 0, omega arith)
    product_is z k [] (y ∷ ys) o e hs = absurd (omega arith)
    product_is z k (x ∷ xs) (y ∷ ys) o e hs =
        let r = product h z k (low (x ∷ xs)) ys in
        let p = ands h (1 + r.next) y xs in
        let s = add h p.next z p.outs r.outs in
        let k1 = holds_r σ r.gates (gate and2 (h r.next) y x x ∷ (p.gates ++ s.gates)) hs in
        let ih = product_is z k (low (x ∷ xs)) ys o (omega (arith, length_low x xs)) (holds_l σ r.gates (gate and2 (h r.next) y x x ∷ (p.gates ++ s.gates)) hs) in
        let pe = ands_is (1 + r.next) y xs (holds_l σ p.gates s.gates k1.1) in
        let le : length p.outs ≡ length r.outs = omega (arith, length_ands (1 + r.next) y xs, length_product z k (low (x ∷ xs)) ys (omega (arith, length_low x xs))) in
        let se = add_is h σ p.next z p.outs r.outs o le (holds_r σ p.gates s.gates k1.1) in
        let lp : length p.outs ≡ length ys = omega (arith, length_ands (1 + r.next) y xs) in
        let lx : length xs ≡ length ys = omega arith in
        row (length ys) (number σ (x ∷ xs)) (number σ (low (x ∷ xs))) (bit_of (literal_true σ (top x xs))) (number σ ys) (bit_of (literal_true σ y)) (bit_of (σ (h r.next))) (number σ p.outs) (number σ r.outs) (number σ s.outs) (bit_of (literal_true σ s.carry)) ih.0
        (rw lx at (number_low σ x xs))
        (omega (arith, pe, ap bit_of k1.0, bit_and (literal_true σ y) (literal_true σ x)))
        ih.1
        (rw lp at se)

-- ---- the last row
module _ {W : Type 0} (h o : ℕ → W) (g : Literal W) (σ : W → Bool) where
  pub products_is : (z : Literal W) (s k : ℕ) (xs ys : List (Literal W)) (n : ℕ) → literal_true σ g ≡ true → literal_true σ z ≡ false → length xs ≡ n → length ys ≡ n
      → Holds σ (products h o g z s k xs ys) → Like n (number σ (literals o s n)) (number σ xs * number σ ys)
  unfolding products
  products_is z s k xs [] zero t f e i H = (number σ xs * 0, omega arith)
  products_is z s k xs [] (suc n) t f e i H = absurd (omega arith)
  products_is z s k xs (y ∷ ys) zero t f e i H = absurd (omega arith)
  products_is z s k [] (y ∷ ys) (suc n) t f e i H = absurd (omega arith)
  products_is z s k (x ∷ xs) (y ∷ ys) (suc n) t f e i H =
      let r = product h z k (low (x ∷ xs)) ys in
      let p = ands h r.next y xs in
      let last = sums h o g (suc s) p.next z p.outs r.outs in
      let k1 = holds_r σ r.gates (p.gates ++ (gate and3 (o s) g y x ∷ last)) H in
      let ih = product_is h σ z k (low (x ∷ xs)) ys f (omega (arith, length_low x xs)) (holds_l σ r.gates (p.gates ++ (gate and3 (o s) g y x ∷ last)) H) in
      let pe = ands_is h σ r.next y xs (holds_l σ p.gates (gate and3 (o s) g y x ∷ last) k1) in
      let k2 = holds_r σ p.gates (gate and3 (o s) g y x ∷ last) k1 in
      let lp : length p.outs ≡ n = omega (arith, length_ands h r.next y xs) in
      let lr : length r.outs ≡ n = omega (arith, length_product h z k (low (x ∷ xs)) ys (omega (arith, length_low x xs))) in
      let se = sums_is h o g σ (suc s) p.next z p.outs r.outs n t lp lr k2.1 in
      let b : σ (o s) ≡ (literal_true σ y && literal_true σ x) = rw t at k2.0 in
      let lx : length xs ≡ n = omega arith in
      let iy = as_wide (length ys) n (number σ r.outs) (number σ (low (x ∷ xs)) * number σ ys) (omega arith) ih in
      row n (number σ (x ∷ xs)) (number σ (low (x ∷ xs))) (bit_of (literal_true σ (top x xs))) (number σ ys) (bit_of (literal_true σ y)) (bit_of (σ (o s))) (number σ p.outs) (number σ r.outs) (number σ (literals o (suc s) n)) se.0 iy.0
      (rw lx at (number_low σ x xs))
      (omega (arith, pe, ap bit_of b, bit_and (literal_true σ y) (literal_true σ x)))
      iy.1
      (let u = rw f at se.1 in omega (arith, u))

  pub products_off : (z : Literal W) (s k : ℕ) (xs ys : List (Literal W)) (n : ℕ) → literal_true σ g ≡ false → length xs ≡ n → length ys ≡ n
      → Holds σ (products h o g z s k xs ys) → number σ (literals o s n) ≡ 0
  unfolding products
  products_off z s k xs [] zero t e i H = refl
  products_off z s k xs [] (suc n) t e i H = absurd (omega arith)
  products_off z s k xs (y ∷ ys) zero t e i H = absurd (omega arith)
  products_off z s k [] (y ∷ ys) (suc n) t e i H = absurd (omega arith)
  products_off z s k (x ∷ xs) (y ∷ ys) (suc n) t e i H =
      let r = product h z k (low (x ∷ xs)) ys in
      let p = ands h r.next y xs in
      let last = sums h o g (suc s) p.next z p.outs r.outs in
      let k1 = holds_r σ r.gates (p.gates ++ (gate and3 (o s) g y x ∷ last)) H in
      let k2 = holds_r σ p.gates (gate and3 (o s) g y x ∷ last) k1 in
      let lp : length p.outs ≡ n = omega (arith, length_ands h r.next y xs) in
      let lr : length r.outs ≡ n = omega (arith, length_product h z k (low (x ∷ xs)) ys (omega (arith, length_low x xs))) in
      let b : σ (o s) ≡ false = rw t at k2.0 in
      rw (b, sums_off h o g σ (suc s) p.next z p.outs r.outs n t lp lr k2.1)
