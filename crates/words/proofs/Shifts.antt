-- Shifts as document 02, Five, has them, of words of any width k: zero once the amount reaches the width, below it what document 01 has;
-- both together are SMT-LIB's bvshl and bvlshr. Assumes nothing.
use Rattle.std.proofs.Common.{◌≡◌, ℕ, ◌+◌, ◌-◌, ◌*◌, ◌/◌, ◌%◌, ◌^◌, ◌<◌, ◌≤◌, Bool, true, false, ltb, sym, refl, ap, ◌∙◌, lt_of_lt_of_le, lt_of_le_of_lt, mod-eq_of_lt, mul_assoc, mul_comm, add-mul, add-sub_of_le, div-add-mod', pow_mono, pow-add, shr-shr, ltb-false, ltb-true}
use mathlib.Core.Path.{subst⁻¹}
use native.Mathlib.Nat.{div-eq_of_lt, mul-mod_left, mul-add-mod_self_right}
use lib.Pow.{shr_le}
use Rattle.notation.specs.Notation.{if◌below◌then◌else◌}
use Rattle.notation.proofs.Follow.{values}
use Rattle.words.specs.Words.{sum_of, left_of, right_of}
use Rattle.words.proofs.Words.{wrapped, sum_exact}

-- ---- numbers

-- shifted by the width or more, nothing is left
gone_left : (k a b : ℕ) → k ≤ b → (a * 2 ^ b) % 2 ^ k ≡ 0
gone_left k a b h = ap (λ (n : ℕ). n % 2 ^ k) whole ∙ mul-mod_left (a * 2 ^ (b - k)) (2 ^ k)
  where
    whole : a * 2 ^ b ≡ a * 2 ^ (b - k) * 2 ^ k
    whole =
        ap (λ (n : ℕ). a * 2 ^ n) (sym (add-sub_of_le h))
        ∙ (ap (λ (n : ℕ). a * n) (pow-add 2 k (b - k) ∙ mul_comm (2 ^ k) (2 ^ (b - k))) ∙ sym (mul_assoc a (2 ^ (b - k)) (2 ^ k)))

gone_right : (k a b : ℕ) → k ≤ b → a < 2 ^ k → a / 2 ^ b ≡ 0
gone_right k a b h w = div-eq_of_lt (lt_of_lt_of_le w (pow_mono h))

-- a factor may be wrapped before the product is
mod_times : (n m c : ℕ) → (n % m * c) % m ≡ (n * c) % m
mod_times n m c = sym (ap (λ (x : ℕ). x % m) split ∙ mul-add-mod_self_right (n / m * c) m (n % m * c))
  where
    turned : (q : ℕ) → q * m * c ≡ q * c * m
    turned q = mul_assoc q m c ∙ (ap (λ (x : ℕ). q * x) (mul_comm m c) ∙ sym (mul_assoc q c m))

    split : n * c ≡ n / m * c * m + n % m * c
    split =
        ap (λ (x : ℕ). x * c) (sym (div-add-mod' n m))
        ∙ (add-mul (n / m * m) (n % m) c ∙ ap (λ (x : ℕ). x + n % m * c) (turned (n / m)))

-- what is 0 from the width on needs no test of the amount
untested : (k b n : ℕ) → (k ≤ b → n ≡ 0) → (if b below k then n else 0) ≡ n
untested k b n z = go (ltb b k) refl
  where
    go : (t : Bool) → ltb b k ≡ t → (if b below k then n else 0) ≡ n
    go true e = let h = ltb-true b k e in sym (search values)
    go false e = let h = ltb-false b k e in let g = z h in sym (search values)

-- ---- shifts
module _ (k a b : ℕ) where
  -- "give zero once the amount reaches the width"
  pub left_past : k ≤ b → left_of k a b ≡ 0
  left_past h = sym (search values)

  pub right_past : k ≤ b → right_of k a b ≡ 0
  right_past h = sym (search values)

  -- below the width nothing changes: it is the shift of document 01, "the amount is taken modulo 16"
  pub left_below : b < k → left_of k a b ≡ (a * 2 ^ (b % k)) % 2 ^ k
  left_below h = rw (mod-eq_of_lt h) (sym (search values))

  pub right_below : b < k → right_of k a b ≡ a / 2 ^ (b % k)
  right_below h = rw (mod-eq_of_lt h) (sym (search values))

  -- bvshl: the k low bits of a * 2 ^ b
  pub left_solvers : left_of k a b ≡ (a * 2 ^ b) % 2 ^ k
  left_solvers = untested k b ((a * 2 ^ b) % 2 ^ k) (gone_left k a b)

  -- of a word it is a / 2 ^ b
  right_whole : a < 2 ^ k → right_of k a b ≡ a / 2 ^ b
  right_whole w = untested k b (a / 2 ^ b) (λ h. gone_right k a b h w)

  -- what a shift gives is a word
  pub left_word : left_of k a b < 2 ^ k
  left_word = subst⁻¹ (λ (n : ℕ). n < 2 ^ k) left_solvers (wrapped k (a * 2 ^ b))

  pub right_word : a < 2 ^ k → right_of k a b < 2 ^ k
  right_word w = subst⁻¹ (λ (n : ℕ). n < 2 ^ k) (right_whole w) (lt_of_le_of_lt (shr_le a b) w)

  -- bvlshr: the k low bits of a / 2 ^ b
  pub right_solvers : a < 2 ^ k → right_of k a b ≡ (a / 2 ^ b) % 2 ^ k
  right_solvers w = right_whole w ∙ sym (mod-eq_of_lt (lt_of_le_of_lt (shr_le a b) w))

-- Shifting by a, then by b, is shifting by their sum, where that does not wrap.
module _ (k x a b : ℕ) (h : a + b < 2 ^ k) where
  pub left_twice : left_of k (left_of k x a) b ≡ left_of k x (sum_of k a b)
  left_twice =
      left_solvers k (left_of k x a) b
      ∙ (ap (λ (n : ℕ). (n * 2 ^ b) % 2 ^ k) (left_solvers k x a)
      ∙ (mod_times (x * 2 ^ a) (2 ^ k) (2 ^ b)
      ∙ (ap (λ (n : ℕ). n % 2 ^ k) (mul_assoc x (2 ^ a) (2 ^ b) ∙ ap (λ (n : ℕ). x * n) (sym (pow-add 2 a b)))
      ∙ sym (ap (left_of k x) (sum_exact k a b h) ∙ left_solvers k x (a + b)))))

  pub right_twice : x < 2 ^ k → right_of k (right_of k x a) b ≡ right_of k x (sum_of k a b)
  right_twice w =
      right_whole k (right_of k x a) b (right_word k x a w)
      ∙ (ap (λ (n : ℕ). n / 2 ^ b) (right_whole k x a w)
      ∙ (shr-shr x a b ∙ sym (ap (right_of k x) (sum_exact k a b h) ∙ right_whole k x (a + b) w)))
