-- Laws of words: a word in its fields; for every width k, what the operators give is a word, and how they wrap. Assumes nothing.
use Rattle.std.proofs.Common.{◌≡◌, ℕ, zero, suc, ◌+◌, ◌-◌, ◌*◌, ◌%◌, ◌^◌, ◌<◌, ◌≤◌, ap, ◌∙◌, lt_of_le_of_lt, le_of_lt, mod-lt, mod-eq_of_lt, mul_comm, add_comm, mul-le-mul_left, mul-lt-mul_of_pos_right, arith, pow_pos, pow-add}
use mathlib.Core.Path.{subst⁻¹}
use native.Mathlib.Nat.{mod_self, zero-mod, mod-add-mod, add-mod_right}
use lib.Bits.{and_zero_l, and_zero_r}
use lib.Count.{ones-le, leading_of_zero, leading_le}
use lib.Pow.{pow-lt}
use Rattle.words.specs.Words.{word_limit, word_fields, low_of, high_of, join_of, sum_of, difference_of, product_of, and_of, ones_of, zeros_of}

-- A word comes back from its fields.
pub join_halves : (w : ℕ) → join_of (low_of w) (high_of w) ≡ w
unfolding low_of high_of join_of
join_halves w = omega arith

-- A word that takes one field has nothing of the second.
pub one_field : (l h k : ℕ) → word_fields ≤ 1 → join_of l h ≡ join_of l k
unfolding join_of
one_field l h k p = omega arith

-- What two fields hold is a word.
pub join_word : {l h : ℕ} → l < 2 ^ 16 → h < 2 ^ 16 → join_of l h < word_limit
unfolding join_of
join_word a b = omega arith

-- 0 and any word, and any word and 0, bit by bit.
pub zero_and : (b : ℕ) → and_of 0 b ≡ 0
zero_and = and_zero_l

pub and_zero : (a : ℕ) → and_of a 0 ≡ 0
and_zero = and_zero_r

-- The width of words is a word.
width_word : (k : ℕ) → k < 2 ^ k
width_word zero = pow_pos zero
width_word (suc k) =
    let h = width_word k in
    let l : 2 ^ k < 2 ^ suc k = pow-lt {i = k} {j = suc k} (omega arith) in lt_of_le_of_lt h l

module _ (k : ℕ) where
  -- what is taken modulo 2 ^ k is a word
  pub wrapped : (n : ℕ) → n % 2 ^ k < 2 ^ k
  wrapped n = mod-lt n (pow_pos k)

  -- The whole product of two words has at most twice the width.
  pub product_fits : {a b : ℕ} → a < 2 ^ k → b < 2 ^ k → a * b < 2 ^ (k + k)
  product_fits {a} {b} ha hb =
      subst⁻¹ (λ (n : ℕ). a * b < n) (pow-add 2 k k)
      (lt_of_le_of_lt (mul-le-mul_left a (le_of_lt hb)) (mul-lt-mul_of_pos_right ha (pow_pos k)))

  -- The counts of a word's ones and leading zeros are words.
  pub ones_word : {a : ℕ} → a < 2 ^ k → ones_of a < 2 ^ k
  ones_word {a} h = lt_of_le_of_lt (ones-le k a h) (width_word k)

  pub zeros_word : (a : ℕ) → zeros_of k a < 2 ^ k
  zeros_word a = lt_of_le_of_lt (leading_le k a) (width_word k)

  pub sum_comm : (a b : ℕ) → sum_of k a b ≡ sum_of k b a
  sum_comm a b = ap (λ (n : ℕ). n % 2 ^ k) (add_comm a b)

  pub product_comm : (a b : ℕ) → product_of k a b ≡ product_of k b a
  product_comm a b = ap (λ (n : ℕ). n % 2 ^ k) (mul_comm a b)

  -- 0 times any word, and any word times 0.
  pub zero_product : (b : ℕ) → product_of k 0 b ≡ 0
  zero_product b = let e : 0 * b ≡ 0 = omega arith in ap (λ (n : ℕ). n % 2 ^ k) e ∙ zero-mod (2 ^ k)

  pub product_zero : (a : ℕ) → product_of k a 0 ≡ 0
  product_zero a = product_comm a 0 ∙ zero_product a

  -- A sum and a difference that do not wrap are those of numbers.
  pub sum_exact : (a b : ℕ) → a + b < 2 ^ k → sum_of k a b ≡ a + b
  sum_exact a b h = mod-eq_of_lt h

  pub difference_exact : (a b : ℕ) → b ≤ a → a < 2 ^ k → difference_of k a b ≡ a - b
  difference_exact a b l h =
      let e : a + (2 ^ k - b) ≡ a - b + 2 ^ k = omega arith in
      let w : a - b < 2 ^ k = omega arith in
      ap (λ (n : ℕ). n % 2 ^ k) e ∙ (add-mod_right (a - b) (2 ^ k) ∙ mod-eq_of_lt w)

  -- Adding undoes subtracting.
  pub difference_sum : (a b : ℕ) → a < 2 ^ k → b < 2 ^ k → sum_of k (difference_of k a b) b ≡ a
  difference_sum a b ha hb =
      let e : a + (2 ^ k - b) + b ≡ a + 2 ^ k = omega arith in
      mod-add-mod (a + (2 ^ k - b)) (2 ^ k) b ∙ (ap (λ (n : ℕ). n % 2 ^ k) e ∙ (add-mod_right a (2 ^ k) ∙ mod-eq_of_lt ha))

  -- The last word and one more is 0.
  pub last_wraps : sum_of k (2 ^ k - 1) 1 ≡ 0
  last_wraps =
      let h = pow_pos k in
      let e : 2 ^ k - 1 + 1 ≡ 2 ^ k = omega arith in
      ap (λ (n : ℕ). n % 2 ^ k) e ∙ mod_self (2 ^ k)

  -- 0 has as many leading zeros as a word has bits.
  pub zeros_of_zero : zeros_of k 0 ≡ k
  zeros_of_zero = leading_of_zero k
