-- Numbers in base ten: digit by digit, and how many; the digits that `io::decimal` gives are the number in base ten, and at most five for a u16.
-- Assumes nothing.
use mathlib.Core.Path.{◌≡◌, refl, sym, ap, ◌∙◌}
use mathlib.Core.List.{List, [], ◌∷◌, ◌++◌, append_assoc}
use Prim.Native.Nat.{ℕ, zero, suc, ◌+◌, ◌-◌, ◌*◌, ◌/◌, ◌%◌, ◌^◌, ◌<◌, ◌≤◌}
use native.Mathlib.Nat.{pow-suc, one-le-pow, pow-le-pow_right}
use native.Mathlib.Numerals.{add-one}
use native.Mathlib.Omega.{arith}
use mathlib.Core.Bool.{Bool, true, false}
use lib.Dec.{leb, ltb}
use lib.ListN.{length, take, set, length-append}
use lib.Seq.{take-suc-set}
use borrow.Author.Tests.{lt-ltb, le-ltb, ltb-true, ltb-false, leb-true, leb-false}
use Rattle.notation.specs.Notation.{with, if◌below◌then◌else◌}
use Rattle.io.specs.Digits.{hex_digit_ascii, last_digits, IsDigitCount}
use Rattle.io.specs.Counts.{IsPrefixLen}
use Rattle.text.specs.Appends.{number_bytes, Spells, Appends}
use Rattle.text.specs.Text.{digit, decimal_within, decimal_of}

glyph_digit : (d : ℕ) → d < 10 → hex_digit_ascii d ≡ digit d
glyph_digit d h = rw (lt-ltb _ _ h)

one_digit : (k n : ℕ) → n < 10 → digit n ∷ [] ≡ decimal_within k n
unfolding decimal_within with if◌below◌then◌else◌
one_digit zero n h = refl
one_digit (suc k) n h = rw (lt-ltb _ _ h)

more_digits : (k n : ℕ) → 10 ≤ n → decimal_within k (n / 10) ++ (digit (n % 10) ∷ []) ≡ decimal_within (suc k) n
unfolding decimal_within with if◌below◌then◌else◌
more_digits k n h = rw (le-ltb _ _ h)

-- as many digits as n are enough, and more are as good
enough : (k j n : ℕ) → n ≤ k → n ≤ j → decimal_within k n ≡ decimal_within j n
enough zero zero n p q = refl
enough zero (suc j) n p q = sym (one_digit zero n (omega arith)) ∙ one_digit (suc j) n (omega arith)
enough (suc k) zero n p q = sym (one_digit (suc k) n (omega arith)) ∙ one_digit zero n (omega arith)
enough (suc k) (suc j) n p q = last (ltb n 10) refl (λ h. enough k j (n / 10) (omega arith) (omega arith))
  where
    last : (b : Bool) → ltb n 10 ≡ b → (10 ≤ n → decimal_within k (n / 10) ≡ decimal_within j (n / 10)) → decimal_within (suc k) n ≡ decimal_within (suc j) n
    last true e r = let h : n < 10 = ltb-true n 10 e in sym (one_digit (suc k) n h) ∙ one_digit (suc j) n h
    last false e r =
        let h : 10 ≤ n = omega (arith, ltb-false n 10 e) in
        sym (more_digits k n h) ∙ (ap (λ t. t ++ (digit (n % 10) ∷ [])) (r h) ∙ more_digits j n h)

-- ---- a number below ten is its digit; another one is its higher digits, and the lowest
pub decimal_one : (n : ℕ) → n < 10 → digit n ∷ [] ≡ decimal_of n
unfolding decimal_of
decimal_one n h = one_digit n n h

pub decimal_more : (n : ℕ) → 10 ≤ n → decimal_of (n / 10) ++ (digit (n % 10) ∷ []) ≡ decimal_of n
unfolding decimal_of
decimal_more n h = go n h refl
  where
    go : (m : ℕ) → 10 ≤ m → m ≡ n → decimal_within (n / 10) (n / 10) ++ (digit (n % 10) ∷ []) ≡ decimal_within n n
    go zero h e = absurd (omega arith)
    go (suc m) h e =
        ap (λ t. t ++ (digit (n % 10) ∷ [])) (enough (n / 10) m (n / 10) (omega arith) (omega arith)) ∙ (more_digits m n (omega arith) ∙ ap (λ k. decimal_within k n) e)

-- a number below 10 ^ k has at most k digits
pub decimal_short : (k n : ℕ) → n < 10 ^ suc k → length (decimal_of n) ≤ suc k
decimal_short zero n h = rw (sym (decimal_one n (omega arith))) (omega arith)
decimal_short (suc k) n h = go (ltb n 10) refl (decimal_short k (n / 10) (omega (arith, pow-suc 10 (suc k))))
  where
    go : (b : Bool) → ltb n 10 ≡ b → length (decimal_of (n / 10)) ≤ suc k → length (decimal_of n) ≤ suc (suc k)
    go true e l = rw (sym (decimal_one n (ltb-true n 10 e))) (omega arith)
    go false e l =
        rw (sym (decimal_more n (omega (arith, ltb-false n 10 e)))) (omega (arith, length-append (decimal_of (n / 10)) (digit (n % 10) ∷ [])))

-- ---- what `io::decimal` gives
tens : (n j : ℕ) → IsDigitCount 10 1 n (suc (suc j)) → 10 ^ suc j ≤ n
tens n j f = let e : suc (suc j) - 1 ≡ suc j = omega arith in rw e at (f.2 (omega arith))

digits_within : (k n r : ℕ) → n ≤ k → IsDigitCount 10 1 n r → last_digits 10 r n ≡ decimal_within k n
digits_within k n zero h f = absurd (omega (arith, f.0))
digits_within k n (suc zero) h f =
    let l : n < 10 = f.1 in
    let e : n % 10 ≡ n = omega arith in
    rw (e, glyph_digit n l) (one_digit k n l)
digits_within zero n (suc (suc j)) h f = absurd (omega (arith, tens n j f, one-le-pow (suc j) 10 (omega arith)))
digits_within (suc k) n (suc (suc j)) h f =
    let p : 10 ^ suc j ≡ 10 ^ j * 10 = pow-suc 10 j in
    let q : 10 ^ suc (suc j) ≡ 10 ^ suc j * 10 = pow-suc 10 (suc j) in
    let i = tens n j f in
    let o : 1 ≤ 10 ^ j = one-le-pow j 10 (omega arith) in
    let l : n % 10 < 10 = omega arith in
    let u : suc j - 1 ≡ j = omega arith in
    rw (glyph_digit (n % 10) l, digits_within k (n / 10) (suc j) (omega arith) (omega arith, omega (arith, f.1), λ m. rw u (omega arith))) (more_digits k n (omega arith))

pub few_digits : (n r : ℕ) → n < 65536 → IsDigitCount 10 1 n r → r ≤ 5
few_digits n r h f = go (leb r 5) refl
  where
    go : (b : Bool) → leb r 5 ≡ b → r ≤ 5
    go true e = leb-true r 5 e
    go false e =
        let l : 5 < r = leb-false r 5 e in
        let m : 5 ≤ r - 1 = omega arith in
        let p : 10 ^ 5 ≤ 10 ^ (r - 1) = pow-le-pow_right {n = 10} (omega arith) m in
        absurd (omega (arith, f.2 (omega arith)))

pub digits_are : (n r : ℕ) → IsDigitCount 10 1 n r → last_digits 10 r n ≡ decimal_of n
unfolding decimal_of
digits_are n r f = digits_within n n r (omega arith) f

pub spelled : {n : ℕ} {text : List ℕ} {r : ℕ} → n < 65536 → IsPrefixLen r text → IsDigitCount 10 1 n r → take r text ≡ last_digits 10 r n → Spells n text r
spelled {n} {text} {r} h c f d = record { counts = c; few = few_digits n r h f; is = d ∙ digits_are n r f }

-- the digits, and a byte after them
pub number_added : {n : ℕ} {text : List ℕ} {r : ℕ} → Spells n text r → {s : List ℕ} {at : ℕ} {y : List ℕ} {e : ℕ} → Appends (length (take r text)) (take r text) s at y e → e < length y → (a : ℕ)
    → Appends number_bytes (decimal_of n ++ (a ∷ [])) s at (set y e a) (e + 1)
number_added {n} {text} {r} d {s} {at} {y} {e} p l a =
    let c = d.counts in
    let k = d.few in
    let v = p.low in
    let w = p.high in
    record { is = rw (add-one, take-suc-set y e a l, p.is, d.is, append_assoc); low = omega arith; high = omega arith }
