-- A number in base ten is digits, and its value is the number. Assumes nothing.
use mathlib.Core.Path.{◌≡◌, refl, sym, ap, ◌∙◌, subst}
use mathlib.Core.Bool.{Bool, true, false}
use mathlib.Core.List.{List, [], ◌∷◌, ◌++◌}
use mathlib.Core.Option.{some}
use Prim.Native.Nat.{ℕ, zero, suc, ◌+◌, ◌-◌, ◌*◌, ◌/◌, ◌%◌, ◌<◌, ◌≤◌}
use native.Mathlib.Omega.{arith}
use lib.Dec.{ltb}
use borrow.Author.Tests.{ltb-true, ltb-false, le-leb, ne_eqb}
use Rattle.notation.specs.Notation.{when◌then◌else◌, if◌equals◌then◌else◌}
use Rattle.text.specs.Text.{digit, decimal_of}
use Rattle.text.proofs.Decimals.{decimal_one, decimal_more}
use Rattle.circuits.specs.Gates.{pos, neg}
use Rattle.dimacs.specs.Text.{minus}
use Rattle.grammar.specs.Dimacs.{all_digits, value_from, natural, positive, negative, integer}

-- ---- bytes that are digits
abbrev pub Digits : List ℕ → Type 0
Digits [] = Unit {0}
Digits (b ∷ s) = (48 ≤ b) × (b ≤ 57) × Digits s

digits_append : (s t : List ℕ) → Digits s → Digits t → Digits (s ++ t)
digits_append [] t h k = k
digits_append (b ∷ s) t h k = (h.0, h.1, digits_append s t h.2 k)

are_digits : (s : List ℕ) → Digits s → all_digits s ≡ true
unfolding all_digits
are_digits [] h = refl
are_digits (b ∷ s) h = rw (le-leb 48 b h.0, le-leb b 57 h.1, are_digits s h.2)

value_append : (n : ℕ) (s : List ℕ) (b : ℕ) → value_from n (s ++ (b ∷ [])) ≡ 10 * value_from n s + (b - 48)
unfolding value_from
value_append n [] b = refl
value_append n (c ∷ s) b = value_append (10 * n + (c - 48)) s b

-- some bytes, the first of which is a digit
pub record Decimal (n : ℕ) (s : List ℕ) : Type 0 where
  pub digits : Digits s
  pub value : value_from 0 s ≡ n
  pub first : ℕ
  pub rest : List ℕ
  pub is : s ≡ first ∷ rest

one_digit : (n : ℕ) → n < 10 → Decimal n (digit n ∷ [])
unfolding value_from
one_digit n h = record { digits = (omega arith, omega arith, tt); value = omega arith; first = digit n; rest = []; is = refl }

more_digits : (n : ℕ) (s : List ℕ) → Decimal (n / 10) s → Decimal n (s ++ (digit (n % 10) ∷ []))
more_digits n s d =
    record {
      digits = digits_append s (digit (n % 10) ∷ []) d.digits (omega arith, omega arith, tt);
      value = value_append 0 s (digit (n % 10)) ∙ rw d.value (omega arith);
      first = d.first;
      rest = d.rest ++ (digit (n % 10) ∷ []);
      is = ap (λ t. t ++ (digit (n % 10) ∷ [])) d.is;
    }

-- with as many steps as n
within : (k n : ℕ) → n ≤ k → Decimal n (decimal_of n)
within zero n h = subst (Decimal n) (decimal_one n (omega arith)) (one_digit n (omega arith))
within (suc k) n h = go (ltb n 10) refl (within k (n / 10))
  where
    go : (b : Bool) → ltb n 10 ≡ b → (n / 10 ≤ k → Decimal (n / 10) (decimal_of (n / 10))) → Decimal n (decimal_of n)
    go true e r = let l : n < 10 = ltb-true n 10 e in subst (Decimal n) (decimal_one n l) (one_digit n l)
    go false e r = let l : 10 ≤ n = omega (arith, ltb-false n 10 e) in subst (Decimal n) (decimal_more n l) (more_digits n (decimal_of (n / 10)) (r (omega arith)))

pub decimal : (n : ℕ) → Decimal n (decimal_of n)
decimal n = within n n (omega arith)

-- ---- read
natural_from : (b : ℕ) (s : List ℕ) → Digits (b ∷ s) → natural (b ∷ s) ≡ some (value_from 0 (b ∷ s))
unfolding natural when◌then◌else◌
natural_from b s h = rw (are_digits (b ∷ s) h)

pub natural_is : (n : ℕ) → natural (decimal_of n) ≡ some n
natural_is n =
    let d = decimal n in
    let e = d.is in
    let h : Digits (d.first ∷ d.rest) = subst Digits e d.digits in
    let v : value_from 0 (d.first ∷ d.rest) ≡ n = subst (λ s. value_from 0 s ≡ n) e d.value in
    ap natural e ∙ (natural_from d.first d.rest h ∙ ap some v)

no_minus : (b : ℕ) (s : List ℕ) → Digits (b ∷ s) → integer (b ∷ s) ≡ positive (natural (b ∷ s))
unfolding integer if◌equals◌then◌else◌
no_minus b s h = let l = h.0 in rw (ne_eqb b 45 (λ e. omega arith))

pub positive_is : (n : ℕ) → integer (decimal_of n) ≡ some (pos n)
positive_is n =
    let d = decimal n in
    let e = d.is in
    let h : Digits (d.first ∷ d.rest) = subst Digits e d.digits in
    ap integer e ∙ (no_minus d.first d.rest h ∙ (ap (λ s. positive (natural s)) (sym e) ∙ ap positive (natural_is n)))

pub negative_is : (n : ℕ) → integer (minus ∷ decimal_of n) ≡ some (neg n)
unfolding integer if◌equals◌then◌else◌
negative_is n = ap negative (natural_is n)
