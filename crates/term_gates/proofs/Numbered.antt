-- The gates of constants, free inputs and choices, by number. Assumes nothing.
use mathlib.Core.Path.{◌≡◌, refl, sym, ap, ◌∙◌}
use mathlib.Core.Bool.{Bool, true, false}
use mathlib.Core.List.{[], map}
use Prim.Native.Nat.{ℕ, zero, suc, ◌+◌, ◌-◌, ◌*◌, ◌/◌, ◌%◌, ◌^◌, ◌<◌, ◌≤◌}
use native.Mathlib.Omega.{arith}
use native.Mathlib.Nat.{pow-suc, div-one, div-div-eq-div-mul}
use native.Mathlib.Numerals.{add-one}
use lib.ListN.{get_or, get_or-eq_default}
use lib.Dec.{eqb}
use borrow.Author.Tests.{eqb-true, eqb-false}
use Rattle.words.specs.Words.{width}
use Rattle.operators.specs.Operators.{bit_of}
use Rattle.circuits.specs.Gates.{pos, choose, gate}
use Rattle.circuits.specs.Templates.{wire_a, wire_b, wire_c, own, kinds}
use Rattle.clauses.specs.Clauses.{owned, odd, digits, choices}
use Rattle.gate_tables.specs.Packed.{packed}

odd_bit : (w : ℕ) → bit_of (odd w) ≡ w % 2
odd_bit w = go (eqb (w % 2) 1) refl
  where
    go : (b : Bool) → eqb (w % 2) 1 ≡ b → bit_of b ≡ w % 2
    go true e = sym (eqb-true (w % 2) 1 e)
    go false e = let q = eqb-false (w % 2) 1 e in let r : ¬ (w % 2 ≡ 1) = q in omega arith

digit_at : (s n w j : ℕ) → j < n → get_or (map packed (digits s n w)) j 0 ≡ w / 2 ^ j % 2 + 16 * (2048 + (s + j))
unfolding digits
digit_at s zero w j h = absurd (omega arith)
digit_at s (suc n) w zero h = rw (odd_bit w, div-one w) (omega arith)
digit_at s (suc n) w (suc j) h =
    let e : 2 ^ suc j ≡ 2 * 2 ^ j = (pow-suc 2 j ∙ omega arith) in
    digit_at (suc s) n (w / 2) j (omega arith) ∙ rw (e, div-div-eq-div-mul w 2 (2 ^ j)) (omega arith)

module _ (first second : Bool) (w : ℕ) where
  pub kind_first : (i : ℕ) → i ≡ 0 → {r : ℕ} → r ≡ bit_of first → r + 32768 ≡ get_or (map packed (kinds first second (digits 2 width w))) i 0
  kind_first i e q = rw (e, q)

  pub kind_second : (i : ℕ) → i ≡ 1 → {r : ℕ} → r ≡ bit_of second → r + 32784 ≡ get_or (map packed (kinds first second (digits 2 width w))) i 0
  kind_second i e q = rw (e, q)

  pub kind_bit : (i : ℕ) → (i ≡ 0 → ⊥) → (i ≡ 1 → ⊥) → i < 18 → {r : ℕ} → r ≡ w / 2 ^ (i - 2) % 2 + 16 * (2048 + i) → r ≡ get_or (map packed (kinds first second (digits 2 width w))) i 0
  kind_bit zero p q l e = absurd (p refl)
  kind_bit (suc zero) p q l e = absurd (q refl)
  kind_bit (suc (suc j)) p q l e =
      let f : suc (suc j) - 2 ≡ j = omega arith in
      let g : suc (suc j) ≡ 2 + j = omega arith in
      e ∙ (rw (f, g) refl ∙ sym (digit_at 2 width w j (omega arith)))

  pub kind_past : (i : ℕ) → 18 ≤ i → 0 ≡ get_or (map packed (kinds first second (digits 2 width w))) i 0
  unfolding digits
  kind_past i h = sym (get_or-eq_default (map packed (kinds first second (digits 2 width w))) 0 h)

-- a free truth's are a false constant's, but the lowest bit
module _ where
  pub free_kind : (i : ℕ) → i < 2 → get_or (map packed (kinds false false (digits 2 width 0))) i 0 ≡ get_or (map packed (kinds false false (digits 3 (width - 1) 0))) i 0
  free_kind zero h = refl
  free_kind (suc zero) h = refl
  free_kind (suc (suc i)) h = absurd (omega arith)

  pub free_bit : (i : ℕ) → 2 ≤ i → get_or (map packed (kinds false false (digits 2 width 0))) (i + 1) 0 ≡ get_or (map packed (kinds false false (digits 3 (width - 1) 0))) i 0
  unfolding digits
  free_bit zero h = absurd (omega arith)
  free_bit (suc zero) h = absurd (omega arith)
  free_bit (suc (suc i)) h = rw (add-one (suc (suc i)))

  pub free_past : (i : ℕ) → 17 ≤ i → 0 ≡ get_or (map packed (kinds false false (digits 3 (width - 1) 0))) i 0
  unfolding digits
  free_past i h = sym (get_or-eq_default (map packed (kinds false false (digits 3 (width - 1) 0))) 0 h)

module _ (first second : Bool) where
  pub alone : (i : ℕ) → i < 2 → get_or (map packed (kinds first second (digits 2 width 0))) i 0 ≡ get_or (map packed (kinds first second [])) i 0
  alone zero h = refl
  alone (suc zero) h = refl
  alone (suc (suc i)) h = absurd (omega arith)

  pub alone_past : (i : ℕ) → 2 ≤ i → 0 ≡ get_or (map packed (kinds first second [])) i 0
  alone_past i h = sym (get_or-eq_default (map packed (kinds first second [])) 0 h)

-- ---- a choice's
choice_from : (s n j : ℕ) → j < n → get_or (map packed (choices s n)) j 0 ≡ packed (gate choose (own (s + j)) (pos (wire_a 2)) (pos (wire_b (s + j))) (pos (wire_c (s + j))))
unfolding choices
choice_from s zero j h = absurd (omega arith)
choice_from s (suc n) zero h = ap (λ k. packed (gate choose (own k) (pos (wire_a 2)) (pos (wire_b k)) (pos (wire_c k)))) (omega arith)
choice_from s (suc n) (suc j) h =
    choice_from (suc s) n j (omega arith) ∙ ap (λ k. packed (gate choose (own k) (pos (wire_a 2)) (pos (wire_b k)) (pos (wire_c k)))) (omega arith)

pub choice_at : (i : ℕ) → i < 18 → 9 + 16 * (2048 + i + 16384 * (8196 + 32768 * (12288 + 2 * i + 32768 * (16384 + 2 * i)))) ≡ get_or (map packed (choices 0 owned)) i 0
choice_at i h = go i refl ∙ sym (choice_from 0 owned i h)
  where
    go : (k : ℕ) → k ≡ i → 9 + 16 * (2048 + i + 16384 * (8196 + 32768 * (12288 + 2 * i + 32768 * (16384 + 2 * i)))) ≡ packed (gate choose (own (0 + i)) (pos (wire_a 2)) (pos (wire_b (0 + i))) (pos (wire_c (0 + i))))
    go k e = omega arith

pub choice_past : (i : ℕ) → 18 ≤ i → 0 ≡ get_or (map packed (choices 0 owned)) i 0
unfolding choices
choice_past i h = sym (get_or-eq_default (map packed (choices 0 owned)) 0 h)
