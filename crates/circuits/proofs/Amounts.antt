-- What the gates of a shift say, by an amount that is a word and by a constant one: the shifts of document 02, Five. Assumes nothing.
use mathlib.Core.Path.{◌≡◌, refl, sym, ap, ◌∙◌, subst}
use mathlib.Core.Bool.{Bool, true, false, not, ◌&&◌}
use mathlib.Core.List.{List, [], ◌∷◌, ◌++◌}
use Prim.Native.Nat.{ℕ, zero, suc, ◌+◌, ◌-◌, ◌*◌, ◌/◌, ◌%◌, ◌^◌, ◌<◌, ◌≤◌}
use native.Mathlib.Omega.{arith}
use native.Mathlib.Nat.{one-mul, zero-mul, mul-zero, add-zero, mod-eq_of_lt, lt_of_le_of_lt}
use lib.ListN.{length}
use lib.Dec.{eqb}
use lib.Pow.{shr_le}
use borrow.Author.Tests.{eqb-true, eqb-false, ne_eqb}
use Rattle.words.specs.Words.{left_of, right_of}
use Rattle.words.proofs.Shifts.{left_past, right_past, left_solvers, right_solvers}
use Rattle.operators.specs.Operators.{bit_of}
use Rattle.circuits.specs.Gates.{Literal, pos, literal_true, Gate}
use Rattle.circuits.specs.Circuits.{barrel, clear, shifted_up, shifted_down, masks}
use Rattle.circuits.specs.Templates.{Wire, wire_a, wire_b, wire_true, helper, own, literals, none, one_word, kinds, word_a, word2, shift_gates, shift_by_gates}
use Rattle.circuits.proofs.Gates.{Holds, holds_l, holds_r, flip_true}
use Rattle.circuits.proofs.Sums.{number, number_lt, length_literals, Like, like_mod}
use Rattle.circuits.proofs.Shifts.{left_is, right_is, length_left, length_right, ups_is, downs_is, length_ups, length_downs}
use Rattle.circuits.proofs.Counts.{masks_is}
use Rattle.circuits.proofs.Operators.{first, second, are_words, GivesWord, guard_is, number_literals, pow_big}

clear_is : {W : Type 0} (h : ℕ → W) (σ : W → Bool) (k : ℕ) (c : Literal W) (ys : List (Literal W)) → Holds σ (clear h k c ys).gates
    → literal_true σ (clear h k c ys).carry ≡ (literal_true σ c && eqb (number σ ys) 0)
unfolding clear
clear_is h σ k c [] g = go (literal_true σ c)
  where
    go : (b : Bool) → b ≡ (b && true)
    go true = refl
    go false = refl
clear_is h σ k c (y ∷ ys) g = clear_is h σ (1 + k) (pos (h k)) ys g.1 ∙ rw (g.0, flip_true σ y) (go (literal_true σ c) (literal_true σ y) (number σ ys))
  where
    go : (a b : Bool) (n : ℕ) → (a && not b && eqb n 0) ≡ (a && eqb (bit_of b + 2 * n) 0)
    go false b n = refl
    go true true n = sym (ne_eqb (1 + 2 * n) 0 (λ e. omega arith))
    go true false zero = refl
    go true false (suc n) = ne_eqb (suc n) 0 (λ e. omega arith) ∙ sym (ne_eqb (0 + 2 * suc n) 0 (λ e. omega arith))

-- of a word, a right shift needs no test of the amount
right_of_word : (k a b : ℕ) → a < 2 ^ k → right_of k a b ≡ a / 2 ^ b
right_of_word k a b w = right_solvers k a b w ∙ mod-eq_of_lt (lt_of_le_of_lt (shr_le a b) w)

module _ (d : ℕ) (τ : Wire → Bool) (o : τ wire_true ≡ true) where
  off : literal_true τ none ≡ false
  off = rw o

  lx : length (word_a d) ≡ 2 ^ d
  lx = length_literals wire_a 2 (2 ^ d)

  first_lt : first d τ < 2 ^ (2 ^ d)
  first_lt = subst (λ w. first d τ < 2 ^ w) lx (number_lt τ (word_a d))

  -- as wide as a word, and like m: it is m, wrapped
  wraps : (rs : List (Literal Wire)) (m : ℕ) → length rs ≡ 2 ^ d → Like (length (word_a d)) (number τ rs) m → number τ rs ≡ m % 2 ^ (2 ^ d)
  wraps rs m e l =
      like_mod (2 ^ d) (number τ rs) m (subst (λ w. number τ rs < 2 ^ w) e (number_lt τ rs)) (l.0, ap (λ w. number τ rs + 2 ^ w * l.0) (sym lx) ∙ l.1)

  -- ---- the amount is a word: its d lowest bits, and those past them
  abbrev low : ℕ
  low = number τ (literals wire_b 2 d)

  abbrev high : ℕ
  high = number τ (literals wire_b (2 + d) (2 ^ d - d))

  split : second d τ ≡ low + 2 ^ d * high
  split =
      let e : d + (2 ^ d - d) ≡ 2 ^ d = omega (arith, pow_big d) in
      ap (λ n. number τ (literals wire_b 2 n)) (sym e) ∙ number_literals τ wire_b 2 d (2 ^ d - d)

  amount : high ≡ 0 → low ≡ second d τ
  amount e = sym (split ∙ rw (e, mul-zero (2 ^ d)) (add-zero low))

  -- under the guard of both words and a clear upper part
  shown : (F : ℕ → ℕ → ℕ) (bs : List (Gate Wire)) (rs : List (Literal Wire)) → length rs ≡ 2 ^ d
      → (high ≡ 0 → number τ rs ≡ F (first d τ) (second d τ)) → (2 ^ d ≤ second d τ → F (first d τ) (second d τ) ≡ 0)
      → Holds τ (word2 d ((clear helper 2 (pos (helper 1)) (literals wire_b (2 + d) (2 ^ d - d))).gates ++ (bs ++ masks helper own (clear helper 2 (pos (helper 1)) (literals wire_b (2 + d) (2 ^ d - d))).carry 2 rs)))
      → GivesWord d τ (are_words d τ) (F (first d τ) (second d τ))
  shown F bs rs e f z h =
      let c = clear helper 2 (pos (helper 1)) (literals wire_b (2 + d) (2 ^ d - d)) in
      let m = masks helper own c.carry 2 rs in
      let g1 = holds_l τ c.gates (bs ++ m) h.1.1.1.1 in
      let g2 = holds_r τ c.gates (bs ++ m) h.1.1.1.1 in
      let k = masks_is helper own c.carry τ 2 rs (2 ^ d) e (holds_r τ bs m g2) in
      let v = clear_is helper τ 2 (pos (helper 1)) (literals wire_b (2 + d) (2 ^ d - d)) g1 in
      let u = guard_is d τ (c.gates ++ (bs ++ m)) h.1.1 in
      record { kind = h.0; other = h.1.0; bits = k ∙ (ap (λ b. bit_of b * number τ rs) v ∙ (go (τ (helper 1)) (eqb high 0) refl ∙ ap (λ b. bit_of b * F (first d τ) (second d τ)) u)) }
    where
      go : (a b : Bool) → eqb high 0 ≡ b → bit_of (a && b) * number τ rs ≡ bit_of a * F (first d τ) (second d τ)
      go true true q = rw (f (eqb-true high 0 q))
      go false b q = zero-mul (number τ rs) ∙ sym (zero-mul (F (first d τ) (second d τ)))
      go true false q =
          let n : ¬ (high ≡ 0) = eqb-false high 0 q in
          let l : 2 ^ d ≤ second d τ = rw split (big (2 ^ d) high low (omega arith)) in
          zero-mul (number τ rs) ∙ sym (one-mul (F (first d τ) (second d τ)) ∙ z l)
        where
          big : (p x y : ℕ) → 1 ≤ x → p ≤ y + p * x
          big p zero y l = absurd (omega arith)
          big p (suc x) y l = omega arith

  pub left_op : Holds τ (shift_gates d shifted_up) → GivesWord d τ (are_words d τ) (left_of (2 ^ d) (first d τ) (second d τ))
  unfolding shift_gates
  left_op h =
      let c = clear helper 2 (pos (helper 1)) (literals wire_b (2 + d) (2 ^ d - d)) in
      let s = barrel helper shifted_up none c.next 1 (word_a d) (literals wire_b 2 d) in
      let m = masks helper own c.carry 2 s.outs in
      let e : length s.outs ≡ 2 ^ d = length_left helper none c.next 1 (word_a d) (literals wire_b 2 d) ∙ lx in
      let k = left_is helper τ none c.next 1 (word_a d) (literals wire_b 2 d) off (holds_l τ s.gates m (holds_r τ c.gates (s.gates ++ m) h.1.1.1.1)) in
      shown (left_of (2 ^ d)) s.gates s.outs e
      (λ z. wraps s.outs (first d τ * 2 ^ second d τ) e (k.0, k.1 ∙ ap (λ t. first d τ * 2 ^ t) (one-mul low ∙ amount z)) ∙ sym (left_solvers (2 ^ d) (first d τ) (second d τ)))
      (left_past (2 ^ d) (first d τ) (second d τ)) h

  pub right_op : Holds τ (shift_gates d shifted_down) → GivesWord d τ (are_words d τ) (right_of (2 ^ d) (first d τ) (second d τ))
  unfolding shift_gates
  right_op h =
      let c = clear helper 2 (pos (helper 1)) (literals wire_b (2 + d) (2 ^ d - d)) in
      let s = barrel helper shifted_down none c.next 1 (word_a d) (literals wire_b 2 d) in
      let m = masks helper own c.carry 2 s.outs in
      let e : length s.outs ≡ 2 ^ d = length_right helper none c.next 1 (word_a d) (literals wire_b 2 d) ∙ lx in
      let k = right_is helper τ none c.next 1 (word_a d) (literals wire_b 2 d) off (holds_l τ s.gates m (holds_r τ c.gates (s.gates ++ m) h.1.1.1.1)) in
      shown (right_of (2 ^ d)) s.gates s.outs e
      (λ z. k ∙ (ap (λ t. first d τ / 2 ^ t) (one-mul low ∙ amount z) ∙ sym (right_of_word (2 ^ d) (first d τ) (second d τ) first_lt)))
      (right_past (2 ^ d) (first d τ) (second d τ)) h

  -- ---- the amount is a constant
  by_amount : (rs : List (Literal Wire)) (n : ℕ) → length rs ≡ 2 ^ d → Holds τ (kinds true false (one_word (masks helper own (pos (helper 0)) 2 rs))) → number τ rs ≡ n
      → GivesWord d τ (τ (wire_a 0) && not (τ (wire_a 1))) n
  by_amount rs n e h p =
      let m = masks_is helper own (pos (helper 0)) τ 2 rs (2 ^ d) e h.1.1.1 in
      record { kind = h.0; other = h.1.0; bits = m ∙ (ap (λ k. bit_of (τ (helper 0)) * k) p ∙ ap (λ b. bit_of b * n) h.1.1.0) }

  pub left_by : (w : ℕ) → Holds τ (shift_by_gates d shifted_up w) → GivesWord d τ (τ (wire_a 0) && not (τ (wire_a 1))) (left_of (2 ^ d) (first d τ) w)
  unfolding shift_by_gates
  left_by w h =
      let rs = shifted_up none w (word_a d) in
      let e = length_ups none w (word_a d) ∙ lx in
      by_amount rs (left_of (2 ^ d) (first d τ) w) e h (wraps rs (first d τ * 2 ^ w) e (ups_is τ none off w (word_a d)) ∙ sym (left_solvers (2 ^ d) (first d τ) w))

  pub right_by : (w : ℕ) → Holds τ (shift_by_gates d shifted_down w) → GivesWord d τ (τ (wire_a 0) && not (τ (wire_a 1))) (right_of (2 ^ d) (first d τ) w)
  unfolding shift_by_gates
  right_by w h =
      by_amount (shifted_down none w (word_a d)) (right_of (2 ^ d) (first d τ) w) (length_downs none w (word_a d) ∙ lx) h
      (downs_is τ none off w (word_a d) ∙ sym (right_of_word (2 ^ d) (first d τ) w first_lt))
