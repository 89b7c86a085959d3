-- The gates of a shift by a constant, by number; and of an operator term, by whether it is one. Assumes nothing.
use mathlib.Core.Path.{◌≡◌, refl, sym, ap, ◌∙◌}
use mathlib.Core.Bool.{Bool, true, false}
use mathlib.Core.List.{List, [], ◌∷◌, ◌++◌, map}
use Prim.Native.Nat.{ℕ, zero, suc, ◌+◌, ◌-◌, ◌*◌, ◌<◌, ◌≤◌}
use native.Mathlib.Omega.{arith}
use lib.ListN.{length, get_or, get_or-eq_default}
use lib.Dec.{eqb, ltb}
use borrow.Author.Tests.{ltb-true, ltb-false, lt-ltb, le-ltb}
use Rattle.notation.specs.Notation.{pick, with, when◌then◌else◌, if◌equals◌then◌else◌, if◌below◌then◌else◌}
use Rattle.words.specs.Words.{width}
use Rattle.circuits.specs.Gates.{Literal, pos, Gate, gate, and2, clauses}
use Rattle.circuits.specs.Circuits.{low, shifted_up, down, shifted_down, masks}
use Rattle.circuits.specs.Templates.{Wire, wire_a, helper, own, literals, none, kinds, word_a, shift_by_gates}
use Rattle.circuits.proofs.Shifts.{length_ups, length_downs}
use Rattle.semantics.specs.declared.Term.{Term}
use Rattle.semantics.specs.Numbers.{word_term, left_code, right_code}
use Rattle.semantics.specs.Terms.{term_word}
use Rattle.typing.proofs.Formed.{never}
use Rattle.clauses.specs.Clauses.{levels, digits, code_gates, operation_gates, helpers}
use Rattle.clauses.proofs.Laws.{length_masks, masks_clauses, masks_helpers}
use Rattle.gate_tables.specs.Packed.{literal_number, packed}
use Rattle.gate_tables.proofs.Right.{length_packed}
use Rattle.term_gates.specs.Moved.{shifted, none_number, moved_literal, moved_gate, by_constant}

-- ---- the bits of a shift
module _ {A : Type 0} (z : A) where
  low_at : (x : A) (xs : List A) (j : ℕ) → j < length xs → get_or (low (x ∷ xs)) j z ≡ get_or (x ∷ xs) j z
  low_at x [] j h = absurd (omega arith)
  low_at x (y ∷ xs) zero h = refl
  low_at x (y ∷ xs) (suc j) h = low_at y xs j (omega arith)

  up_at : (w : ℕ) (xs : List A) (j : ℕ) → j < length xs → get_or (shifted_up z w xs) j z ≡ pick (ltb j w) z (get_or xs (j - w) z)
  unfolding shifted_up
  up_at zero xs j h = let e : j - 0 ≡ j = omega arith in rw (e, le-ltb j 0 (omega arith))
  up_at (suc w) xs zero h = low_at z (shifted_up z w xs) 0 (rw (length_ups z w xs) h) ∙ rw (lt-ltb 0 (suc w) (omega arith))
  up_at (suc w) xs (suc j) h =
      let e : suc j - suc w ≡ j - w = omega arith in
      low_at z (shifted_up z w xs) (suc j) (rw (length_ups z w xs) h) ∙ (up_at w xs j (omega arith) ∙ rw (e, both_more (ltb j w) refl))
    where
      both_more : (b : Bool) → ltb j w ≡ b → ltb (suc j) (suc w) ≡ b
      both_more true q = let l = ltb-true j w q in lt-ltb (suc j) (suc w) (omega arith)
      both_more false q = let l = ltb-false j w q in le-ltb (suc j) (suc w) (omega arith)

  last_at : (xs : List A) (j : ℕ) → get_or (xs ++ (z ∷ [])) j z ≡ get_or xs j z
  last_at [] zero = refl
  last_at [] (suc j) = refl
  last_at (x ∷ xs) zero = refl
  last_at (x ∷ xs) (suc j) = last_at xs j

  down_one : (xs : List A) (j : ℕ) → get_or (down z xs) j z ≡ get_or xs (suc j) z
  down_one [] j = refl
  down_one (x ∷ xs) j = last_at xs j

  down_at : (w : ℕ) (xs : List A) (j : ℕ) → get_or (shifted_down z w xs) j z ≡ get_or xs (j + w) z
  unfolding shifted_down
  down_at zero xs j = let e : j + 0 ≡ j = omega arith in rw e
  down_at (suc w) xs j = let e : suc j + w ≡ j + suc w = omega arith in down_one (shifted_down z w xs) j ∙ (down_at w xs (suc j) ∙ rw e)

literal_at : (s n j : ℕ) → j < n → get_or (literals wire_a s n) j none ≡ pos (wire_a (s + j))
literal_at s zero j h = absurd (omega arith)
literal_at s (suc n) zero h = ap (λ k. pos (wire_a k)) (omega arith)
literal_at s (suc n) (suc j) h = literal_at (suc s) n j (omega arith) ∙ ap (λ k. pos (wire_a k)) (omega arith)

length_word : length (word_a levels) ≡ width
length_word = refl

-- the number of the literal that a bit is after the shift
moved_is : (up : Bool) (w j : ℕ) → j < width → literal_number (get_or (shifted up none w (word_a levels)) j none) ≡ moved_literal up w j
unfolding moved_literal when◌then◌else◌ if◌below◌then◌else◌
moved_is true w j h = ap literal_number (up_at none w (word_a levels) j h) ∙ rw (lt-ltb j width h) (go (ltb j w) refl)
  where
    sum : (k : ℕ) → 2 * (4096 + (2 + k)) ≡ 2 * (4098 + k)
    sum k = omega arith

    go : (b : Bool) → ltb j w ≡ b → literal_number (pick b none (get_or (word_a levels) (j - w) none)) ≡ pick b none_number (2 * (4098 + (j - w)))
    go true e = refl
    go false e = ap literal_number (literal_at 2 width (j - w) (omega arith)) ∙ sum (j - w)
moved_is false w j h = ap literal_number (down_at none w (word_a levels) j) ∙ rw (lt-ltb j width h) (go (ltb w (width - j)) refl)
  where
    sum : (k : ℕ) → 2 * (4096 + (2 + k)) ≡ 2 * (4098 + k)
    sum k = omega arith

    go : (b : Bool) → ltb w (width - j) ≡ b → literal_number (get_or (word_a levels) (j + w) none) ≡ pick b (2 * (4098 + (j + w))) none_number
    go true e = let l = ltb-true w (width - j) e in ap literal_number (literal_at 2 width (j + w) (omega arith)) ∙ sum (j + w)
    go false e =
        let l = ltb-false w (width - j) e in
        let k : length (word_a levels) ≤ j + w = omega (arith, length_word) in
        ap literal_number (get_or-eq_default (word_a levels) none k)

-- ---- the gates
mask_at : (s : ℕ) (rs : List (Literal Wire)) (j : ℕ) → j < length rs
    → get_or (map packed (masks helper own (pos (helper 0)) s rs)) j 0 ≡ packed (gate and2 (own (s + j)) (pos (helper 0)) (get_or rs j none) (get_or rs j none))
unfolding masks
mask_at s [] j h = absurd (omega arith)
mask_at s (r ∷ rs) zero h = ap (λ k. packed (gate and2 (own k) (pos (helper 0)) r r)) (omega arith)
mask_at s (r ∷ rs) (suc j) h = mask_at (suc s) rs j (omega arith) ∙ ap (λ k. packed (gate and2 (own k) (pos (helper 0)) (get_or rs j none) (get_or rs j none))) (omega arith)

length_shifted : (up : Bool) (w : ℕ) → length (shifted up none w (word_a levels)) ≡ width
length_shifted true w = length_ups none w (word_a levels)
length_shifted false w = length_downs none w (word_a levels)

module _ (up : Bool) (w : ℕ) where
  -- how many gates, clauses and helpers
  pub shift_gates_lem : length (shift_by_gates levels (shifted up) w) ≡ 19
  unfolding shift_by_gates
  shift_gates_lem = ap (λ n. suc (suc (suc n))) (length_masks 2 (shifted up none w (word_a levels)) ∙ length_shifted up w)

  pub shift_clauses : length (clauses (shift_by_gates levels (shifted up) w)) ≡ 53
  unfolding shift_by_gates
  shift_clauses = ap (λ n. suc (suc (suc (suc (suc n))))) (masks_clauses 2 (shifted up none w (word_a levels)) ∙ ap (λ n. 3 * n) (length_shifted up w))

  pub shift_helpers : helpers (shift_by_gates levels (shifted up) w) ≡ 1
  unfolding shift_by_gates helpers
  shift_helpers = ap suc (masks_helpers 2 (shifted up none w (word_a levels)))

  abbrev gate_at : ℕ → ℕ
  gate_at i = get_or (map packed (shift_by_gates levels (shifted up) w)) i 0

  pub shift_kind : (i : ℕ) → i < 2 → {r : ℕ} → r ≡ get_or (map packed (kinds true false (digits 2 width 0))) i 0 → r ≡ gate_at i
  unfolding shift_by_gates
  shift_kind zero h e = e
  shift_kind (suc zero) h e = e
  shift_kind (suc (suc i)) h e = absurd (omega arith)

  pub shift_guard : (i : ℕ) → i ≡ 2 → 2306757830805291011 ≡ gate_at i
  unfolding shift_by_gates
  shift_guard i e = rw e

  pub shift_bit : (i : ℕ) → 3 ≤ i → i < 19 → {r : ℕ} → r ≡ moved_gate up w (i - 3) → r ≡ gate_at i
  unfolding shift_by_gates moved_gate with
  shift_bit zero l h e = absurd (omega arith)
  shift_bit (suc zero) l h e = absurd (omega arith)
  shift_bit (suc (suc zero)) l h e = absurd (omega arith)
  shift_bit (suc (suc (suc j))) l h e =
      let q : suc (suc (suc j)) - 3 ≡ j = omega arith in
      let m = mask_at 2 (shifted up none w (word_a levels)) j (rw (length_shifted up w) (omega arith)) in
      e ∙ (ap (λ k. 3 + 16 * (2050 + k + 16384 * (32768 * (moved_literal up w k + 32768 * moved_literal up w k)))) q
      ∙ (same j (moved_literal up w j) (literal_number (get_or (shifted up none w (word_a levels)) j none)) (sym (moved_is up w j (omega arith))) ∙ sym m))
    where
      same : (j l n : ℕ) → l ≡ n → 3 + 16 * (2050 + j + 16384 * (32768 * (l + 32768 * l))) ≡ 3 + 16 * (2048 + (2 + j) + 16384 * (0 + 32768 * (n + 32768 * n)))
      same j l n e = omega arith

  pub shift_past : (i : ℕ) → 19 ≤ i → 0 ≡ gate_at i
  shift_past i h = sym (get_or-eq_default (map packed (shift_by_gates levels (shifted up) w)) 0 (rw (length_packed (shift_by_gates levels (shifted up) w), shift_gates_lem) h))

-- ---- an operator term
module _ {A : Type 0} (f : List (Gate Wire) → A) (op : ℕ) (u : Term) where
  -- a shift by a constant
  pub by_shift : {b : Bool} → b ≡ by_constant op u → b ≡ true → {w : ℕ} → w ≡ term_word u → {r : A} → r ≡ f (shift_by_gates levels (shifted (eqb op left_code)) w) → r ≡ f (operation_gates op u)
  unfolding by_constant operation_gates when◌then◌else◌ if◌equals◌then◌else◌
  by_shift e h {w} ew q = q ∙ (ap (λ v. f (shift_by_gates levels (shifted (eqb op left_code)) v)) ew ∙ go (eqb u.kind word_term) (eqb op left_code) (eqb op right_code) (sym e ∙ h))
    where
      go : (a b c : Bool) → pick a (pick b true c) false ≡ true → f (shift_by_gates levels (shifted b) (term_word u))
          ≡ f (pick a (pick b (shift_by_gates levels shifted_up (term_word u)) (pick c (shift_by_gates levels shifted_down (term_word u)) (code_gates op))) (code_gates op))
      go true true c h = refl
      go true false true h = refl
      go true false false h = never h
      go false b c h = never h

  -- where all shifts by a constant give k
  pub by_count : (k : A) → ((up : Bool) → f (shift_by_gates levels (shifted up) (term_word u)) ≡ k) → {b : Bool} → b ≡ by_constant op u → {r : A} → r ≡ (when b then k else f (code_gates op)) → r ≡ f (operation_gates op u)
  unfolding by_constant operation_gates when◌then◌else◌ if◌equals◌then◌else◌
  by_count k s {b} e {r} q = q ∙ (ap (λ c. pick c k (f (code_gates op))) e ∙ go (eqb u.kind word_term) (eqb op left_code) (eqb op right_code))
    where
      go : (a b c : Bool) → pick (pick a (pick b true c) false) k (f (code_gates op))
          ≡ f (pick a (pick b (shift_by_gates levels shifted_up (term_word u)) (pick c (shift_by_gates levels shifted_down (term_word u)) (code_gates op))) (code_gates op))
      go true true c = sym (s true)
      go true false true = sym (s false)
      go true false false = refl
      go false b c = refl

  -- another operator
  pub by_code : {b : Bool} → b ≡ by_constant op u → b ≡ false → {r : A} → r ≡ f (code_gates op) → r ≡ f (operation_gates op u)
  unfolding by_constant operation_gates when◌then◌else◌ if◌equals◌then◌else◌
  by_code e h q = q ∙ go (eqb u.kind word_term) (eqb op left_code) (eqb op right_code) (sym e ∙ h)
    where
      go : (a b c : Bool) → pick a (pick b true c) false ≡ false
          → f (code_gates op) ≡ f (pick a (pick b (shift_by_gates levels shifted_up (term_word u)) (pick c (shift_by_gates levels shifted_down (term_word u)) (code_gates op))) (code_gates op))
      go true true c h = never (sym h)
      go true false true h = never (sym h)
      go true false false h = refl
      go false b c h = refl
