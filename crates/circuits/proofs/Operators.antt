-- What the gates of each operator say, on words of 2 ^ d bits. Assumes nothing.
use mathlib.Core.Path.{◌≡◌, refl, sym, ap, ◌∙◌}
use mathlib.Core.Bool.{Bool, true, false, not, ◌&&◌}
use mathlib.Core.List.{List, [], ◌∷◌, ◌++◌, map}
use Prim.Native.Nat.{ℕ, zero, suc, ◌+◌, ◌-◌, ◌*◌, ◌%◌, ◌^◌, ◌<◌}
use native.Mathlib.Omega.{arith}
use native.Mathlib.Nat.{pow-suc, one-mul, zero-mul, add-zero, zero-add, suc-add}
use lib.ListN.{length, length-append}
use lib.Dec.{eqb, ltb}
use lib.Bits.{bit_and, bit_or, bit_xor}
use lib.Count.{count_leading_zeros}
use Rattle.operators.specs.Operators.{bit_of}
use Rattle.words.specs.Words.{sum_of, difference_of, product_of, and_of, or_of, xor_of, ones_of, zeros_of}
use Rattle.circuits.specs.Gates.{Literal, pos, flip, literal_true, Gate, gate, Function, copy, and2, and3, and_or, and_xor, value_of}
use Rattle.circuits.specs.Circuits.{carries, tree, flags, same_bits, sums, pairs, masks, products}
use Rattle.circuits.specs.Templates.{Wire, wire_a, wire_b, wire_true, helper, own, literals, none, pad, both_words, one_word, kinds, word_a, word_b, word2, counted, sum_gates, difference_gates, product_gates, bitwise_gates, ones_gates, zeros_gates, less_gates, equal_gates}
use Rattle.circuits.proofs.Gates.{Holds, holds_l, holds_r, flip_true}
use Rattle.circuits.proofs.Sums.{number, double, number_lt, number_flip, length_flip, length_literals, Like, like_mod, less_is, sums_is, sums_off}
use Rattle.circuits.proofs.Products.{products_is, products_off}
use Rattle.circuits.proofs.Counts.{count_ones, tree_all, length_tree, flags_is, length_flags, same_bits_is, pairs_off, and_is, or_is, xor_is, masks_is}

pub pow_big : (d : ℕ) → d < 2 ^ d
pow_big zero = omega arith
pow_big (suc d) = omega (arith, pow_big d, pow-suc 2 d)

pub number_literals : {W : Type 0} (σ : W → Bool) (f : ℕ → W) (s n m : ℕ) → number σ (literals f s (n + m)) ≡ number σ (literals f s n) + 2 ^ n * number σ (literals f (s + n) m)
number_literals σ f s zero m = rw (zero-add m, add-zero s, one-mul) (sym (zero-add (number σ (literals f s m))))
number_literals σ f s (suc n) m =
    let e : suc s + n ≡ s + suc n = omega arith in
    rw (suc-add n m) (omega (arith, rw e at (number_literals σ f (suc s) n m), double n (number σ (literals f (s + suc n) m))))

by_guard : (n m : ℕ) (g : Bool) → (g ≡ true → n ≡ m) → (g ≡ false → n ≡ 0) → n ≡ bit_of g * m
by_guard n m true f h = f refl ∙ sym (one-mul m)
by_guard n m false f h = h refl ∙ sym (zero-mul m)

module _ (d : ℕ) (τ : Wire → Bool) where
  -- the words that the wires hold
  abbrev pub first : ℕ
  first = number τ (word_a d)

  abbrev pub second : ℕ
  second = number τ (word_b d)

  abbrev pub result : ℕ
  result = number τ (literals own 2 (2 ^ d))

  -- both operands are words
  abbrev pub are_words : Bool
  are_words = (τ (wire_a 0) && not (τ (wire_a 1))) && (τ (wire_b 0) && not (τ (wire_b 1)))

  -- the gates give a word, F of the operands where these are words, else 0
  pub record GivesWord (g : Bool) (n : ℕ) : Type 0 where
    pub kind : τ (own 0) ≡ true
    pub other : τ (own 1) ≡ false
    pub bits : result ≡ bit_of g * n

  -- the gates give a truth
  pub record GivesTruth (b : Bool) : Type 0 where
    pub kind : τ (own 0) ≡ false
    pub other : τ (own 1) ≡ false
    pub bits : τ (own 2) ≡ b

  pub guard_is : (gs : List (Gate Wire)) → Holds τ (both_words gs) → τ (helper 1) ≡ are_words
  guard_is gs h = rw (h.1.0, h.0) (go (τ (wire_a 0)) (τ (wire_a 1)) (τ (wire_b 0)) (τ (wire_b 1)))
    where
      go : (a b c e : Bool) → (a && (not b && c) && not e) ≡ (a && not b && (c && not e))
      go true true c e = refl
      go true false c e = refl
      go false b c e = refl

  lx : length (word_a d) ≡ 2 ^ d
  lx = length_literals wire_a 2 (2 ^ d)

  ly : length (word_b d) ≡ 2 ^ d
  ly = length_literals wire_b 2 (2 ^ d)

  lf : length (map flip (word_b d)) ≡ 2 ^ d
  lf = length_flip (word_b d) ∙ ly

  -- a word under the guard of both operands
  of_two : (gs : List (Gate Wire)) (n : ℕ) → Holds τ (word2 d gs) → (τ (helper 1) ≡ true → result ≡ n) → (τ (helper 1) ≡ false → result ≡ 0) → GivesWord are_words n
  of_two gs n h f g =
      record { kind = h.0; other = h.1.0; bits = by_guard result n (τ (helper 1)) f g ∙ ap (λ b. bit_of b * n) (guard_is gs h.1.1) }

  wraps : (m : ℕ) → Like (2 ^ d) result m → result ≡ m % 2 ^ (2 ^ d)
  wraps m l = like_mod (2 ^ d) result m (rw (length_literals own 2 (2 ^ d)) at (number_lt τ (literals own 2 (2 ^ d)))) l

  bitwise : (f : Function) → ((x y : Bool) → value_of f false x y ≡ false) → (op : ℕ → ℕ → ℕ)
      → (literal_true τ (pos (helper 1)) ≡ true → Holds τ (pairs helper own (pos (helper 1)) f 2 (word_a d) (word_b d)) → result ≡ op first second)
      → Holds τ (bitwise_gates d f) → GivesWord are_words (op first second)
  unfolding bitwise_gates
  bitwise f v op p h =
      of_two (pairs helper own (pos (helper 1)) f 2 (word_a d) (word_b d)) (op first second) h (λ t. p t h.1.1.1.1)
      (λ t. pairs_off helper own (pos (helper 1)) τ f v 2 (word_a d) (word_b d) (2 ^ d) t lx ly h.1.1.1.1)

  pub and_op : Holds τ (bitwise_gates d and3) → GivesWord are_words (and_of first second)
  and_op h = bitwise and3 (λ x y. refl) bit_and (λ t. and_is helper own (pos (helper 1)) τ 2 (word_a d) (word_b d) (2 ^ d) t lx ly) h

  pub or_op : Holds τ (bitwise_gates d and_or) → GivesWord are_words (or_of first second)
  or_op h = bitwise and_or (λ x y. refl) bit_or (λ t. or_is helper own (pos (helper 1)) τ 2 (word_a d) (word_b d) (2 ^ d) t lx ly) h

  pub xor_op : Holds τ (bitwise_gates d and_xor) → GivesWord are_words (xor_of first second)
  xor_op h = bitwise and_xor (λ x y. refl) bit_xor (λ t. xor_is helper own (pos (helper 1)) τ 2 (word_a d) (word_b d) (2 ^ d) t lx ly) h

  pub equal_op : Holds τ (equal_gates d) → GivesTruth (are_words && eqb first second)
  unfolding equal_gates
  equal_op h =
      let s = same_bits helper 2 (pos (helper 1)) (word_a d) (word_b d) in
      let last = gate copy (own 2) s.carry s.carry s.carry ∷ [] in
      record {
        kind = h.0;
        other = h.1.0;
        bits = (holds_r τ s.gates last h.1.1.1.1).0
            ∙ same_bits_is helper τ 2 (pos (helper 1)) (word_a d) (word_b d) (lx ∙ sym ly) (holds_l τ s.gates last h.1.1.1.1)
            ∙ ap (λ b. b && eqb first second) (guard_is (s.gates ++ last) h.1.1);
      }

  module _ (o : τ wire_true ≡ true) where
    off : literal_true τ none ≡ false
    off = rw o

    pub sum_op : Holds τ (sum_gates d) → GivesWord are_words (sum_of (2 ^ d) first second)
    unfolding sum_gates
    sum_op h =
        of_two (sums helper own (pos (helper 1)) 2 2 none (word_a d) (word_b d)) (sum_of (2 ^ d) first second) h
        (λ t. wraps (first + second) (let r = sums_is helper own (pos (helper 1)) τ 2 2 none (word_a d) (word_b d) (2 ^ d) t lx ly h.1.1.1.1 in
        (r.0, r.1 ∙ ap (λ b. first + second + bit_of b) off ∙ add-zero (first + second))))
        (λ t. sums_off helper own (pos (helper 1)) τ 2 2 none (word_a d) (word_b d) (2 ^ d) t lx ly h.1.1.1.1)

    pub difference_op : Holds τ (difference_gates d) → GivesWord are_words (difference_of (2 ^ d) first second)
    unfolding difference_gates
    difference_op h =
        of_two (sums helper own (pos (helper 1)) 2 2 (pos wire_true) (word_a d) (map flip (word_b d))) (difference_of (2 ^ d) first second) h
        (λ t. wraps (first + (2 ^ (2 ^ d) - second)) (let r = sums_is helper own (pos (helper 1)) τ 2 2 (pos wire_true) (word_a d) (map flip (word_b d)) (2 ^ d) t lx lf h.1.1.1.1 in
        (r.0, r.1 ∙ ap (λ b. first + number τ (map flip (word_b d)) + bit_of b) o ∙ go first second (number τ (map flip (word_b d))) (2 ^ (2 ^ d)) (number_flip τ (word_b d) ∙ ap (λ n. 2 ^ n) ly))))
        (λ t. sums_off helper own (pos (helper 1)) τ 2 2 (pos wire_true) (word_a d) (map flip (word_b d)) (2 ^ d) t lx lf h.1.1.1.1)
      where
        go : (x y f p : ℕ) → f + y + 1 ≡ p → x + f + 1 ≡ x + (p - y)
        go x y f p e = omega arith

    pub product_op : Holds τ (product_gates d) → GivesWord are_words (product_of (2 ^ d) first second)
    unfolding product_gates
    product_op h =
        of_two (products helper own (pos (helper 1)) none 2 2 (word_a d) (word_b d)) (product_of (2 ^ d) first second) h
        (λ t. wraps (first * second) (products_is helper own (pos (helper 1)) τ none 2 2 (word_a d) (word_b d) (2 ^ d) t off lx ly h.1.1.1.1))
        (λ t. products_off helper own (pos (helper 1)) τ none 2 2 (word_a d) (word_b d) (2 ^ d) t lx ly h.1.1.1.1)

    pub less_op : Holds τ (less_gates d) → GivesTruth (are_words && ltb first second)
    unfolding less_gates
    less_op h =
        let s = carries helper 2 (pos wire_true) (word_a d) (map flip (word_b d)) in
        let last = gate and2 (own 2) (pos (helper 1)) (flip s.carry) (flip s.carry) ∷ [] in
        let l : literal_true τ (flip s.carry) ≡ ltb first second =
        flip_true τ s.carry ∙ less_is helper τ 2 (pos wire_true) (word_a d) (word_b d) o (lx ∙ sym ly) (holds_l τ s.gates last h.1.1.1.1) in
        record {
          kind = h.0;
          other = h.1.0;
          bits = (holds_r τ s.gates last h.1.1.1.1).0 ∙ (ap (λ b. τ (helper 1) && b) l ∙ ap (λ b. b && ltb first second) (guard_is (s.gates ++ last) h.1.1));
        }

    -- ---- one operand
    number_pad : (rs : List (Literal Wire)) (n : ℕ) → number τ (rs ++ pad n) ≡ number τ rs
    number_pad [] zero = refl
    number_pad [] (suc n) = rw (off, number_pad [] n)
    number_pad (r ∷ rs) n = rw (number_pad rs n)

    length_pad : (n : ℕ) → length (pad n) ≡ n
    length_pad zero = refl
    length_pad (suc n) = ap suc (length_pad n)

    length_counted : (rs : List (Literal Wire)) → length rs ≡ suc d → length (counted d rs) ≡ 2 ^ d
    length_counted rs e = length-append rs (pad (2 ^ d - suc d)) ∙ omega (arith, length_pad (2 ^ d - suc d), pow_big d)

    of_one : (gs : List (Gate Wire)) (rs : List (Literal Wire)) (n : ℕ) → length rs ≡ suc d → Holds τ (kinds true false (one_word (gs ++ masks helper own (pos (helper 0)) 2 (counted d rs))))
        → number τ rs ≡ n → GivesWord (τ (wire_a 0) && not (τ (wire_a 1))) n
    of_one gs rs n e h p =
        let m = masks_is helper own (pos (helper 0)) τ 2 (counted d rs) (2 ^ d) (length_counted rs e) (holds_r τ gs (masks helper own (pos (helper 0)) 2 (counted d rs)) h.1.1.1) in
        record { kind = h.0; other = h.1.0; bits = m ∙ (ap (λ k. bit_of (τ (helper 0)) * k) (number_pad rs (2 ^ d - suc d) ∙ p) ∙ ap (λ b. bit_of b * n) h.1.1.0) }

    pub ones_op : Holds τ (ones_gates d) → GivesWord (τ (wire_a 0) && not (τ (wire_a 1))) (ones_of first)
    unfolding ones_gates
    ones_op h =
        let t = tree helper none 1 d (word_a d) in
        of_one t.gates t.outs (ones_of first) (length_tree helper none 1 d (word_a d)) h
        (tree_all helper τ none 1 d (word_a d) lx off (holds_l τ t.gates (masks helper own (pos (helper 0)) 2 (counted d t.outs)) h.1.1.1) ∙ count_ones τ (word_a d))

    pub zeros_op : Holds τ (zeros_gates d) → GivesWord (τ (wire_a 0) && not (τ (wire_a 1))) (zeros_of (2 ^ d) first)
    unfolding zeros_gates
    zeros_op h =
        let f = flags helper (pos wire_true) 1 (word_a d) in
        let t = tree helper none f.next d f.outs in
        let m = masks helper own (pos (helper 0)) 2 (counted d t.outs) in
        let g1 = holds_l τ f.gates (t.gates ++ m) h.1.1.1 in
        let g2 = holds_r τ f.gates (t.gates ++ m) h.1.1.1 in
        let c : number τ t.outs ≡ zeros_of (2 ^ d) first =
        tree_all helper τ none f.next d f.outs (length_flags helper (pos wire_true) 1 (word_a d) ∙ lx) off (holds_l τ t.gates m g2)
        ∙ ((flags_is helper τ (pos wire_true) 1 (word_a d) o g1).1 ∙ ap (λ n. count_leading_zeros n first) lx) in
        let k = masks_is helper own (pos (helper 0)) τ 2 (counted d t.outs) (2 ^ d) (length_counted t.outs (length_tree helper none f.next d f.outs)) (holds_r τ t.gates m g2) in
        record { kind = h.0; other = h.1.0; bits = k ∙ (ap (λ j. bit_of (τ (helper 0)) * j) (number_pad t.outs (2 ^ d - suc d) ∙ c) ∙ ap (λ b. bit_of b * zeros_of (2 ^ d) first) h.1.1.0) }
