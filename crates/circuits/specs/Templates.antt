-- The gates of an operator of each code on words of 2 ^ d bits (document 02, Six: "Your tables in docs/ fix each term's clauses and helpers";
-- docs/CLAUSES.md draws them). Assumes nothing.
use Rattle.std.specs.Prelude.{Bool, true, false, List, [], ◌∷◌, ◌++◌, map, ℕ, zero, suc, ◌+◌, ◌-◌, ◌^◌}
use Rattle.notation.specs.Notation.{if◌equals◌then◌else◌}
use Rattle.circuits.specs.Gates.{Literal, pos, neg, flip, Gate, gate, fix, Function, copy, and2, and3, and_or, and_xor}
use Rattle.circuits.specs.Circuits.{carries, barrel, clear, shifted_up, shifted_down, tree, flags, same_bits, sums, pairs, masks, products}

-- ---- wires, as a term's gates see them: those of the terms that its a, b and c name, the truth of the term true, its helpers, and its own.
-- A term's wires are two for its kind, 0 and 1, and then its bits, lowest first.
pub data Wire : Type 0 where
  wire_a wire_b wire_c : ℕ → Wire
  wire_true : Wire
  helper : ℕ → Wire
  own : ℕ → Wire

-- n literals from number s on
abbrev pub literals : {W : Type 0} → (ℕ → W) → ℕ → ℕ → List (Literal W)
literals f s zero = []
literals f s (suc n) = pos (f s) ∷ literals f (suc s) n

-- the literal that is false
abbrev pub none : Literal Wire
none = neg wire_true

abbrev pub pad : ℕ → List (Literal Wire)
pad zero = []
pad (suc n) = none ∷ pad n

-- helpers 0 and 1 say that both operands are words
abbrev pub both_words : List (Gate Wire) → List (Gate Wire)
both_words gs = gate and3 (helper 0) (pos (wire_a 0)) (neg (wire_a 1)) (pos (wire_b 0)) ∷ gate and2 (helper 1) (pos (helper 0)) (neg (wire_b 1)) (neg (wire_b 1)) ∷ gs

-- helper 0 says that the operand is a word
abbrev pub one_word : List (Gate Wire) → List (Gate Wire)
one_word gs = gate and2 (helper 0) (pos (wire_a 0)) (neg (wire_a 1)) (neg (wire_a 1)) ∷ gs

-- the kinds: 00 truth, 10 word, 01 procedure, 11 binding
abbrev pub kinds : Bool → Bool → List (Gate Wire) → List (Gate Wire)
kinds a b gs = fix (own 0) a ∷ fix (own 1) b ∷ gs

module _ (d : ℕ) where
  abbrev pub word_a : List (Literal Wire)
  word_a = literals wire_a 2 (2 ^ d)

  abbrev pub word_b : List (Literal Wire)
  word_b = literals wire_b 2 (2 ^ d)

  -- a word of two words
  abbrev pub word2 : List (Gate Wire) → List (Gate Wire)
  word2 gs = kinds true false (both_words gs)

  unfoldable pub sum_gates : List (Gate Wire)
  sum_gates = word2 (sums helper own (pos (helper 1)) 2 2 none word_a word_b)

  unfoldable pub difference_gates : List (Gate Wire)
  difference_gates = word2 (sums helper own (pos (helper 1)) 2 2 (pos wire_true) word_a (map flip word_b))

  unfoldable pub product_gates : List (Gate Wire)
  product_gates = word2 (products helper own (pos (helper 1)) none 2 2 word_a word_b)

  unfoldable pub bitwise_gates : Function → List (Gate Wire)
  bitwise_gates f = word2 (pairs helper own (pos (helper 1)) f 2 word_a word_b)

  -- "shifts give zero once the amount reaches the width" (Five): where the amount's bits past the d lowest are clear, it is shifted by these
  unfoldable pub shift_gates : (Literal Wire → ℕ → List (Literal Wire) → List (Literal Wire)) → List (Gate Wire)
  shift_gates shifted =
      let c = clear helper 2 (pos (helper 1)) (literals wire_b (2 + d) (2 ^ d - d)) in
      let b = barrel helper shifted none c.next 1 word_a (literals wire_b 2 d) in
      word2 (c.gates ++ (b.gates ++ masks helper own c.carry 2 b.outs))

  -- the amount is the constant w: each bit is another one, or none
  unfoldable pub shift_by_gates : (Literal Wire → ℕ → List (Literal Wire) → List (Literal Wire)) → ℕ → List (Gate Wire)
  shift_by_gates shifted w = kinds true false (one_word (masks helper own (pos (helper 0)) 2 (shifted none w word_a)))

  -- a count of 2 ^ d bits takes d + 1
  abbrev pub counted : List (Literal Wire) → List (Literal Wire)
  counted rs = rs ++ pad (2 ^ d - suc d)

  unfoldable pub ones_gates : List (Gate Wire)
  ones_gates =
      let t = tree helper none 1 d word_a in
      kinds true false (one_word (t.gates ++ masks helper own (pos (helper 0)) 2 (counted t.outs)))

  unfoldable pub zeros_gates : List (Gate Wire)
  zeros_gates =
      let f = flags helper (pos wire_true) 1 word_a in
      let t = tree helper none f.next d f.outs in
      kinds true false (one_word (f.gates ++ (t.gates ++ masks helper own (pos (helper 0)) 2 (counted t.outs))))

  unfoldable pub less_gates : List (Gate Wire)
  less_gates =
      let s = carries helper 2 (pos wire_true) word_a (map flip word_b) in
      kinds false false (both_words (s.gates ++ (gate and2 (own 2) (pos (helper 1)) (flip s.carry) (flip s.carry) ∷ [])))

  unfoldable pub equal_gates : List (Gate Wire)
  equal_gates =
      let s = same_bits helper 2 (pos (helper 1)) word_a word_b in
      kinds false false (both_words (s.gates ++ (gate copy (own 2) s.carry s.carry s.carry ∷ [])))

  -- the codes 1 to 12
  unfoldable pub operator_gates : ℕ → List (Gate Wire)
  operator_gates op =
      if op equals 1 then sum_gates else
      if op equals 2 then difference_gates else
      if op equals 3 then product_gates else
      if op equals 4 then bitwise_gates and3 else
      if op equals 5 then bitwise_gates and_or else
      if op equals 6 then bitwise_gates and_xor else
      if op equals 7 then shift_gates shifted_up else
      if op equals 8 then shift_gates shifted_down else
      if op equals 9 then ones_gates else
      if op equals 10 then zeros_gates else
      if op equals 11 then less_gates else
      equal_gates
