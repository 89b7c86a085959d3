-- The text that is made of packed gates is the text of their clauses. Assumes nothing.
use mathlib.Core.Path.{◌≡◌, refl, sym, ap, ap₂, ◌∙◌}
use mathlib.Core.Bool.{Bool, true, false, ◌&&◌}
use mathlib.Core.List.{List, [], ◌∷◌, ◌++◌, map, append_assoc}
use Prim.Native.Nat.{ℕ, zero, suc, ◌+◌, ◌-◌, ◌*◌, ◌/◌, ◌%◌, ◌<◌, ◌≤◌}
use native.Mathlib.Omega.{arith}
use native.Mathlib.Numerals.{add-one}
use lib.ListN.{length, get_or, take, drop}
use lib.Seq.{drop-cons}
use lib.Dec.{ltb}
use borrow.Author.Tests.{ltb-true}
use Rattle.notation.specs.Notation.{with, if◌equals◌then◌else◌}
use Rattle.text.specs.Text.{digit, line_feed}
use Rattle.circuits.specs.Gates.{Literal, pos, neg, flip, wire, Function, copy, and2, or2, xor2, and3, and_or, and_xor, choose, majority, passing, Slot, +o, -o, +a, -a, +b, -b, +c, -c, rows, Gate, fix, gate, slot, clauses_of, clauses, over, onto}
use Rattle.circuits.specs.Templates.{Wire, wire_a, wire_b, wire_c, wire_true, helper, own}
use Rattle.circuits.proofs.Gates.{and_l, and_r}
use Rattle.semantics.specs.declared.Term.{Term}
use Rattle.clauses.specs.Clauses.{variable}
use Rattle.gate_tables.specs.Tables.{slots, slot_starts}
use Rattle.gate_tables.specs.Packed.{wire_number, literal_number, function_number, packed}
use Rattle.dimacs.specs.Text.{literal_text, clause_text, clauses_text}
use Rattle.dimacs.proofs.Texts.{clauses_append}
use Rattle.gates.specs.declared.Places.{Places}
use Rattle.gates.specs.Slots.{owner_of, wire_variable, literal_of, flipped, as_literal, operand_of, slot_text, slots_text, gate_text, gates_text}

-- ---- wires that a number holds
abbrev pub tiny : Wire → Bool
tiny (wire_a i) = ltb i 2048
tiny (wire_b i) = ltb i 2048
tiny (wire_c i) = ltb i 2048
tiny wire_true = true
tiny (helper k) = ltb k 2048
tiny (own i) = ltb i 2048

unfoldable pub all_tiny : List (Gate Wire) → Bool
all_tiny [] = true
all_tiny (fix w v ∷ gs) = tiny w && all_tiny gs
all_tiny (gate f w a b c ∷ gs) = tiny w && (tiny (wire a) && (tiny (wire b) && (tiny (wire c) && all_tiny gs)))

tiny_lt : (l : Wire) → tiny l ≡ true → wire_number l < 16384
tiny_lt (wire_a i) e = let h = ltb-true i 2048 e in omega arith
tiny_lt (wire_b i) e = let h = ltb-true i 2048 e in omega arith
tiny_lt (wire_c i) e = let h = ltb-true i 2048 e in omega arith
tiny_lt wire_true e = omega arith
tiny_lt (helper k) e = let h = ltb-true k 2048 e in omega arith
tiny_lt (own i) e = let h = ltb-true i 2048 e in omega arith

literal_lt : (l : Literal Wire) → tiny (wire l) ≡ true → literal_number l < 32768
literal_lt (pos w) e = let h = tiny_lt w e in omega arith
literal_lt (neg w) e = let h = tiny_lt w e in omega arith

function_lt : (f : Function) → function_number f < 16
function_lt copy = omega arith
function_lt and2 = omega arith
function_lt or2 = omega arith
function_lt xor2 = omega arith
function_lt and3 = omega arith
function_lt and_or = omega arith
function_lt and_xor = omega arith
function_lt choose = omega arith
function_lt majority = omega arith
function_lt passing = omega arith

-- ---- literals as numbers
as_pos : (v : ℕ) → as_literal (2 * v + 0) ≡ pos v
unfolding as_literal if◌equals◌then◌else◌
as_pos v = let p : (2 * v + 0) % 2 ≡ 0 = omega arith in let q : (2 * v + 0) / 2 ≡ v = omega arith in rw (p, q)

as_neg : (v : ℕ) → as_literal (2 * v + 1) ≡ neg v
unfolding as_literal if◌equals◌then◌else◌
as_neg v = let p : (2 * v + 1) % 2 ≡ 1 = omega arith in let q : (2 * v + 1) / 2 ≡ v = omega arith in rw (p, q)

flip_pos : (v : ℕ) → as_literal (flipped (2 * v + 0)) ≡ neg v
unfolding flipped if◌equals◌then◌else◌
flip_pos v = let p : (2 * v + 0) % 2 ≡ 0 = omega arith in let q : 2 * v + 0 + 1 ≡ 2 * v + 1 = omega arith in rw (p, q) (as_neg v)

flip_neg : (v : ℕ) → as_literal (flipped (2 * v + 1)) ≡ pos v
unfolding flipped if◌equals◌then◌else◌
flip_neg v = let p : (2 * v + 1) % 2 ≡ 1 = omega arith in let q : 2 * v + 1 - 1 ≡ 2 * v + 0 = omega arith in rw (p, q) (as_pos v)

module _ (p : Places) (t : Term) (ea : p.a ≡ t.a) (eb : p.b ≡ t.b) (ec : p.c ≡ t.c) where
  abbrev var : Wire → ℕ
  var = variable p.helpers p.own t

  wire_is : (l : Wire) → tiny l ≡ true → wire_variable p (wire_number l) ≡ var l
  unfolding wire_variable owner_of with if◌equals◌then◌else◌
  wire_is (wire_a i) e = let h = ltb-true i 2048 e in let d : (4096 + i) / 2048 ≡ 2 = omega arith in let m : (4096 + i) % 2048 ≡ i = omega arith in rw (d, m, ea)
  wire_is (wire_b i) e = let h = ltb-true i 2048 e in let d : (6144 + i) / 2048 ≡ 3 = omega arith in let m : (6144 + i) % 2048 ≡ i = omega arith in rw (d, m, eb)
  wire_is (wire_c i) e = let h = ltb-true i 2048 e in let d : (8192 + i) / 2048 ≡ 4 = omega arith in let m : (8192 + i) % 2048 ≡ i = omega arith in rw (d, m, ec)
  wire_is wire_true e = refl
  wire_is (helper k) e = let h = ltb-true k 2048 e in let d : k / 2048 ≡ 0 = omega arith in let m : k % 2048 ≡ k = omega arith in rw (d, m)
  wire_is (own i) e = let h = ltb-true i 2048 e in let d : (2048 + i) / 2048 ≡ 1 = omega arith in let m : (2048 + i) % 2048 ≡ i = omega arith in rw (d, m)

  -- a literal's number, over variables
  number_pos : (w : Wire) → tiny w ≡ true → literal_of p (2 * wire_number w) ≡ 2 * var w + 0
  unfolding literal_of with
  number_pos w e = let d : 2 * wire_number w / 2 ≡ wire_number w = omega arith in let m : 2 * wire_number w % 2 ≡ 0 = omega arith in rw (d, m, wire_is w e)

  number_neg : (w : Wire) → tiny w ≡ true → literal_of p (2 * wire_number w + 1) ≡ 2 * var w + 1
  unfolding literal_of with
  number_neg w e = let d : (2 * wire_number w + 1) / 2 ≡ wire_number w = omega arith in let m : (2 * wire_number w + 1) % 2 ≡ 1 = omega arith in rw (d, m, wire_is w e)

  literal_is : (l : Literal Wire) → tiny (wire l) ≡ true → as_literal (literal_of p (literal_number l)) ≡ over var l
  literal_is (pos w) e = ap as_literal (number_pos w e) ∙ as_pos (var w)
  literal_is (neg w) e = ap as_literal (number_neg w e) ∙ as_neg (var w)

  flipped_is : (l : Literal Wire) → tiny (wire l) ≡ true → as_literal (flipped (literal_of p (literal_number l))) ≡ flip (over var l)
  flipped_is (pos w) e = ap (λ n. as_literal (flipped n)) (number_pos w e) ∙ flip_pos (var w)
  flipped_is (neg w) e = ap (λ n. as_literal (flipped n)) (number_neg w e) ∙ flip_neg (var w)

-- ---- a packed gate, taken apart
module _ (f w a b c : ℕ) (lf : f < 16) (lw : w < 16384) (la : a < 32768) (lb : b < 32768) where
  abbrev whole : ℕ
  whole = f + 16 * (w + 16384 * (a + 32768 * (b + 32768 * c)))

  take_function : whole % 16 ≡ f
  take_function = omega arith

  take_wire : whole / 16 % 16384 ≡ w
  take_wire = omega arith

  take_first : whole / 262144 % 32768 ≡ a
  take_first = omega arith

  take_second : whole / 8589934592 % 32768 ≡ b
  take_second = omega arith

  take_third : whole / 281474976710656 ≡ c
  take_third = omega arith

-- ---- a text of slots
abbrev slot_code : Slot → ℕ
slot_code +o = 0
slot_code -o = 1
slot_code +a = 2
slot_code -a = 3
slot_code +b = 4
slot_code -b = 5
slot_code +c = 6
slot_code -c = 7

abbrev codes : List (List Slot) → List ℕ
codes [] = []
codes (r ∷ rs) = map slot_code r ++ (8 ∷ codes rs)

abbrev joined : (ℕ → List ℕ) → List ℕ → List ℕ
joined f [] = []
joined f (s ∷ ss) = f s ++ joined f ss

joined_append : (f : ℕ → List ℕ) (xs ys : List ℕ) → joined f (xs ++ ys) ≡ joined f xs ++ joined f ys
joined_append f [] ys = refl
joined_append f (x ∷ xs) ys = rw (joined_append f xs ys) (sym (append_assoc (f x) (joined f xs) (joined f ys)))

module _ (f : ℕ → List ℕ) (end : f 8 ≡ digit 0 ∷ line_feed ∷ []) (o : ℕ) (a b c : Literal ℕ) (is : (s : Slot) → f (slot_code s) ≡ literal_text (slot o a b c s)) where
  row_text : (r : List Slot) → joined f (map slot_code r) ++ f 8 ≡ clause_text (map (slot o a b c) r)
  unfolding clause_text
  row_text [] = end
  row_text (s ∷ r) = append_assoc (f (slot_code s)) (joined f (map slot_code r)) (f 8) ∙ rw (is s, row_text r)

  rows_text : (rs : List (List Slot)) → joined f (codes rs) ≡ clauses_text (map (map (slot o a b c)) rs)
  unfolding clauses_text
  rows_text [] = refl
  rows_text (r ∷ rs) =
      joined_append f (map slot_code r) (8 ∷ codes rs) ∙ (sym (append_assoc (joined f (map slot_code r)) (f 8) (joined f (codes rs))) ∙ ap₂ ◌++◌ (row_text r) (rows_text rs))

slots_joined : (p : Places) (g i n : ℕ) → i + n ≤ length slots → slots_text p g i n ≡ joined (slot_text p g) (take n (drop i slots))
unfolding slots_text
slots_joined p g i zero h = refl
slots_joined p g i (suc n) h =
    let l : i < length slots = omega arith in
    rw (drop-cons slots i 0 l) (ap (λ x. slot_text p g (get_or slots i 0) ++ x) (slots_joined p g (i + 1) n (omega arith) ∙ ap (λ k. joined (slot_text p g) (take n (drop k slots))) (add-one i)))

-- the slots of each function are its rows
function_slots : (f : Function) → take (get_or slot_starts (function_number f + 1) 0 - get_or slot_starts (function_number f) 0) (drop (get_or slot_starts (function_number f) 0) slots) ≡ codes (rows f)
function_slots copy = refl
function_slots and2 = refl
function_slots or2 = refl
function_slots xor2 = refl
function_slots and3 = refl
function_slots and_or = refl
function_slots and_xor = refl
function_slots choose = refl
function_slots majority = refl
function_slots passing = refl

slots_fit : (f : Function) → get_or slot_starts (function_number f) 0 + (get_or slot_starts (function_number f + 1) 0 - get_or slot_starts (function_number f) 0) ≤ length slots
slots_fit copy = omega arith
slots_fit and2 = omega arith
slots_fit or2 = omega arith
slots_fit xor2 = omega arith
slots_fit and3 = omega arith
slots_fit and_or = omega arith
slots_fit and_xor = omega arith
slots_fit choose = omega arith
slots_fit majority = omega arith
slots_fit passing = omega arith

module _ (p : Places) (t : Term) (ea : p.a ≡ t.a) (eb : p.b ≡ t.b) (ec : p.c ≡ t.c) where
  -- ---- a gate of a function
  module _ (f : Function) (w : Wire) (a b c : Literal Wire) (tw : tiny w ≡ true) (ta : tiny (wire a) ≡ true) (tb : tiny (wire b) ≡ true) (tc : tiny (wire c) ≡ true) where
    abbrev g : ℕ
    g = packed (gate f w a b c)

    operand_wire : operand_of p g 0 ≡ literal_of p (2 * wire_number w)
    unfolding operand_of if◌equals◌then◌else◌
    operand_wire = rw (take_wire (function_number f) (wire_number w) (literal_number a) (literal_number b) (literal_number c) (function_lt f) (tiny_lt w tw) (literal_lt a ta) (literal_lt b tb))

    operand_first : operand_of p g 1 ≡ literal_of p (literal_number a)
    unfolding operand_of if◌equals◌then◌else◌
    operand_first = rw (take_first (function_number f) (wire_number w) (literal_number a) (literal_number b) (literal_number c) (function_lt f) (tiny_lt w tw) (literal_lt a ta) (literal_lt b tb))

    operand_second : operand_of p g 2 ≡ literal_of p (literal_number b)
    unfolding operand_of if◌equals◌then◌else◌
    operand_second = rw (take_second (function_number f) (wire_number w) (literal_number a) (literal_number b) (literal_number c) (function_lt f) (tiny_lt w tw) (literal_lt a ta) (literal_lt b tb))

    operand_third : operand_of p g 3 ≡ literal_of p (literal_number c)
    unfolding operand_of if◌equals◌then◌else◌
    operand_third = rw (take_third (function_number f) (wire_number w) (literal_number a) (literal_number b) (literal_number c) (function_lt f) (tiny_lt w tw) (literal_lt a ta) (literal_lt b tb))

    slot_is : (s : Slot) → slot_text p g (slot_code s) ≡ literal_text (slot (var p t ea eb ec w) (over (var p t ea eb ec) a) (over (var p t ea eb ec) b) (over (var p t ea eb ec) c) s)
    unfolding slot_text with if◌equals◌then◌else◌
    slot_is +o = ap literal_text (ap as_literal operand_wire ∙ literal_is p t ea eb ec (pos w) tw)
    slot_is -o = ap literal_text (ap (λ n. as_literal (flipped n)) operand_wire ∙ flipped_is p t ea eb ec (pos w) tw)
    slot_is +a = ap literal_text (ap as_literal operand_first ∙ literal_is p t ea eb ec a ta)
    slot_is -a = ap literal_text (ap (λ n. as_literal (flipped n)) operand_first ∙ flipped_is p t ea eb ec a ta)
    slot_is +b = ap literal_text (ap as_literal operand_second ∙ literal_is p t ea eb ec b tb)
    slot_is -b = ap literal_text (ap (λ n. as_literal (flipped n)) operand_second ∙ flipped_is p t ea eb ec b tb)
    slot_is +c = ap literal_text (ap as_literal operand_third ∙ literal_is p t ea eb ec c tc)
    slot_is -c = ap literal_text (ap (λ n. as_literal (flipped n)) operand_third ∙ flipped_is p t ea eb ec c tc)

    end_is : slot_text p g 8 ≡ digit 0 ∷ line_feed ∷ []
    unfolding slot_text if◌equals◌then◌else◌
    end_is = refl

    function_text : gate_text p g ≡ clauses_text (map (map (slot (var p t ea eb ec w) (over (var p t ea eb ec) a) (over (var p t ea eb ec) b) (over (var p t ea eb ec) c))) (rows f))
    unfolding gate_text
    function_text =
        let e = take_function (function_number f) (wire_number w) (literal_number a) (literal_number b) (literal_number c) (function_lt f) (tiny_lt w tw) (literal_lt a ta) (literal_lt b tb) in
        ap (λ k. slots_text p g (get_or slot_starts k 0) (get_or slot_starts (k + 1) 0 - get_or slot_starts k 0)) e
        ∙ (slots_joined p g (get_or slot_starts (function_number f) 0) (get_or slot_starts (function_number f + 1) 0 - get_or slot_starts (function_number f) 0) (slots_fit f)
        ∙ (ap (joined (slot_text p g)) (function_slots f) ∙ rows_text (slot_text p g) end_is (var p t ea eb ec w) (over (var p t ea eb ec) a) (over (var p t ea eb ec) b) (over (var p t ea eb ec) c) slot_is (rows f)))

  -- ---- a fixed wire
  module _ (w : Wire) (tw : tiny w ≡ true) where
    fixed_operand : (v : ℕ) → v < 2 → operand_of p (v + 16 * wire_number w) 0 ≡ literal_of p (2 * wire_number w)
    unfolding operand_of if◌equals◌then◌else◌
    fixed_operand v l = let h = tiny_lt w tw in let e : (v + 16 * wire_number w) / 16 % 16384 ≡ wire_number w = omega arith in rw e

    fixed_number : (v : ℕ) → v < 2 → (v + 16 * wire_number w) % 16 ≡ v
    fixed_number v l = omega arith

    fixed_text : (v : Bool) → gate_text p (packed (fix w v)) ≡ clauses_text (clauses_of (fix (var p t ea eb ec w) v))
    unfolding gate_text slots_text slot_text clauses_text clause_text with if◌equals◌then◌else◌
    fixed_text true =
        rw (fixed_number 1 (omega arith), ap as_literal (fixed_operand 1 (omega arith)) ∙ literal_is p t ea eb ec (pos w) tw) (sym (append_assoc (literal_text (pos (var p t ea eb ec w))) (digit 0 ∷ line_feed ∷ []) []))
    fixed_text false =
        rw (fixed_number 0 (omega arith), ap (λ n. as_literal (flipped n)) (fixed_operand 0 (omega arith)) ∙ flipped_is p t ea eb ec (pos w) tw) (sym (append_assoc (literal_text (neg (var p t ea eb ec w))) (digit 0 ∷ line_feed ∷ []) []))

  -- ---- gates in turn
  pub gates_text_lem : (gs : List (Gate Wire)) → all_tiny gs ≡ true → gates_text p (map packed gs) ≡ clauses_text (clauses (onto (var p t ea eb ec) gs))
  unfolding gates_text all_tiny clauses_text
  gates_text_lem [] h = refl
  gates_text_lem (fix w v ∷ gs) h =
      ap₂ ◌++◌ (fixed_text w (and_l (tiny w) (all_tiny gs) h) v) (gates_text_lem gs (and_r (tiny w) (all_tiny gs) h))
      ∙ sym (clauses_append (clauses_of (fix (var p t ea eb ec w) v)) (clauses (onto (var p t ea eb ec) gs)))
  gates_text_lem (gate f w a b c ∷ gs) h =
      let rest = all_tiny gs in
      let h1 = and_r (tiny w) (tiny (wire a) && (tiny (wire b) && (tiny (wire c) && rest))) h in
      let h2 = and_r (tiny (wire a)) (tiny (wire b) && (tiny (wire c) && rest)) h1 in
      let h3 = and_r (tiny (wire b)) (tiny (wire c) && rest) h2 in
      ap₂ ◌++◌ (function_text f w a b c (and_l (tiny w) (tiny (wire a) && (tiny (wire b) && (tiny (wire c) && rest))) h) (and_l (tiny (wire a)) (tiny (wire b) && (tiny (wire c) && rest)) h1) (and_l (tiny (wire b)) (tiny (wire c) && rest) h2) (and_l (tiny (wire c)) rest h3))
      (gates_text_lem gs (and_r (tiny (wire c)) rest h3))
      ∙ sym (clauses_append (clauses_of (gate f (var p t ea eb ec w) (over (var p t ea eb ec) a) (over (var p t ea eb ec) b) (over (var p t ea eb ec) c))) (clauses (onto (var p t ea eb ec) gs)))
