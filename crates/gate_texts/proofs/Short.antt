-- A clause of a gate takes few bytes: it has at most four literals, and their variables few digits. Assumes nothing.
use mathlib.Core.Path.{◌≡◌, refl, ap}
use mathlib.Core.Bool.{Bool, true, false, ◌&&◌}
use mathlib.Core.List.{List, [], ◌∷◌, map}
use Prim.Native.Nat.{ℕ, ◌+◌, ◌*◌, ◌^◌, ◌<◌, ◌≤◌}
use native.Mathlib.Omega.{arith}
use lib.ListN.{length, length-append}
use lib.Dec.{leb}
use borrow.Author.Tests.{leb-true}
use Rattle.text.specs.Text.{space, decimal_of}
use Rattle.text.proofs.Decimals.{decimal_short}
use Rattle.circuits.specs.Gates.{Literal, pos, neg, flip, wire, Function, copy, and2, or2, xor2, and3, and_or, and_xor, choose, majority, passing, Slot, +o, -o, +a, -a, +b, -b, +c, -c, rows, Gate, fix, gate, slot, clauses_of, clauses, over, onto}
use Rattle.circuits.specs.Templates.{Wire}
use Rattle.circuits.proofs.Gates.{and_l, and_r}
use Rattle.dimacs.specs.Text.{literal_text, clause_text, clauses_text}
use Rattle.dimacs.proofs.Texts.{clauses_append}
use Rattle.gate_texts.proofs.Texts.{tiny, all_tiny}

-- ---- a literal whose variable has at most thirteen digits
abbrev pub Brief : Literal ℕ → Type 0
Brief l = wire l < 10 ^ 13

brief_literal : (l : Literal ℕ) → Brief l → length (literal_text l) ≤ 15
unfolding literal_text
brief_literal (pos v) h = omega (arith, decimal_short 12 v h, length-append (decimal_of v) (space ∷ []))
brief_literal (neg v) h = omega (arith, decimal_short 12 v h, length-append (decimal_of v) (space ∷ []))

brief_flip : (l : Literal ℕ) → Brief l → Brief (flip l)
brief_flip (pos v) h = h
brief_flip (neg v) h = h

-- ---- a clause
module _ (o : ℕ) (a b c : Literal ℕ) (ho : o < 10 ^ 13) (ha : Brief a) (hb : Brief b) (hc : Brief c) where
  brief_slot : (s : Slot) → Brief (slot o a b c s)
  brief_slot +o = ho
  brief_slot -o = ho
  brief_slot +a = ha
  brief_slot -a = brief_flip a ha
  brief_slot +b = hb
  brief_slot -b = brief_flip b hb
  brief_slot +c = hc
  brief_slot -c = brief_flip c hc

  brief_row : (r : List Slot) → length (clause_text (map (slot o a b c) r)) ≤ 15 * length r + 2
  unfolding clause_text
  brief_row [] = omega arith
  brief_row (s ∷ r) =
      omega (arith, brief_row r, brief_literal (slot o a b c s) (brief_slot s), length-append (literal_text (slot o a b c s)) (clause_text (map (slot o a b c) r)))

  -- clauses of at most four literals
  abbrev at_most_four : List (List Slot) → Bool
  at_most_four [] = true
  at_most_four (r ∷ rs) = leb (length r) 4 && at_most_four rs

  brief_rows : (rs : List (List Slot)) → at_most_four rs ≡ true → length (clauses_text (map (map (slot o a b c)) rs)) ≤ 64 * length (map (map (slot o a b c)) rs)
  unfolding clauses_text
  brief_rows [] h = omega arith
  brief_rows (r ∷ rs) h =
      let l = leb-true (length r) 4 (and_l (leb (length r) 4) (at_most_four rs) h) in
      omega (arith, brief_row r, brief_rows rs (and_r (leb (length r) 4) (at_most_four rs) h), length-append (clause_text (map (slot o a b c) r)) (clauses_text (map (map (slot o a b c)) rs)))

  brief_function : (f : Function) → at_most_four (rows f) ≡ true
  brief_function copy = refl
  brief_function and2 = refl
  brief_function or2 = refl
  brief_function xor2 = refl
  brief_function and3 = refl
  brief_function and_or = refl
  brief_function and_xor = refl
  brief_function choose = refl
  brief_function majority = refl
  brief_function passing = refl

-- a clause of one literal
pub brief_unit : (l : Literal ℕ) → Brief l → length (clause_text (l ∷ [])) ≤ 64
unfolding clause_text
brief_unit l h = omega (arith, brief_literal l h, length-append (literal_text l) (clause_text []))

-- and of two
pub brief_two : (l m : Literal ℕ) → Brief l → Brief m → length (clause_text (l ∷ m ∷ [])) ≤ 64
unfolding clause_text
brief_two l m h k = omega (arith, brief_literal l h, brief_literal m k, length-append (literal_text l) (clause_text (m ∷ [])), length-append (literal_text m) (clause_text []))

-- ---- gates, over variables that are below that
module _ (f : Wire → ℕ) (below : (w : Wire) → tiny w ≡ true → f w < 10 ^ 13) where
  brief_over : (l : Literal Wire) → tiny (wire l) ≡ true → Brief (over f l)
  brief_over (pos w) h = below w h
  brief_over (neg w) h = below w h

  brief_fixed : (w : Wire) (v : Bool) → tiny w ≡ true → length (clauses_text (clauses_of (fix (f w) v))) ≤ 64
  unfolding clauses_text
  brief_fixed w true h = omega (arith, brief_unit (pos (f w)) (below w h), length-append (clause_text (pos (f w) ∷ [])) [])
  brief_fixed w false h = omega (arith, brief_unit (neg (f w)) (below w h), length-append (clause_text (neg (f w) ∷ [])) [])

  pub brief_gates : (gs : List (Gate Wire)) → all_tiny gs ≡ true → length (clauses_text (clauses (onto f gs))) ≤ 64 * length (clauses (onto f gs))
  unfolding all_tiny clauses_text
  brief_gates [] h = omega arith
  brief_gates (fix w v ∷ gs) h =
      let k = brief_gates gs (and_r (tiny w) (all_tiny gs) h) in
      let m = brief_fixed w v (and_l (tiny w) (all_tiny gs) h) in
      omega (
        arith,
        k,
        m,
        ap length (clauses_append (clauses_of (fix (f w) v)) (clauses (onto f gs))),
        length-append (clauses_text (clauses_of (fix (f w) v))) (clauses_text (clauses (onto f gs))),
        length-append (clauses_of (fix (f w) v)) (clauses (onto f gs)),
      )
  brief_gates (gate g w a b c ∷ gs) h =
      let rest = all_tiny gs in
      let h1 = and_r (tiny w) (tiny (wire a) && (tiny (wire b) && (tiny (wire c) && rest))) h in
      let h2 = and_r (tiny (wire a)) (tiny (wire b) && (tiny (wire c) && rest)) h1 in
      let h3 = and_r (tiny (wire b)) (tiny (wire c) && rest) h2 in
      let x = over f a in let y = over f b in let z = over f c in
      let hw = below w (and_l (tiny w) (tiny (wire a) && (tiny (wire b) && (tiny (wire c) && rest))) h) in
      let ha = brief_over a (and_l (tiny (wire a)) (tiny (wire b) && (tiny (wire c) && rest)) h1) in
      let hb = brief_over b (and_l (tiny (wire b)) (tiny (wire c) && rest) h2) in
      let hc = brief_over c (and_l (tiny (wire c)) rest h3) in
      let k = brief_gates gs (and_r (tiny (wire c)) rest h3) in
      let m = brief_rows (f w) x y z hw ha hb hc (rows g) (brief_function (f w) x y z hw ha hb hc g) in
      let d = clauses_of (gate g (f w) x y z) in
      omega (arith, k, m, ap length (clauses_append d (clauses (onto f gs))), length-append (clauses_text d) (clauses_text (clauses (onto f gs))), length-append d (clauses (onto f gs)))
