-- The constant tables are what the definitions give: one computed test for all codes. Assumes nothing.
use mathlib.Core.Path.{◌≡◌, refl, sym, ap, ◌∙◌}
use mathlib.Core.Bool.{Bool, true, false, ◌&&◌}
use mathlib.Core.List.{List, [], ◌∷◌, map}
use Prim.Native.Nat.{ℕ, zero, suc, ◌+◌, ◌<◌, ◌≤◌}
use native.Mathlib.Omega.{arith}
use lib.ListN.{length, get_or, take, drop, get_or-eq_default}
use lib.Seq.{get_or-take, get_or-drop}
use lib.Dec.{eqb, ltb}
use borrow.Author.Tests.{eqb-true, eqb-false, ltb-true, ltb-false, ne_eqb, le-ltb}
use Rattle.notation.specs.Notation.{pick, if◌below◌then◌else◌, if◌equals◌then◌else◌}
use Rattle.semantics.specs.Numbers.{not_code, is_word_code, is_procedure_code, negation_code, conjunction_code, disjunction_code}
use Rattle.circuits.specs.Gates.{Gate, clauses}
use Rattle.circuits.specs.Circuits.{add_with, add, carries, ands, product, chosen, barrel, clear, shifted_up, shifted_down, tree, flags, same_bits, sums, pairs, masks, products}
use Rattle.circuits.specs.Templates.{Wire, sum_gates, difference_gates, product_gates, bitwise_gates, shift_gates, ones_gates, zeros_gates, less_gates, equal_gates, operator_gates}
use Rattle.clauses.specs.Clauses.{code_gates, helpers}
use Rattle.gate_tables.specs.Tables.{gate_starts, gate_counts, helper_counts, clause_counts}
use Rattle.gate_tables.specs.Packed.{packed, gate_table, row_of_code}
use Rattle.circuits.proofs.Gates.{never, and_l, and_r}

-- ---- as many numbers as gates
pub length_packed : (gs : List (Gate Wire)) → length (map packed gs) ≡ length gs
length_packed [] = refl
length_packed (g ∷ gs) = ap suc (length_packed gs)

-- ---- a test of every number below n
abbrev pub each : ℕ → (ℕ → Bool) → Bool
each zero f = true
each (suc n) f = f n && each n f

pub at_below : (f : ℕ → Bool) (n : ℕ) → each n f ≡ true → (i : ℕ) → i < n → f i ≡ true
at_below f zero h i l = absurd (omega arith)
at_below f (suc n) h i l = go (eqb i n) refl (λ k. at_below f n (and_r (f n) (each n f) h) i k)
  where
    go : (b : Bool) → eqb i n ≡ b → (i < n → f i ≡ true) → f i ≡ true
    go true e r = ap f (eqb-true i n e) ∙ and_l (f n) (each n f) h
    go false e r = r (omega (arith, eqb-false i n e))

same : List ℕ → List ℕ → Bool
same [] [] = true
same [] (y ∷ ys) = false
same (x ∷ xs) [] = false
same (x ∷ xs) (y ∷ ys) = eqb x y && same xs ys

same_is : (xs ys : List ℕ) → same xs ys ≡ true → xs ≡ ys
unfolding same
same_is [] [] h = refl
same_is [] (y ∷ ys) h = never h
same_is (x ∷ xs) [] h = never h
same_is (x ∷ xs) (y ∷ ys) h =
    let e = eqb-true x y (and_l (eqb x y) (same xs ys) h) in let f = same_is xs ys (and_r (eqb x y) (same xs ys) h) in cc

-- what the tables have for a code is what its gates are
right : ℕ → Bool
right op =
    eqb (get_or gate_counts op 0) (length (code_gates op))
    && (eqb (get_or helper_counts op 0) (helpers (code_gates op))
    && (ltb (get_or helper_counts op 0) 1024
    && (eqb (get_or clause_counts op 0) (length (clauses (code_gates op)))
    && same (take (get_or gate_counts op 0) (drop (get_or gate_starts op 0) gate_table)) (map packed (code_gates op)))))

-- every code's
all_right : each 36 right ≡ true
unfolding right same gate_table helpers code_gates operator_gates if◌equals◌then◌else◌ if◌below◌then◌else◌ sum_gates difference_gates product_gates bitwise_gates shift_gates ones_gates zeros_gates less_gates equal_gates add_with add carries ands product chosen barrel clear shifted_up shifted_down tree flags same_bits sums pairs masks products
all_right = refl

record Right (op row : ℕ) : Type 0 where
  counts : get_or gate_counts row 0 ≡ length (code_gates op)
  helps : get_or helper_counts row 0 ≡ helpers (code_gates op)
  few : get_or helper_counts row 0 < 1024
  clauses_are : get_or clause_counts row 0 ≡ length (clauses (code_gates op))
  gates : take (get_or gate_counts row 0) (drop (get_or gate_starts row 0) gate_table) ≡ map packed (code_gates op)

right_below : (op : ℕ) → op < 36 → Right op op
unfolding right
right_below op l =
    let h = at_below right 36 all_right op l in
    let a = eqb (get_or gate_counts op 0) (length (code_gates op)) in
    let b = eqb (get_or helper_counts op 0) (helpers (code_gates op)) in
    let f = ltb (get_or helper_counts op 0) 1024 in
    let c = eqb (get_or clause_counts op 0) (length (clauses (code_gates op))) in
    let d = same (take (get_or gate_counts op 0) (drop (get_or gate_starts op 0) gate_table)) (map packed (code_gates op)) in
    let h1 = and_r a (b && (f && (c && d))) h in
    let h2 = and_r b (f && (c && d)) h1 in
    let h3 = and_r f (c && d) h2 in
    record {
      counts = eqb-true _ _ (and_l a (b && (f && (c && d))) h);
      helps = eqb-true _ _ (and_l b (f && (c && d)) h1);
      few = ltb-true _ _ (and_l f (c && d) h2);
      clauses_are = eqb-true _ _ (and_l c d h3);
      gates = same_is _ _ (and_r c d h3);
    }

-- a code from 36 on has the last one's gates
pub last_code : (op : ℕ) → 36 ≤ op → code_gates op ≡ code_gates 35
unfolding code_gates if◌below◌then◌else◌ if◌equals◌then◌else◌
last_code op h =
    rw (le-ltb op not_code (omega arith), ne_eqb op is_word_code (λ e. omega arith), ne_eqb op is_procedure_code (λ e. omega arith), ne_eqb op negation_code (λ e. omega arith), ne_eqb op conjunction_code (λ e. omega arith), ne_eqb op disjunction_code (λ e. omega arith))

all_rows : (op : ℕ) → Right op (row_of_code op)
unfolding row_of_code if◌below◌then◌else◌
all_rows op = go (ltb op 36) refl
  where
    go : (b : Bool) → ltb op 36 ≡ b → Right op (pick b op 35)
    go true e = right_below op (ltb-true op 36 e)
    go false e =
        let q : code_gates op ≡ code_gates 35 = last_code op (omega (arith, ltb-false op 36 e)) in
        let r = right_below 35 (omega arith) in
        record { counts = r.counts ∙ ap length (sym q); helps = r.helps ∙ ap helpers (sym q); few = r.few; clauses_are = r.clauses_are ∙ ap (λ gs. length (clauses gs)) (sym q); gates = r.gates ∙ ap (map packed) (sym q) }

module _ (op : ℕ) where
  pub counted : {r : ℕ} → r ≡ row_of_code op → get_or gate_counts r 0 ≡ length (code_gates op)
  counted e = ap (λ k. get_or gate_counts k 0) e ∙ (all_rows op).counts

  pub helped : {r : ℕ} → r ≡ row_of_code op → (get_or helper_counts r 0 ≡ helpers (code_gates op)) × (get_or helper_counts r 0 < 1024)
  helped e = rw e ((all_rows op).helps, (all_rows op).few)

  pub claused : {r : ℕ} → r ≡ row_of_code op → get_or clause_counts r 0 ≡ length (clauses (code_gates op))
  claused e = ap (λ k. get_or clause_counts k 0) e ∙ (all_rows op).clauses_are

  pub code_gate : (s i n : ℕ) → n ≡ length (code_gates op) → i < n → s ≡ get_or gate_starts (row_of_code op) 0 → get_or gate_table (s + i) 0 ≡ get_or (map packed (code_gates op)) i 0
  code_gate s i n h l e =
      let r = all_rows op in
      let k : i < get_or gate_counts (row_of_code op) 0 = omega (arith, r.counts, h) in
      ap (λ j. get_or gate_table (j + i) 0) e ∙ (sym (get_or-drop (get_or gate_starts (row_of_code op) 0) gate_table i 0) ∙ (sym (get_or-take (get_or gate_counts (row_of_code op) 0) (drop (get_or gate_starts (row_of_code op) 0) gate_table) i 0 k) ∙ ap (λ gs. get_or gs i 0) r.gates))

  pub no_gate : (i n : ℕ) → n ≡ length (code_gates op) → n ≤ i → 0 ≡ get_or (map packed (code_gates op)) i 0
  no_gate i n h l = sym (get_or-eq_default (map packed (code_gates op)) 0 (rw (length_packed (code_gates op)) (omega (arith, h))))
