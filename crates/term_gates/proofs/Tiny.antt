-- Every wire of a term's gates is one that a packed gate holds, so that the text of the packed gates is that of the term's clauses. Assumes nothing.
use mathlib.Core.Path.{◌≡◌, refl, ap, ◌∙◌}
use mathlib.Core.Bool.{Bool, true, false}
use mathlib.Core.List.{List, [], ◌∷◌, map}
use Prim.Native.Nat.{ℕ, zero, suc, ◌+◌, ◌-◌, ◌≤◌}
use native.Mathlib.Omega.{arith}
use lib.ListN.{length}
use lib.Dec.{eqb, ltb}
use borrow.Author.Tests.{ltb-true, ltb-false, lt-ltb}
use Rattle.notation.specs.Notation.{pick, if◌equals◌then◌else◌, if◌below◌then◌else◌}
use Rattle.words.specs.Words.{width}
use Rattle.circuits.specs.Gates.{Literal, pos, wire}
use Rattle.circuits.specs.Circuits.{add_with, add, carries, ands, product, chosen, barrel, clear, shifted_up, shifted_down, tree, flags, same_bits, sums, pairs, masks, products}
use Rattle.circuits.specs.Templates.{Wire, wire_a, helper, own, literals, none, kinds, word_a, sum_gates, difference_gates, product_gates, bitwise_gates, shift_gates, shift_by_gates, ones_gates, zeros_gates, less_gates, equal_gates, operator_gates}
use Rattle.circuits.proofs.Shifts.{length_ups, length_downs, Each, each_up, each_downs}
use Rattle.semantics.specs.declared.Term.{Term}
use Rattle.semantics.specs.Numbers.{truth_term, word_term, free_truth_term, free_word_term, operator_term, choice_term, procedure_term, left_code, right_code}
use Rattle.semantics.specs.Terms.{term_word}
use Rattle.clauses.specs.Clauses.{levels, owned, digits, choices, code_gates, operation_gates, term_gates, term_clauses}
use Rattle.gate_tables.specs.Packed.{packed}
use Rattle.gate_tables.proofs.Right.{each, at_below, last_code}
use Rattle.dimacs.specs.Text.{clauses_text}
use Rattle.gates.specs.declared.Places.{Places}
use Rattle.gates.specs.Slots.{gates_text}
use Rattle.gate_texts.proofs.Texts.{tiny, all_tiny, gates_text_lem}

-- ---- the codes
codes_tiny : each 36 (λ op. all_tiny (code_gates op)) ≡ true
unfolding all_tiny code_gates operator_gates if◌equals◌then◌else◌ if◌below◌then◌else◌ sum_gates difference_gates product_gates bitwise_gates shift_gates ones_gates zeros_gates less_gates equal_gates add_with add carries ands product chosen barrel clear shifted_up shifted_down tree flags same_bits sums pairs masks products
codes_tiny = refl

code_tiny : (op : ℕ) → all_tiny (code_gates op) ≡ true
code_tiny op = go (ltb op 36) refl
  where
    go : (b : Bool) → ltb op 36 ≡ b → all_tiny (code_gates op) ≡ true
    go true e = at_below (λ k. all_tiny (code_gates k)) 36 codes_tiny op (ltb-true op 36 e)
    go false e = ap all_tiny (last_code op (omega (arith, ltb-false op 36 e))) ∙ at_below (λ k. all_tiny (code_gates k)) 36 codes_tiny 35 (omega arith)

-- ---- a shift by a constant
abbrev Small : Literal Wire → Type 0
Small l = tiny (wire l) ≡ true

masks_tiny : (s : ℕ) (ls : List (Literal Wire)) → Each Small ls → s + length ls ≤ 2048 → all_tiny (masks helper own (pos (helper 0)) s ls) ≡ true
unfolding all_tiny masks
masks_tiny s [] h l = refl
masks_tiny s (m ∷ ls) h l = rw (lt-ltb s 2048 (omega arith), h.0) (masks_tiny (suc s) ls h.1 (omega arith))

literals_small : (s n : ℕ) → s + n ≤ 2048 → Each Small (literals wire_a s n)
literals_small s zero l = tt
literals_small s (suc n) l = (lt-ltb s 2048 (omega arith), literals_small (suc s) n (omega arith))

word_small : Each Small (word_a levels)
word_small = literals_small 2 width (omega arith)

left_tiny : (w : ℕ) → all_tiny (shift_by_gates levels shifted_up w) ≡ true
unfolding shift_by_gates all_tiny
left_tiny w = masks_tiny 2 (shifted_up none w (word_a levels)) (each_up Small none refl w (word_a levels) word_small) (rw (length_ups none w (word_a levels)) (omega arith))

right_tiny : (w : ℕ) → all_tiny (shift_by_gates levels shifted_down w) ≡ true
unfolding shift_by_gates all_tiny
right_tiny w = masks_tiny 2 (shifted_down none w (word_a levels)) (each_downs Small none refl w (word_a levels) word_small) (rw (length_downs none w (word_a levels)) (omega arith))

operation_tiny : (op : ℕ) (u : Term) → all_tiny (operation_gates op u) ≡ true
unfolding operation_gates if◌equals◌then◌else◌
operation_tiny op u = go (eqb u.kind word_term) (eqb op left_code) (eqb op right_code)
  where
    go : (a b c : Bool) → all_tiny (pick a (pick b (shift_by_gates levels shifted_up (term_word u)) (pick c (shift_by_gates levels shifted_down (term_word u)) (code_gates op))) (code_gates op)) ≡ true
    go true true c = left_tiny (term_word u)
    go true false true = right_tiny (term_word u)
    go true false false = code_tiny op
    go false b c = code_tiny op

-- ---- a term
pub term_tiny : (t u : Term) → all_tiny (term_gates t u) ≡ true
unfolding term_gates all_tiny digits choices if◌equals◌then◌else◌
term_tiny t u = go (eqb t.kind truth_term) (eqb t.kind word_term) (eqb t.kind free_truth_term) (eqb t.kind free_word_term) (eqb t.kind operator_term) (eqb t.kind choice_term) (eqb t.kind procedure_term)
  where
    go : (a b c d g h k : Bool)
        → all_tiny (pick a (kinds false false (digits 2 width t.a)) (pick b (kinds true false (digits 2 width (term_word t))) (pick c (kinds false false (digits 3 (width - 1) 0)) (pick d (kinds true false [])
        (pick g (operation_gates t.op u) (pick h (choices 0 owned) (pick k (kinds false true (digits 2 width t.a)) (kinds true true [])))))))) ≡ true
    go true b c d g h k = refl
    go false true c d g h k = refl
    go false false true d g h k = refl
    go false false false true g h k = refl
    go false false false false true h k = operation_tiny t.op u
    go false false false false false true k = refl
    go false false false false false false true = refl
    go false false false false false false false = refl

abbrev pub places_of : ℕ → ℕ → Term → Places
places_of h n t = record { helpers = h; own = n; a = t.a; b = t.b; c = t.c }

-- The text of a term's packed gates is that of its clauses.
pub term_text : (h n : ℕ) (t u : Term) → gates_text (places_of h n t) (map packed (term_gates t u)) ≡ clauses_text (term_clauses h n t u)
unfolding term_clauses
term_text h n t u = gates_text_lem (places_of h n t) t refl refl refl (term_gates t u) (term_tiny t u)
