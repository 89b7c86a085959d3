-- An operator's gates say what the operator term reads as, of what the terms that it names hold. Assumes nothing.
use mathlib.Core.Path.{◌≡◌, refl, sym, ap, ◌∙◌, subst}
use mathlib.Core.Bool.{Bool, true, false, not, ◌&&◌}
use mathlib.Core.List.{List}
use Prim.Native.Nat.{ℕ, zero, suc, ◌*◌, ◌<◌}
use native.Mathlib.Omega.{arith}
use native.Mathlib.Nat.{one-mul, zero-mul}
use lib.Dec.{eqb, ltb}
use borrow.Author.Tests.{eqb-true, eqb-false, ltb-true, lt-ltb}
use Rattle.notation.specs.Notation.{pick, with, when◌then◌else◌, if◌equals◌then◌else◌, if◌below◌then◌else◌}
use Rattle.words.specs.Words.{width, sum_of, difference_of, product_of, and_of, or_of, xor_of, left_of, right_of, ones_of, zeros_of}
use Rattle.operators.specs.Operators.{row_of, operands_of, gives_truth_of, bit_of, operate_of}
use Rattle.semantics.specs.declared.Term.{Term}
use Rattle.semantics.specs.declared.Reading.{Reading}
use Rattle.semantics.specs.Numbers.{truth_term, word_term, left_code, right_code, not_code, is_word_code, is_procedure_code, negation_code, conjunction_code, disjunction_code, truth_code}
use Rattle.semantics.specs.Terms.{term_word, names_truth, operands_laid_out}
use Rattle.semantics.specs.Reading.{reading_of, truth_reading, is_true, is_truth, is_word, result_reading, operands_are_words, operation_reading, operator_reading}
use Rattle.circuits.specs.Gates.{Literal, pos, neg, literal_true, Function, copy, and2, or2, passing, value_of}
use Rattle.circuits.specs.Circuits.{shifted_up, shifted_down}
use Rattle.circuits.specs.Templates.{Wire, wire_a, wire_b, wire_c, wire_true, own, shift_by_gates, operator_gates}
use Rattle.circuits.proofs.Gates.{Holds}
use Rattle.circuits.proofs.Operators.{first, second, are_words, GivesWord, GivesTruth, sum_op, difference_op, product_op, and_op, or_op, xor_op, ones_op, zeros_op, less_op, equal_op}
use Rattle.circuits.proofs.Amounts.{left_op, right_op, left_by, right_by}
use Rattle.typing.proofs.Formed.{never, both, by_test}
use Rattle.clauses.specs.Clauses.{levels, truth_gate, code_gates, operation_gates}
use Rattle.models.proofs.Held.{word_of, number_word, shape, held, held_as, held_word, held_procedure, held_passes, held_truth, truth_held}

-- ---- the terms that are named, and the term itself
module _ (τ : Wire → Bool) where
  abbrev pub X : Reading
  X = held (λ i. τ (wire_a i))

  abbrev pub Y : Reading
  Y = held (λ i. τ (wire_b i))

  abbrev pub Z : Reading
  Z = held (λ i. τ (wire_c i))

  abbrev pub O : Reading
  O = held (λ i. τ (own i))

  -- words of two words
  of_words : (F : ℕ → ℕ → ℕ) → GivesWord levels τ (are_words levels τ) (F (first levels τ) (second levels τ))
      → O ≡ pick (pick (is_word X) (is_word Y) false) (reading_of word_term (F X.number Y.number)) (reading_of word_term 0)
  unfolding is_word
  of_words F h =
      held_as (λ i. τ (own i)) h.kind h.other
      ∙ (ap (reading_of word_term) (sym (number_word τ own 2 width) ∙ h.bits)
      ∙ rw (number_word τ wire_a 2 width, number_word τ wire_b 2 width) (go (τ (wire_a 0)) (τ (wire_a 1)) (τ (wire_b 0)) (τ (wire_b 1)) (word_of (λ i. τ (wire_a i)) 2 width) (word_of (λ i. τ (wire_b i)) 2 width) (τ (wire_a 2)) (τ (wire_b 2))))
    where
      go : (a b c d : Bool) (n m : ℕ) (e f : Bool) → reading_of word_term (bit_of ((a && not b) && (c && not d)) * F n m)
          ≡ pick (pick (eqb (shape a b n e).sort word_term) (eqb (shape c d m f).sort word_term) false) (reading_of word_term (F (shape a b n e).number (shape c d m f).number)) (reading_of word_term 0)
      go true true c d n m e f = ap (reading_of word_term) (zero-mul (F n m))
      go false true c d n m e f = ap (reading_of word_term) (zero-mul (F n m))
      go false false c d n m e f = ap (reading_of word_term) (zero-mul (F n m))
      go true false true true n m e f = ap (reading_of word_term) (zero-mul (F n m))
      go true false true false n m e f = ap (reading_of word_term) (one-mul (F n m))
      go true false false true n m e f = ap (reading_of word_term) (zero-mul (F n m))
      go true false false false n m e f = ap (reading_of word_term) (zero-mul (F n m))

  -- truths of two words
  of_tests : (F : ℕ → ℕ → Bool) → GivesTruth levels τ (are_words levels τ && F (first levels τ) (second levels τ))
      → O ≡ pick (pick (is_word X) (is_word Y) false) (reading_of truth_term (bit_of (F X.number Y.number))) (reading_of truth_term 0)
  unfolding is_word
  of_tests F h =
      held_as (λ i. τ (own i)) h.kind h.other
      ∙ (ap truth_reading h.bits
      ∙ rw (number_word τ wire_a 2 width, number_word τ wire_b 2 width) (go (τ (wire_a 0)) (τ (wire_a 1)) (τ (wire_b 0)) (τ (wire_b 1)) (word_of (λ i. τ (wire_a i)) 2 width) (word_of (λ i. τ (wire_b i)) 2 width) (τ (wire_a 2)) (τ (wire_b 2))))
    where
      go : (a b c d : Bool) (n m : ℕ) (e f : Bool) → truth_reading (((a && not b) && (c && not d)) && F n m)
          ≡ pick (pick (eqb (shape a b n e).sort word_term) (eqb (shape c d m f).sort word_term) false) (reading_of truth_term (bit_of (F (shape a b n e).number (shape c d m f).number))) (reading_of truth_term 0)
      go true true c d n m e f = refl
      go false true c d n m e f = refl
      go false false c d n m e f = refl
      go true false true true n m e f = refl
      go true false true false n m e f = refl
      go true false false true n m e f = refl
      go true false false false n m e f = refl

  -- words of one word
  of_word : (F : ℕ → ℕ) → GivesWord levels τ (τ (wire_a 0) && not (τ (wire_a 1))) (F (first levels τ))
      → O ≡ pick (pick (is_word X) true false) (reading_of word_term (F X.number)) (reading_of word_term 0)
  unfolding is_word
  of_word F h =
      held_as (λ i. τ (own i)) h.kind h.other
      ∙ (ap (reading_of word_term) (sym (number_word τ own 2 width) ∙ h.bits)
      ∙ rw (number_word τ wire_a 2 width) (go (τ (wire_a 0)) (τ (wire_a 1)) (word_of (λ i. τ (wire_a i)) 2 width) (τ (wire_a 2))))
    where
      go : (a b : Bool) (n : ℕ) (e : Bool) → reading_of word_term (bit_of (a && not b) * F n)
          ≡ pick (pick (eqb (shape a b n e).sort word_term) true false) (reading_of word_term (F (shape a b n e).number)) (reading_of word_term 0)
      go true true n e = ap (reading_of word_term) (zero-mul (F n))
      go true false n e = ap (reading_of word_term) (one-mul (F n))
      go false true n e = ap (reading_of word_term) (zero-mul (F n))
      go false false n e = ap (reading_of word_term) (zero-mul (F n))

-- what holds of each code from 1 to 12
pub by_code : (P : ℕ → Type 0) → P 1 → P 2 → P 3 → P 4 → P 5 → P 6 → P 7 → P 8 → P 9 → P 10 → P 11 → P 12 → (op : ℕ) → (op ≡ 0 → ⊥) → op < not_code → P op
by_code P a b c d e f g h i j k l zero n m = absurd (n refl)
by_code P a b c d e f g h i j k l (suc zero) n m = a
by_code P a b c d e f g h i j k l (suc (suc zero)) n m = b
by_code P a b c d e f g h i j k l (suc (suc (suc zero))) n m = c
by_code P a b c d e f g h i j k l (suc (suc (suc (suc zero)))) n m = d
by_code P a b c d e f g h i j k l (suc (suc (suc (suc (suc zero))))) n m = e
by_code P a b c d e f g h i j k l (suc (suc (suc (suc (suc (suc zero)))))) n m = f
by_code P a b c d e f g h i j k l (suc (suc (suc (suc (suc (suc (suc zero))))))) n m = g
by_code P a b c d e f g h i j k l (suc (suc (suc (suc (suc (suc (suc (suc zero)))))))) n m = h
by_code P a b c d e f g h i j k l (suc (suc (suc (suc (suc (suc (suc (suc (suc zero))))))))) n m = i
by_code P a b c d e f g h i j k l (suc (suc (suc (suc (suc (suc (suc (suc (suc (suc zero)))))))))) n m = j
by_code P a b c d e f g h i j k l (suc (suc (suc (suc (suc (suc (suc (suc (suc (suc (suc zero))))))))))) n m = k
by_code P a b c d e f g h i j k l (suc (suc (suc (suc (suc (suc (suc (suc (suc (suc (suc (suc zero)))))))))))) n m = l
by_code P a b c d e f g h i j k l (suc (suc (suc (suc (suc (suc (suc (suc (suc (suc (suc (suc (suc op))))))))))))) n m = absurd (omega arith)

module _ (τ : Wire → Bool) (o : τ wire_true ≡ true) where
  abbrev Works : ℕ → Type 0
  Works op = Holds τ (operator_gates levels op) → O τ ≡ operation_reading op (X τ) (Y τ)

  works : (op : ℕ) → (op ≡ 0 → ⊥) → op < not_code → Works op
  unfolding operator_gates operation_reading operands_are_words result_reading operands_of row_of gives_truth_of operate_of with when◌then◌else◌ if◌equals◌then◌else◌
  works =
      by_code Works
      (λ h. of_words τ (sum_of width) (sum_op levels τ o h))
      (λ h. of_words τ (difference_of width) (difference_op levels τ o h))
      (λ h. of_words τ (product_of width) (product_op levels τ o h))
      (λ h. of_words τ and_of (and_op levels τ h))
      (λ h. of_words τ or_of (or_op levels τ h))
      (λ h. of_words τ xor_of (xor_op levels τ h))
      (λ h. of_words τ (left_of width) (left_op levels τ o h))
      (λ h. of_words τ (right_of width) (right_op levels τ o h))
      (λ h. of_word τ ones_of (ones_op levels τ o h))
      (λ h. of_word τ (zeros_of width) (zeros_op levels τ o h))
      (λ h. of_tests τ ltb (less_op levels τ o h))
      (λ h. of_tests τ eqb (equal_op levels τ h))

  -- a truth of three literals
  gives_truth : (f : Function) (a b c : Literal Wire) → Holds τ (truth_gate f a b c) → O τ ≡ truth_reading (value_of f (literal_true τ a) (literal_true τ b) (literal_true τ c))
  gives_truth f a b c h = held_as (λ i. τ (own i)) h.0 h.1.0 ∙ ap truth_reading h.1.1.0

  module _ (ts : List Term) (a b : ℕ) (first-truth : names_truth ts a ≡ true → is_truth (X τ) ≡ true) (second-truth : names_truth ts b ≡ true → is_truth (Y τ) ≡ true) where
    abbrev Coded : ℕ → Type 0
    Coded op = Holds τ (code_gates op) → O τ ≡ operator_reading op (X τ) (Y τ)

    below_code : (op : ℕ) → op < not_code → Works op → Coded op
    unfolding code_gates operator_reading if◌below◌then◌else◌
    below_code op l w h = rw (lt-ltb op not_code l) (w (rw (lt-ltb op not_code l) at h))

    is_word_lem : Coded is_word_code
    unfolding code_gates operator_reading if◌below◌then◌else◌ if◌equals◌then◌else◌
    is_word_lem h = gives_truth and2 (pos (wire_a 0)) (neg (wire_a 1)) (neg (wire_a 1)) h ∙ ap truth_reading (sym (held_word (λ i. τ (wire_a i))))

    is_procedure : Coded is_procedure_code
    unfolding code_gates operator_reading if◌below◌then◌else◌ if◌equals◌then◌else◌
    is_procedure h = gives_truth and2 (neg (wire_a 0)) (pos (wire_a 1)) (pos (wire_a 1)) h ∙ ap truth_reading (sym (held_procedure (λ i. τ (wire_a i))))

    first_true : names_truth ts a ≡ true → is_true (X τ) ≡ τ (wire_a 2)
    first_true p = truth_held (λ i. τ (wire_a i)) (held_truth (λ i. τ (wire_a i)) (first-truth p))

    second_true : names_truth ts b ≡ true → is_true (Y τ) ≡ τ (wire_b 2)
    second_true p = truth_held (λ i. τ (wire_b i)) (held_truth (λ i. τ (wire_b i)) (second-truth p))

    negation : names_truth ts a ≡ true → Coded negation_code
    unfolding code_gates operator_reading if◌below◌then◌else◌ if◌equals◌then◌else◌
    negation p h = gives_truth copy (neg (wire_a 2)) (neg (wire_a 2)) (neg (wire_a 2)) h ∙ rw (first-truth p, first_true p)

    conjunction : names_truth ts a ≡ true → names_truth ts b ≡ true → Coded conjunction_code
    unfolding code_gates operator_reading if◌below◌then◌else◌ if◌equals◌then◌else◌
    conjunction p q h = gives_truth and2 (pos (wire_a 2)) (pos (wire_b 2)) (pos (wire_b 2)) h ∙ rw (first_true p, second_true q)

    disjunction : names_truth ts a ≡ true → names_truth ts b ≡ true → Coded disjunction_code
    unfolding code_gates operator_reading if◌below◌then◌else◌ if◌equals◌then◌else◌
    disjunction p q h = gives_truth or2 (pos (wire_a 2)) (pos (wire_b 2)) (pos (wire_b 2)) h ∙ rw (first-truth p, second-truth q, first_true p, second_true q)

    truth : Coded truth_code
    unfolding code_gates operator_reading if◌below◌then◌else◌ if◌equals◌then◌else◌
    truth h = gives_truth passing (pos (wire_a 0)) (pos (wire_a 1)) (pos (wire_a 2)) h ∙ sym (held_passes (λ i. τ (wire_a i)))

    coded : (op : ℕ) → operands_laid_out ts op a b ≡ true → Coded op
    unfolding operands_laid_out if◌equals◌then◌else◌ if◌below◌then◌else◌
    coded op h =
        by_test (eqb op 0) _ _ h (λ i e. never e) λ z h.
        by_test (ltb op not_code) _ _ h (λ i e. let l : op < not_code = omega (arith, ltb-true op not_code i) in below_code op l (works op (λ k. eqb-false op 0 z k) l)) λ i h.
        by_test (eqb op is_word_code) _ _ h (λ i e. subst (λ k. Coded k) (sym (eqb-true op is_word_code i)) is_word_lem) λ i h.
        by_test (eqb op is_procedure_code) _ _ h (λ i e. subst (λ k. Coded k) (sym (eqb-true op is_procedure_code i)) is_procedure) λ i h.
        by_test (eqb op negation_code) _ _ h (λ i e. both (names_truth ts a) (eqb b 0) e λ p q. subst (λ k. Coded k) (sym (eqb-true op negation_code i)) (negation p)) λ i h.
        by_test (eqb op conjunction_code) _ _ h (λ i e. both (names_truth ts a) (names_truth ts b) e λ p q. subst (λ k. Coded k) (sym (eqb-true op conjunction_code i)) (conjunction p q)) λ i h.
        by_test (eqb op disjunction_code) _ _ h (λ i e. both (names_truth ts a) (names_truth ts b) e λ p q. subst (λ k. Coded k) (sym (eqb-true op disjunction_code i)) (disjunction p q)) λ i h.
        by_test (eqb op truth_code) _ _ h (λ i e. subst (λ k. Coded k) (sym (eqb-true op truth_code i)) truth) λ i e. never e

    -- ---- a shift by a word constant
    module _ (w : ℕ) (amount : Y τ ≡ reading_of word_term w) where
      -- of one word is of two, of which the second is w
      by_constant_lem : (F : ℕ → ℕ → ℕ) → GivesWord levels τ (τ (wire_a 0) && not (τ (wire_a 1))) (F (first levels τ) w)
          → O τ ≡ pick (pick (is_word (X τ)) (is_word (Y τ)) false) (reading_of word_term (F (X τ).number (Y τ).number)) (reading_of word_term 0)
      unfolding is_word
      by_constant_lem F h = of_word τ (λ n. F n w) h ∙ sym (go (Y τ) amount)
        where
          go : (v : Reading) → v ≡ reading_of word_term w
              → pick (pick (is_word (X τ)) (is_word v) false) (reading_of word_term (F (X τ).number v.number)) (reading_of word_term 0)
              ≡ pick (pick (is_word (X τ)) true false) (reading_of word_term (F (X τ).number w)) (reading_of word_term 0)
          go v e = rw e

      shift_left : Holds τ (shift_by_gates levels shifted_up w) → O τ ≡ operator_reading left_code (X τ) (Y τ)
      unfolding operator_reading operation_reading operands_are_words result_reading operands_of row_of gives_truth_of operate_of with when◌then◌else◌ if◌equals◌then◌else◌ if◌below◌then◌else◌
      shift_left h = by_constant_lem (left_of width) (left_by levels τ o w h)

      shift_right : Holds τ (shift_by_gates levels shifted_down w) → O τ ≡ operator_reading right_code (X τ) (Y τ)
      unfolding operator_reading operation_reading operands_are_words result_reading operands_of row_of gives_truth_of operate_of with when◌then◌else◌ if◌equals◌then◌else◌ if◌below◌then◌else◌
      shift_right h = by_constant_lem (right_of width) (right_by levels τ o w h)

    -- An operator's gates say what it reads as.
    pub operation_says : (op : ℕ) (u : Term) → (u.kind ≡ word_term → Y τ ≡ reading_of word_term (term_word u)) → operands_laid_out ts op a b ≡ true
        → Holds τ (operation_gates op u) → O τ ≡ operator_reading op (X τ) (Y τ)
    unfolding operation_gates if◌equals◌then◌else◌
    operation_says op u amount laid h = go (eqb u.kind word_term) refl h
      where
        by_op : u.kind ≡ word_term → (l r : Bool) → eqb op left_code ≡ l → eqb op right_code ≡ r
            → Holds τ (pick l (shift_by_gates levels shifted_up (term_word u)) (pick r (shift_by_gates levels shifted_down (term_word u)) (code_gates op))) → O τ ≡ operator_reading op (X τ) (Y τ)
        by_op k true r e f h = subst (λ i. O τ ≡ operator_reading i (X τ) (Y τ)) (sym (eqb-true op left_code e)) (shift_left (term_word u) (amount k) h)
        by_op k false true e f h = subst (λ i. O τ ≡ operator_reading i (X τ) (Y τ)) (sym (eqb-true op right_code f)) (shift_right (term_word u) (amount k) h)
        by_op k false false e f h = coded op laid h

        go : (b : Bool) → eqb u.kind word_term ≡ b
            → Holds τ (pick b (pick (eqb op left_code) (shift_by_gates levels shifted_up (term_word u)) (pick (eqb op right_code) (shift_by_gates levels shifted_down (term_word u)) (code_gates op))) (code_gates op))
            → O τ ≡ operator_reading op (X τ) (Y τ)
        go true e h = by_op (eqb-true u.kind word_term e) (eqb op left_code) (eqb op right_code) refl refl h
        go false e h = coded op laid h
