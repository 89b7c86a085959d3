-- A term's gates say that its wires hold what the term reads as, of what the terms that it names hold. Assumes nothing.
use mathlib.Core.Path.{◌≡◌, refl, sym, ap, ◌∙◌}
use mathlib.Core.Bool.{Bool, true, false, ◌&&◌, cond}
use mathlib.Core.List.{List, []}
use Prim.Native.Nat.{ℕ, zero, suc, ◌+◌, ◌-◌, ◌*◌, ◌/◌, ◌%◌, ◌^◌, ◌<◌}
use native.Mathlib.Omega.{arith}
use native.Mathlib.Nat.{pow-suc}
use lib.ListN.{get_or}
use lib.Dec.{eqb, ltb}
use borrow.Author.Tests.{eqb-true, eqb-false, eq-eqb, ne_eqb, ltb-true}
use Rattle.notation.specs.Notation.{pick, with, when◌then◌else◌, if◌equals◌then◌else◌}
use Rattle.words.specs.Words.{width}
use Rattle.operators.specs.Operators.{bit_of}
use Rattle.semantics.specs.declared.Term.{Term}
use Rattle.semantics.specs.declared.Reading.{Reading}
use Rattle.semantics.specs.Numbers.{truth_term, word_term, free_truth_term, free_word_term, operator_term, choice_term, procedure_term, record_limit}
use Rattle.semantics.specs.Terms.{term_word, names_truth, names_binding, names_value, operands_laid_out, laid_out}
use Rattle.semantics.specs.Reading.{reading_of, truth_reading, is_true, is_truth, term_reading}
use Rattle.circuits.specs.Gates.{Gate}
use Rattle.circuits.specs.Templates.{Wire, wire_a, wire_b, wire_c, wire_true, own, kinds}
use Rattle.circuits.proofs.Gates.{Holds}
use Rattle.typing.proofs.Formed.{never, both, by_test}
use Rattle.depth.proofs.Built.{Worded}
use Rattle.certainty.specs.Certain.{Words}
use Rattle.certainty.proofs.Worded.{IsWord}
use Rattle.clauses.specs.Clauses.{owned, odd, digits, choices, operation_gates}
use Rattle.models.proofs.Held.{word_of, shape, held_as, held_truth, truth_held}
use Rattle.models.proofs.Codes.{X, Y, Z, O, operation_says}

-- ---- constants and inputs: fixed bits
pub halves : (w : ℕ) → bit_of (odd w) + 2 * (w / 2) ≡ w
halves w = go (eqb (w % 2) 1) refl
  where
    go : (b : Bool) → eqb (w % 2) 1 ≡ b → bit_of b + 2 * (w / 2) ≡ w
    go true e = let q = eqb-true (w % 2) 1 e in omega arith
    go false e = let q = eqb-false (w % 2) 1 e in let r : ¬ (w % 2 ≡ 1) = q in omega arith

pub digits_are : (τ : Wire → Bool) (s n w : ℕ) → w < 2 ^ n → Holds τ (digits s n w) → word_of (λ i. τ (own i)) s n ≡ w
unfolding digits word_of
digits_are τ s zero w l h = omega arith
digits_are τ s (suc n) w l h = rw (h.0, digits_are τ (suc s) n (w / 2) (omega (arith, pow-suc 2 n)) h.1) (halves w)

odd_bit : (b : Bool) (n w : ℕ) → bit_of b + 2 * n ≡ w → b ≡ odd w
odd_bit true n w e = sym (eq-eqb (w % 2) 1 (omega arith))
odd_bit false n w e = sym (ne_eqb (w % 2) 1 (λ q. omega arith))

pub are_digits : (τ : Wire → Bool) (s n w : ℕ) → w < 2 ^ n → word_of (λ i. τ (own i)) s n ≡ w → Holds τ (digits s n w)
unfolding digits word_of
are_digits τ s zero w l e = tt
are_digits τ s (suc n) w l e =
    let q = odd_bit (τ (own s)) (word_of (λ i. τ (own i)) (suc s) n) w e in
    (q, are_digits τ (suc s) n (w / 2) (omega (arith, pow-suc 2 n)) (let d = halves w in let r = rw q at e in omega arith))

small_odd : (n : ℕ) → n < 2 → truth_reading (odd n) ≡ reading_of truth_term n
small_odd zero h = refl
small_odd (suc zero) h = refl
small_odd (suc (suc n)) h = absurd (omega arith)

-- ---- a choice
choices_are : (τ : Wire → Bool) (s n : ℕ) → Holds τ (choices s n) → word_of (λ i. τ (own i)) s n ≡ cond (τ (wire_a 2)) (word_of (λ i. τ (wire_b i)) s n) (word_of (λ i. τ (wire_c i)) s n)
unfolding choices word_of
choices_are τ s zero h = go (τ (wire_a 2))
  where
    go : (b : Bool) → zero ≡ cond b zero zero
    go true = refl
    go false = refl
choices_are τ s (suc n) h = rw (h.0, choices_are τ (suc s) n h.1) (go (τ (wire_a 2)))
  where
    go : (b : Bool) → bit_of (cond b (τ (wire_b s)) (τ (wire_c s))) + 2 * cond b (word_of (λ i. τ (wire_b i)) (suc s) n) (word_of (λ i. τ (wire_c i)) (suc s) n)
        ≡ cond b (bit_of (τ (wire_b s)) + 2 * word_of (λ i. τ (wire_b i)) (suc s) n) (bit_of (τ (wire_c s)) + 2 * word_of (λ i. τ (wire_c i)) (suc s) n)
    go true = refl
    go false = refl

-- two wires and then the bits: the first of which is a truth's
split : (τ : Wire → Bool) (n : ℕ) → Holds τ (choices 0 (suc (suc (suc n)))) → (τ (own 0) ≡ cond (τ (wire_a 2)) (τ (wire_b 0)) (τ (wire_c 0))) × (τ (own 1) ≡ cond (τ (wire_a 2)) (τ (wire_b 1)) (τ (wire_c 1))) × (τ (own 2) ≡ cond (τ (wire_a 2)) (τ (wire_b 2)) (τ (wire_c 2))) × Holds τ (choices 2 (suc n))
unfolding choices
split τ n h = (h.0, h.1.0, h.1.1.0, h.1.1)

choice_is : (τ : Wire → Bool) → Holds τ (choices 0 owned) → O τ ≡ cond (τ (wire_a 2)) (Y τ) (Z τ)
choice_is τ h = let k = split τ (width - 1) h in rw (choices_are τ 2 width k.3, k.0, k.1, k.2) (go (τ (wire_a 2)))
  where
    go : (b : Bool) → shape (cond b (τ (wire_b 0)) (τ (wire_c 0))) (cond b (τ (wire_b 1)) (τ (wire_c 1))) (cond b (word_of (λ i. τ (wire_b i)) 2 width) (word_of (λ i. τ (wire_c i)) 2 width)) (cond b (τ (wire_b 2)) (τ (wire_c 2))) ≡ cond b (Y τ) (Z τ)
    go true = refl
    go false = refl

-- ---- a term whose b names u, with the free inputs fixed as in sixteen numbers
unfoldable pub gates_under : List ℕ → Term → Term → List (Gate Wire)
gates_under ns t u =
    if t.kind equals truth_term then kinds false false (digits 2 width t.a) else
    if t.kind equals word_term then kinds true false (digits 2 width (term_word t)) else
    if t.kind equals free_truth_term then kinds false false (digits 2 width (get_or ns t.a 0)) else
    if t.kind equals free_word_term then kinds true false (digits 2 width (get_or ns t.a 0)) else
    if t.kind equals operator_term then operation_gates t.op u else
    if t.kind equals choice_term then choices 0 owned else
    if t.kind equals procedure_term then kinds false true (digits 2 width t.a) else
    kinds true true []

module _ (ns : List ℕ) (words : Words ns) (n : ℕ) (us : List Term) (t u : Term) (laid : laid_out n us t ≡ true)
    (small : t.kind ≡ free_truth_term → get_or ns t.a 0 < 2) (worded : Worded IsWord t) (τ : Wire → Bool) (o : τ wire_true ≡ true)
    (first-truth : names_truth us t.a ≡ true → is_truth (X τ) ≡ true) (second-truth : names_truth us t.b ≡ true → is_truth (Y τ) ≡ true)
    (amount : u.kind ≡ word_term → Y τ ≡ reading_of word_term (term_word u)) where
  record Says (gs : List (Gate Wire)) (v : Reading) : Type 0 where
    says : Holds τ gs → O τ ≡ v

  eq_says : {x y : List (Gate Wire)} {u v : Reading} (i j : ℕ) → (i ≡ j → Says x u) → Says y v → Says (if i equals j then x else y) (if i equals j then u else v)
  unfolding if◌equals◌then◌else◌
  eq_says {x} {y} {u} {v} i j f g = go (eqb i j) refl
    where
      go : (b : Bool) → eqb i j ≡ b → Says (pick b x y) (pick b u v)
      go true e = f (eqb-true i j e)
      go false e = g

  fixed_word : (w : ℕ) → w < 2 ^ width → Says (kinds true false (digits 2 width w)) (reading_of word_term w)
  fixed_word w l = record { says = λ h. held_as (λ i. τ (own i)) h.0 h.1.0 ∙ ap (reading_of word_term) (digits_are τ 2 width w l h.1.1) }

  fixed_procedure : (w : ℕ) → w < 2 ^ width → Says (kinds false true (digits 2 width w)) (reading_of procedure_term w)
  fixed_procedure w l = record { says = λ h. held_as (λ i. τ (own i)) h.0 h.1.0 ∙ ap (reading_of procedure_term) (digits_are τ 2 width w l h.1.1) }

  fixed_truth : (w : ℕ) → w < 2 → Says (kinds false false (digits 2 width w)) (reading_of truth_term w)
  unfolding digits
  fixed_truth w l = record { says = λ h. held_as (λ i. τ (own i)) h.0 h.1.0 ∙ (ap truth_reading h.1.1.0 ∙ small_odd w l) }

  constant_small : t.kind ≡ truth_term → t.a < 2
  unfolding laid_out if◌equals◌then◌else◌
  constant_small k =
      by_test (eqb t.op 0) (ltb t.a 2 && (eqb t.b 0 && eqb t.c 0)) false (rw k at laid)
      (λ i e. both (ltb t.a 2) (eqb t.b 0 && eqb t.c 0) e λ p q. omega (arith, ltb-true t.a 2 p)) (λ i e. never e)

  -- a procedure's record has a number that a word holds
  record_word : t.kind ≡ procedure_term → t.a < 2 ^ width
  unfolding laid_out if◌equals◌then◌else◌
  record_word k =
      by_test (eqb t.op 0) (ltb t.a record_limit && (names_binding us t.b && ltb t.c n)) false (rw k at laid)
      (λ i e. both (ltb t.a record_limit) (names_binding us t.b && ltb t.c n) e λ p q. omega (arith, ltb-true t.a record_limit p)) (λ i e. never e)

  operands : t.kind ≡ operator_term → operands_laid_out us t.op t.a t.b ≡ true
  unfolding laid_out if◌equals◌then◌else◌
  operands k = both (operands_laid_out us t.op t.a t.b) (eqb t.c 0) (rw k at laid) λ p q. p

  guard : t.kind ≡ choice_term → names_truth us t.a ≡ true
  unfolding laid_out if◌equals◌then◌else◌
  guard k =
      by_test (eqb t.op 0) (names_truth us t.a && (names_value us t.b && names_value us t.c)) false (rw k at laid)
      (λ i e. both (names_truth us t.a) (names_value us t.b && names_value us t.c) e λ p q. p) (λ i e. never e)

  a_choice : t.kind ≡ choice_term → Says (choices 0 owned) (when is_true (X τ) then Y τ else Z τ)
  unfolding when◌then◌else◌
  a_choice k = record { says = λ h. choice_is τ h ∙ rw (truth_held (λ i. τ (wire_a i)) (held_truth (λ i. τ (wire_a i)) (first-truth (guard k)))) (go (τ (wire_a 2))) }
    where
      go : (b : Bool) → cond b (Y τ) (Z τ) ≡ pick b (Y τ) (Z τ)
      go true = refl
      go false = refl

  all_says : Says (gates_under ns t u) (term_reading ns t (X τ) (Y τ) (Z τ))
  unfolding gates_under term_reading with
  all_says =
      eq_says _ _ (λ k. fixed_truth t.a (constant_small k)) (eq_says _ _ (λ k. fixed_word (term_word t) (worded k))
      (eq_says _ _ (λ k. fixed_truth (get_or ns t.a 0) (small k)) (eq_says _ _ (λ k. fixed_word (get_or ns t.a 0) (words t.a))
      (eq_says _ _ (λ k. record { says = operation_says τ o us t.a t.b first-truth second-truth t.op u amount (operands k) }) (eq_says _ _ a_choice
      (eq_says _ _ (λ k. fixed_procedure t.a (record_word k)) (record { says = λ h. held_as (λ i. τ (own i)) h.0 h.1.0 })))))))

  -- A term's gates say what it reads as.
  pub term_says : Holds τ (gates_under ns t u) → O τ ≡ term_reading ns t (X τ) (Y τ) (Z τ)
  term_says h = all_says.says h
