-- Reading gives what the terms mean, where each free truth is given 0 or 1. Assumes nothing.
use mathlib.Core.Path.{◌≡◌, refl, sym, ap, subst, ◌∙◌}
use mathlib.Core.Bool.{Bool, true, false, not, ◌&&◌}
use mathlib.Core.List.{List}
use Prim.Native.Nat.{ℕ, zero, suc, ◌<◌}
use native.Mathlib.Omega.{arith}
use lib.ListN.{get_or}
use lib.Dec.{eqb, ltb}
use borrow.Author.Tests.{eqb-true, ltb-true, lt-ltb}
use Rattle.notation.specs.Notation.{pick, with, when◌then◌else◌, if◌equals◌then◌else◌, if◌below◌then◌else◌}
use Rattle.operators.specs.Operators.{operands_of, gives_truth_of, bit_of, operate_of}
use Rattle.semantics.specs.declared.Term.{Term}
use Rattle.semantics.specs.declared.Reading.{Reading}
use Rattle.semantics.specs.Numbers.{truth_term, word_term, free_truth_term, operator_term, procedure_term, binding_term, not_code, is_word_code, is_procedure_code, negation_code, conjunction_code, disjunction_code, truth_code}
use Rattle.semantics.specs.Terms.{operands_laid_out, laid_out, well_formed}
use Rattle.semantics.specs.Run.{Value, truth, word, procedure, binding, none, is_false, is_aword, is_aprocedure, word_in, operation_value, words_run}
use Rattle.semantics.specs.Reading.{reading_of, nothing, truth_reading, is_true, is_truth, is_word, passes, result_reading, operands_are_words, operation_reading, operator_reading, term_reading, nth, readings}
use Rattle.semantics.proofs.Fold.{Each, each_both, fold_related}
use Rattle.typing.proofs.Formed.{never, both, by_test}
use Rattle.typing.proofs.Folds.{formed_each}
use Rattle.soundness.proofs.Means.{is_true as isTrueValue, is_truth as isTruthValue, is_proper, wrong_value, operator_meaning, term_meaning, meaning}
use Rattle.semantics.proofs.Operands.{one_operand}
use Rattle.soundness.proofs.Operate.{truth_bit, operation_truth, operation_word}

-- what a value reads as
abbrev pub reading_in : Value → Reading
reading_in (truth b) = truth_reading b
reading_in (word w) = reading_of word_term w
reading_in (procedure i e) = reading_of procedure_term i
reading_in (binding v e) = nothing
reading_in none = nothing

-- a free truth is given 0 or 1
abbrev pub SmallTerm : List ℕ → Term → Type 0
SmallTerm ns t = t.kind ≡ free_truth_term → get_or ns t.a 0 < 2

-- each one among the terms is
abbrev pub Small : List ℕ → List Term → Type 0
Small ns ts = Each (λ us t. SmallTerm ns t) ts

-- ---- the tests of a reading
word_same : (v : Value) → is_word (reading_in v) ≡ is_aword v
unfolding is_word is_aword
word_same (truth b) = refl
word_same (word w) = refl
word_same (procedure i e) = refl
word_same (binding v e) = refl
word_same none = refl

pub true_same : (v : Value) → is_true (reading_in v) ≡ isTrueValue v
unfolding is_true if◌equals◌then◌else◌
true_same (truth true) = refl
true_same (truth false) = refl
true_same (word w) = refl
true_same (procedure i e) = refl
true_same (binding v e) = refl
true_same none = refl

truth_same : (v : Value) → is_truth (reading_in v) ≡ isTruthValue v
unfolding is_truth
truth_same (truth b) = refl
truth_same (word w) = refl
truth_same (procedure i e) = refl
truth_same (binding v e) = refl
truth_same none = refl

procedure_same : (v : Value) → eqb (reading_in v).sort procedure_term ≡ is_aprocedure v
unfolding is_aprocedure
procedure_same (truth b) = refl
procedure_same (word w) = refl
procedure_same (procedure i e) = refl
procedure_same (binding v e) = refl
procedure_same none = refl

passes_same : (v : Value) → (if (reading_in v).sort equals 0 then truth_reading false else truth_reading (passes (reading_in v))) ≡ truth_reading (is_proper v && not (is_false v))
unfolding passes is_false if◌equals◌then◌else◌
passes_same (truth true) = refl
passes_same (truth false) = refl
passes_same (word w) = refl
passes_same (procedure i e) = refl
passes_same (binding v e) = refl
passes_same none = refl

number_same : (v : Value) → is_aword v ≡ true → (reading_in v).number ≡ word_in v
unfolding is_aword word_in
number_same (truth b) h = never h
number_same (word w) h = refl
number_same (procedure i e) h = never h
number_same (binding v e) h = never h
number_same none h = never h

-- ---- operators
small_bit : (n : ℕ) → n < 2 → n ≡ bit_of (eqb n 1)
small_bit zero h = refl
small_bit (suc zero) h = refl
small_bit (suc (suc n)) h = absurd (omega arith)

pub bit_small : (b : Bool) → bit_of b < 2
bit_small true = omega arith
bit_small false = omega arith

module _ (op : ℕ) where
  words_same : (x y : Value) → operands_are_words op (reading_in x) (reading_in y) ≡ words_run op x y
  unfolding operands_are_words words_run with when◌then◌else◌
  words_same x y = rw (word_same x, word_same y)

  result_truth : (w : ℕ) → gives_truth_of op ≡ true → result_reading op w ≡ reading_of truth_term w
  unfolding result_reading with when◌then◌else◌
  result_truth w h = rw h

  result_word : (w : ℕ) → gives_truth_of op ≡ false → result_reading op w ≡ reading_of word_term w
  unfolding result_reading with when◌then◌else◌
  result_word w h = rw h

  -- a truth is 0 or 1
  pub operate_small : (x y : ℕ) → gives_truth_of op ≡ true → operate_of op x y < 2
  operate_small x y h = rw (truth_bit op x y h) (pick_small (eqb op 11))
    where
      pick_small : (b : Bool) → pick b (bit_of (ltb x y)) (bit_of (eqb x y)) < 2
      pick_small true = bit_small (ltb x y)
      pick_small false = bit_small (eqb x y)

  -- what is worked out
  result_same : (x y : ℕ) → result_reading op (operate_of op x y) ≡ reading_in (operation_value op x y)
  result_same x y = go (gives_truth_of op) refl
    where
      go : (b : Bool) → gives_truth_of op ≡ b → result_reading op (operate_of op x y) ≡ reading_in (operation_value op x y)
      go true h = result_truth (operate_of op x y) h ∙ (ap (reading_of truth_term) (small_bit (operate_of op x y) (operate_small x y h)) ∙ ap reading_in (sym (operation_truth op x y h)))
      go false h = result_word (operate_of op x y) h ∙ ap reading_in (sym (operation_word op x y h))

  wrong_same : result_reading op 0 ≡ reading_in (wrong_value op)
  unfolding wrong_value result_reading with when◌then◌else◌
  wrong_same = go (gives_truth_of op)
    where
      go : (b : Bool) → pick b (reading_of truth_term 0) (reading_of word_term 0) ≡ reading_in (pick b (truth false) (word 0))
      go true = refl
      go false = refl

first_word : (op : ℕ) (x y : Value) → words_run op x y ≡ true → is_aword x ≡ true
unfolding words_run when◌then◌else◌
first_word op x y h = go (is_aword x) refl
  where
    go : (b : Bool) → is_aword x ≡ b → is_aword x ≡ true
    go true e = e
    go false e = never (rw e at h)

second_number : (op : ℕ) (x y : Value) → op < not_code → words_run op x y ≡ true → operate_of op (word_in x) (reading_in y).number ≡ operate_of op (word_in x) (word_in y)
unfolding words_run when◌then◌else◌ if◌equals◌then◌else◌
second_number op x y l h = go (eqb (operands_of op) 1) refl
  where
    go : (b : Bool) → eqb (operands_of op) 1 ≡ b → operate_of op (word_in x) (reading_in y).number ≡ operate_of op (word_in x) (word_in y)
    go true e = one_operand op (word_in x) (reading_in y).number (word_in y) l (eqb-true _ _ e)
    go false e = ap (operate_of op (word_in x)) (number_same y (rw (first_word op x y h, e) at h))

operation_same : (op : ℕ) (x y : Value) → op < not_code → operation_reading op (reading_in x) (reading_in y) ≡ reading_in (operator_meaning op x y)
unfolding operation_reading operator_meaning with when◌then◌else◌ if◌below◌then◌else◌
operation_same op x y l = rw (lt-ltb op not_code l, words_same op x y) (go (words_run op x y) refl)
  where
    go : (b : Bool) → words_run op x y ≡ b
        → pick b (result_reading op (operate_of op (reading_in x).number (reading_in y).number)) (result_reading op 0) ≡ reading_in (pick b (operation_value op (word_in x) (word_in y)) (wrong_value op))
    go true h =
        ap (λ u. result_reading op (operate_of op u (reading_in y).number)) (number_same x (first_word op x y h)) ∙
        (ap (result_reading op) (second_number op x y l h) ∙ result_same op (word_in x) (word_in y))
    go false h = wrong_same op

module _ (x y : Value) where
  is_word_same : operator_reading is_word_code (reading_in x) (reading_in y) ≡ reading_in (operator_meaning is_word_code x y)
  unfolding operator_reading operator_meaning if◌equals◌then◌else◌ if◌below◌then◌else◌
  is_word_same = rw (word_same x)

  is_procedure_same : operator_reading is_procedure_code (reading_in x) (reading_in y) ≡ reading_in (operator_meaning is_procedure_code x y)
  unfolding operator_reading operator_meaning if◌equals◌then◌else◌ if◌below◌then◌else◌
  is_procedure_same = rw (procedure_same x)

  negation_same : operator_reading negation_code (reading_in x) (reading_in y) ≡ reading_in (operator_meaning negation_code x y)
  unfolding operator_reading operator_meaning if◌equals◌then◌else◌ if◌below◌then◌else◌
  negation_same = rw (truth_same x, true_same x)

  conjunction_same : operator_reading conjunction_code (reading_in x) (reading_in y) ≡ reading_in (operator_meaning conjunction_code x y)
  unfolding operator_reading operator_meaning if◌equals◌then◌else◌ if◌below◌then◌else◌
  conjunction_same = rw (true_same x, true_same y)

  disjunction_same : operator_reading disjunction_code (reading_in x) (reading_in y) ≡ reading_in (operator_meaning disjunction_code x y)
  unfolding operator_reading operator_meaning if◌equals◌then◌else◌ if◌below◌then◌else◌
  disjunction_same = rw (truth_same x, truth_same y, true_same x, true_same y)

  truth_code_same : operator_reading truth_code (reading_in x) (reading_in y) ≡ reading_in (operator_meaning truth_code x y)
  unfolding operator_reading operator_meaning if◌equals◌then◌else◌ if◌below◌then◌else◌
  truth_code_same = passes_same x

below_same : (op : ℕ) (x y : Value) → op < not_code → operator_reading op (reading_in x) (reading_in y) ≡ operation_reading op (reading_in x) (reading_in y)
unfolding operator_reading if◌below◌then◌else◌
below_same op x y l = rw (lt-ltb op not_code l)

module _ (ts : List Term) (a b op : ℕ) (x y : Value) where
  abbrev Same : ℕ → Type 0
  Same k = operator_reading k (reading_in x) (reading_in y) ≡ reading_in (operator_meaning k x y)

  operator_same : operands_laid_out ts op a b ≡ true → Same op
  unfolding operands_laid_out if◌equals◌then◌else◌ if◌below◌then◌else◌
  operator_same h =
      by_test (eqb op 0) _ _ h (λ i e. never e) λ i h.
      by_test (ltb op not_code) _ _ h (λ i e. let l : op < not_code = omega (arith, ltb-true op not_code i) in below_same op x y l ∙ operation_same op x y l) λ i h.
      by_test (eqb op is_word_code) _ _ h (λ i e. subst (λ k. Same k) (sym (eqb-true op is_word_code i)) (is_word_same x y)) λ i h.
      by_test (eqb op is_procedure_code) _ _ h (λ i e. subst (λ k. Same k) (sym (eqb-true op is_procedure_code i)) (is_procedure_same x y)) λ i h.
      by_test (eqb op negation_code) _ _ h (λ i e. subst (λ k. Same k) (sym (eqb-true op negation_code i)) (negation_same x y)) λ i h.
      by_test (eqb op conjunction_code) _ _ h (λ i e. subst (λ k. Same k) (sym (eqb-true op conjunction_code i)) (conjunction_same x y)) λ i h.
      by_test (eqb op disjunction_code) _ _ h (λ i e. subst (λ k. Same k) (sym (eqb-true op disjunction_code i)) (disjunction_same x y)) λ i h.
      by_test (eqb op truth_code) _ _ h (λ i e. subst (λ k. Same k) (sym (eqb-true op truth_code i)) (truth_code_same x y)) λ i e. never e

-- ---- terms
record Linked (x : Reading) (v : Value) : Type 0 where
  is : x ≡ reading_in v

eq_link : {x y : Reading} {u v : Value} (i j : ℕ) → (i ≡ j → Linked x u) → Linked y v → Linked (if i equals j then x else y) (if i equals j then u else v)
unfolding if◌equals◌then◌else◌
eq_link {x} {y} {u} {v} i j f g = go (eqb i j) refl
  where
    go : (b : Bool) → eqb i j ≡ b → Linked (pick b x y) (pick b u v)
    go true e = f (eqb-true i j e)
    go false e = g

-- a binding and what is no term read as nothing
nothing_link : (k : ℕ) (u v : Value) → Linked nothing (if k equals binding_term then binding u v else none)
unfolding if◌equals◌then◌else◌
nothing_link k u v = go (eqb k binding_term)
  where
    go : (b : Bool) → Linked nothing (pick b (binding u v) none)
    go true = record { is = refl }
    go false = record { is = refl }

module _ (n : ℕ) (us : List Term) (t : Term) (h : laid_out n us t ≡ true) where
  pub constant_small : t.kind ≡ truth_term → t.a < 2
  unfolding laid_out if◌equals◌then◌else◌
  constant_small k =
      by_test (eqb t.op 0) (ltb t.a 2 && (eqb t.b 0 && eqb t.c 0)) false (rw k at h)
      (λ i e. both (ltb t.a 2) (eqb t.b 0 && eqb t.c 0) e λ p q. omega (arith, ltb-true t.a 2 p)) (λ i e. never e)

  pub operator_laid : t.kind ≡ operator_term → operands_laid_out us t.op t.a t.b ≡ true
  unfolding laid_out if◌equals◌then◌else◌
  operator_laid k = both (operands_laid_out us t.op t.a t.b) (eqb t.c 0) (rw k at h) λ p q. p

module _ (ns : List ℕ) (n : ℕ) (us : List Term) (t : Term) (x y z : Value) (h : laid_out n us t ≡ true) (small : SmallTerm ns t) where
  constant_same : (a : ℕ) → a < 2 → reading_of truth_term a ≡ truth_reading (not (eqb a 0))
  constant_same zero l = refl
  constant_same (suc zero) l = refl
  constant_same (suc (suc a)) l = absurd (omega arith)

  choice_same : (when is_true (reading_in x) then reading_in y else reading_in z) ≡ reading_in (pick (isTrueValue x) y z)
  unfolding when◌then◌else◌
  choice_same = rw (true_same x) (go (isTrueValue x))
    where
      go : (b : Bool) → pick b (reading_in y) (reading_in z) ≡ reading_in (pick b y z)
      go true = refl
      go false = refl

  term_link : Linked (term_reading ns t (reading_in x) (reading_in y) (reading_in z)) (term_meaning ns t x y z)
  unfolding term_reading term_meaning with
  term_link =
      eq_link _ _ (λ k. record { is = constant_same t.a (constant_small n us t h k) }) (eq_link _ _ (λ k. record { is = refl })
      (eq_link _ _ (λ k. record { is = ap (reading_of truth_term) (small_bit (get_or ns t.a 0) (small k)) }) (eq_link _ _ (λ k. record { is = refl })
      (eq_link _ _ (λ k. record { is = operator_same us t.a t.b t.op x y (operator_laid n us t h k) }) (eq_link _ _ (λ k. record { is = choice_same })
      (eq_link _ _ (λ k. record { is = refl }) (nothing_link t.kind x y)))))))

-- What is read of a number is what it means.
pub reading_link : (ns : List ℕ) (n : ℕ) (ts : List Term) → well_formed n ts ≡ true → Small ns ts → (x : ℕ) → nth (readings ns ts) x ≡ reading_in (meaning ns ts x)
unfolding readings meaning
reading_link ns n ts h s =
    fold_related (λ r v. r ≡ reading_in v) (term_reading ns) (term_meaning ns) refl (λ us t. laid_out n us t ≡ true × SmallTerm ns t)
    (λ us t p a b c x y z i j k. rw (i, j, k) (term_link ns n us t x y z p.0 p.1).is)
    ts (each_both _ _ ts (formed_each n ts h) s)
