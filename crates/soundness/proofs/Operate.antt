-- An operator's term means what the operator gives on what its operands mean; on words that are constants it is worked out. Assumes nothing.
use mathlib.Core.Path.{◌≡◌, refl, sym, ap, ◌∙◌}
use mathlib.Core.Bool.{Bool, true, false}
use mathlib.Core.List.{List}
use Prim.Native.Nat.{ℕ, ◌<◌}
use native.Mathlib.Omega.{arith}
use lib.ListN.{length}
use lib.Dec.{eqb, ltb}
use borrow.Author.Tests.{eqb-true, ne_eqb, lt-ltb}
use Rattle.words.specs.Words.{width}
use Rattle.words.proofs.Words.{zero_product, product_zero, zero_and, and_zero}
use Rattle.notation.specs.Notation.{pick, with, when◌then◌else◌, if◌equals◌then◌else◌, if◌below◌then◌else◌}
use Rattle.operators.specs.Operators.{operands_of, gives_truth_of, row_of, bit_of, operate_of}
use Rattle.semantics.specs.declared.Term.{Term}
use Rattle.semantics.specs.Numbers.{word_term, operator_term, multiply_code, bitwise_and_code, not_code, false_number, true_number, table_full}
use Rattle.semantics.specs.Terms.{term, term_word, truth_number, at}
use Rattle.semantics.specs.Factory.{make_word_of, make_operator_of, constant_of, is_zero_of, zero_absorbs_of, zero_fold_of, operator_term_of}
use Rattle.semantics.proofs.Operands.{one_operand}
use Rattle.semantics.specs.Run.{Value, truth, word, is_aword, word_in, operation_value, words_run}
use Rattle.typing.proofs.Grown.{grown_length}
use Rattle.typing.proofs.Formed.{never, by_test}
use Rattle.typing.proofs.Does.{Fit, does_give, does_weaken, does_read, does_with, does_if, does_eq}
use Rattle.typing.proofs.Factory.{Operands, laid_operator, operator_value}
use Rattle.soundness.proofs.Means.{wrong_value, operator_meaning, meaning, meaning_grown}
use Rattle.soundness.proofs.Constants.{is_constant, Const, const_at, Step, Does, does_make_constant}
use Rattle.soundness.proofs.BySort.{constant_kind, means_word, means_at, there_means, truth_means, procedure_means}
use Rattle.soundness.proofs.Held.{MeansValue, truth_is_value, value_step, false_means, true_means}
use Rattle.soundness.proofs.Factory.{mean_operator, no_choice, by_sort, word_does}

-- ---- what the operators give
-- an operator that gives a truth is none of those that give words
other : (op k : ℕ) → gives_truth_of op ≡ true → gives_truth_of k ≡ false → eqb op k ≡ false
other op k h e = ne_eqb op k (λ i. never (sym e ∙ (ap gives_truth_of (sym i) ∙ h)))

-- an operator that gives a truth gives 0 or 1
pub truth_bit : (op x y : ℕ) → gives_truth_of op ≡ true → operate_of op x y ≡ pick (eqb op 11) (bit_of (ltb x y)) (bit_of (eqb x y))
unfolding operate_of if◌equals◌then◌else◌ gives_truth_of row_of
truth_bit op x y h =
    rw (other op 1 h refl, other op 2 h refl, other op 3 h refl, other op 4 h refl, other op 5 h refl, other op 6 h refl, other op 7 h refl, other op 8 h refl, other op 9 h refl, other op 10 h refl)

pub one_value : (op x y z : ℕ) → op < not_code → operands_of op ≡ 1 → operation_value op x y ≡ operation_value op x z
unfolding operation_value
one_value op x y z l h = rw (one_operand op x y z l h)

pub operation_truth : (op x y : ℕ) → gives_truth_of op ≡ true → operation_value op x y ≡ truth (eqb (operate_of op x y) 1)
unfolding operation_value when◌then◌else◌
operation_truth op x y h = rw h

pub operation_word : (op x y : ℕ) → gives_truth_of op ≡ false → operation_value op x y ≡ word (operate_of op x y)
unfolding operation_value when◌then◌else◌
operation_word op x y h = rw h

-- a test between two that are the same
pick_same : {A : Type 0} {x : A} (b : Bool) → pick b x x ≡ x
pick_same true = refl
pick_same false = refl

module _ (op : ℕ) (v w : Value) where
  pub operator_words : op < not_code → words_run op v w ≡ true → operator_meaning op v w ≡ operation_value op (word_in v) (word_in w)
  unfolding operator_meaning if◌below◌then◌else◌ when◌then◌else◌
  operator_words l h = rw (lt-ltb op not_code l, h)

  pub words_one : is_aword v ≡ true → operands_of op ≡ 1 → words_run op v w ≡ true
  unfolding words_run when◌then◌else◌ if◌equals◌then◌else◌
  words_one h e = rw (h, e)

  pub words_two : is_aword v ≡ true → is_aword w ≡ true → words_run op v w ≡ true
  unfolding words_run when◌then◌else◌ if◌equals◌then◌else◌
  words_two h k = rw (h, k) (pick_same (eqb (operands_of op) 1))

  pub words_first : words_run op v w ≡ true → is_aword v ≡ true
  unfolding words_run when◌then◌else◌
  words_first h = go (is_aword v) refl
    where
      go : (b : Bool) → is_aword v ≡ b → is_aword v ≡ true
      go true e = e
      go false e = never (rw e at h)

  pub words_second : words_run op v w ≡ true → (operands_of op ≡ 1 → ⊥) → is_aword w ≡ true
  unfolding words_run when◌then◌else◌ if◌equals◌then◌else◌
  words_second h d = rw (words_first h, ne_eqb _ _ d) at h

-- ---- a constant that is a word

-- what a number means is a word, and all are constants
word_constant_kind : {ns : List ℕ} {n : ℕ} {ts : List Term} {x : ℕ} {v : Value} → Fit n ts → MeansValue ns v ts x → Const ts → is_aword v ≡ true → (at ts x).kind ≡ word_term
unfolding is_aword
word_constant_kind {ns} {n} {ts} {x} {v} f h c w =
    by_sort h.named (λ s. never (sym (ap is_aword (sym h.is ∙ (truth_means ns f s).is)) ∙ w))
    (λ s. constant_kind (at ts x) (const_at ts x c s.low) word_term (λ e. omega arith) s.is)
    (λ s. no_choice s c) (λ s. never (sym (ap is_aword (sym h.is ∙ procedure_means ns f s)) ∙ w))

-- a word constant
word_at : (ns : List ℕ) {n : ℕ} {ts : List Term} (x : ℕ) {v : Value} → Fit n ts → x < length ts → meaning ns ts x ≡ v → (at ts x).kind ≡ word_term → v ≡ word (term_word (at ts x))
word_at ns {ts = ts} x f l h k = sym h ∙ (means_at ns f x l ∙ means_word ns (meaning ns ts) (at ts x) k)

-- ---- 0 absorbs
-- "multiply or bitwise and"
absorbed : {P : Type 0} (op : ℕ) → zero_absorbs_of op ≡ true → (op ≡ multiply_code → P) → (op ≡ bitwise_and_code → P) → P
unfolding zero_absorbs_of if◌equals◌then◌else◌
absorbed op h f g = by_test (eqb op multiply_code) true (eqb op bitwise_and_code) h (λ i j. f (eqb-true _ _ i)) (λ i j. g (eqb-true _ _ j))

module _ (op : ℕ) (h : zero_absorbs_of op ≡ true) where
  absorbed_few : op < not_code
  absorbed_few = absorbed op h (λ e. omega arith) (λ e. omega arith)

  absorbed_word : gives_truth_of op ≡ false
  unfolding gives_truth_of row_of
  absorbed_word = absorbed op h (λ e. rw e) (λ e. rw e)

  zero_first : (y : ℕ) → operate_of op 0 y ≡ 0
  unfolding operate_of if◌equals◌then◌else◌
  zero_first y = absorbed op h (λ e. rw e (zero_product width y)) (λ e. rw e (zero_and y))

  zero_second : (x : ℕ) → operate_of op x 0 ≡ 0
  unfolding operate_of if◌equals◌then◌else◌
  zero_second x = absorbed op h (λ e. rw e (product_zero width x)) (λ e. rw e (and_zero x))

  -- on what is no word it reads as word 0 too
  absorbed_means : (v w : Value) → operate_of op (word_in v) (word_in w) ≡ 0 → operator_meaning op v w ≡ word 0
  unfolding operator_meaning wrong_value operation_value if◌below◌then◌else◌ when◌then◌else◌
  absorbed_means v w e = rw (lt-ltb _ _ absorbed_few, absorbed_word, e) (pick_same (words_run op v w))

-- the word constant 0 means word 0
zero_at : (ns : List ℕ) {n : ℕ} {ts : List Term} (x : ℕ) {v : Value} → Fit n ts → x < length ts → meaning ns ts x ≡ v → is_zero_of (at ts x) ≡ true → word_in v ≡ 0
unfolding is_zero_of if◌equals◌then◌else◌ with word_in
zero_at ns {ts = ts} x f l h e =
    by_test (eqb (at ts x).kind word_term) (eqb (term_word (at ts x)) 0) false e (λ k z. ap word_in (word_at ns x f l h (eqb-true _ _ k)) ∙ eqb-true _ _ z) (λ k z. never z)

-- the second operand, if there is one
pub record Second (ns : List ℕ) (v : Value) (ts : List Term) (x : ℕ) : Type 0 where
  pub low : x < length ts
  pub is : meaning ns ts x ≡ v

pub second_step : {ns : List ℕ} {n : ℕ} {ts us : List Term} {v : Value} {x : ℕ} → Step n ts us → Second ns v ts x → Second ns v us x
second_step {ns} {x = x} g h = let l = grown_length g.grown in let k = h.low in record { low = omega arith; is = meaning_grown ns x g.grown h.low ∙ h.is }

-- a truth that is kept as a word
number_is : {ns : List ℕ} {n : ℕ} {ts : List Term} → Fit n ts → (w : ℕ) → MeansValue ns (truth (eqb w 1)) ts (truth_number w)
unfolding truth_number if◌equals◌then◌else◌
number_is {ns} {ts = ts} f w = go (eqb w 1)
  where
    go : (b : Bool) → MeansValue ns (truth b) ts (pick b true_number false_number)
    go true = truth_is_value (true_means f)
    go false = truth_is_value (false_means f)

module _ {l n : ℕ} {N : ℕ → Type 0} (full : N table_full) {ns : List ℕ} {ts : List Term} (f : Fit n ts) where
  constant_does : (op x y : ℕ) → Does l n (constant_of op (operate_of op x y)) ts (MeansValue ns (operation_value op x y)) N
  unfolding constant_of
  constant_does op x y =
      does_with _ _ (does_if (gives_truth_of op)
      (λ e. does_with _ _ (does_give _ f (rw (operation_truth op x y e) (number_is f (operate_of op x y)))))
      (λ e. rw (operation_word op x y e) (word_does full (operate_of op x y) f)))

  -- an operator that is not worked out: not all of the table's terms are constants, or else it would be
  zero_fold_does : {op a b : ℕ} {v w : Value} → Operands ts op a b → MeansValue ns v ts a → Second ns w ts b
      → (Const ts → is_constant (term operator_term op a b 0) ≡ true) → Does l n (zero_fold_of op a b) ts (MeansValue ns (operator_meaning op v w)) N
  unfolding zero_fold_of
  zero_fold_does {op} {a} {b} {v} {w} h x y q =
      does_with _ _ (does_if _ (λ p. does_read _ _ (does_with _ _ (does_if _ (λ z. zero p (ap (λ (m : ℕ). operate_of op m (word_in w)) (zero_at ns a f x.named.low x.is z) ∙ zero_first op p (word_in w))) λ d.
      does_read _ _ (does_with _ _ (does_if _ (λ z. zero p (ap (operate_of op (word_in v)) (zero_at ns b f y.low y.is z) ∙ zero_second op p (word_in v))) λ e. made))))) λ p. made)
    where
      zero : zero_absorbs_of op ≡ true → operate_of op (word_in v) (word_in w) ≡ 0 → Does l n (make_word_of 0) ts (MeansValue ns (operator_meaning op v w)) N
      zero p e = rw (absorbed_means op p v w e) (word_does full 0 f)

      made : Does l n (make_operator_of op a b) ts (MeansValue ns (operator_meaning op v w)) N
      made =
          does_weaken f (λ us k s j. record {
            named = operator_value j;
            is = there_means ns s.fit j ∙ mean_operator ns (meaning ns us) op a b (value_step s x).is (second_step s y).is;
          }) (does_make_constant full f (laid_operator h) q)

  pub operator_does : {op a b : ℕ} {v w : Value} → Operands ts op a b → MeansValue ns v ts a → Second ns w ts b → ((operands_of op ≡ 1 → ⊥) → MeansValue ns w ts b)
      → (Const ts → words_run op v w ≡ true) → Does l n (operator_term_of op a b) ts (MeansValue ns (operator_meaning op v w)) N
  unfolding operator_term_of word_in is_aword
  operator_does {op} {a} {b} {v} {w} h x y z c =
      does_read _ _ (does_eq _ _ (λ e. let i : v ≡ word (term_word (at ts a)) = word_at ns a f x.named.low x.is e in
      does_with _ _ (does_eq _ _ (λ d. does_with _ _ (does_with _ _ (rw (operator_words op v w h.few (words_one op v w (ap is_aword i) d), i, one_value op (term_word (at ts a)) (word_in w) 0 h.few d) (constant_does op _ 0)))) λ d.
      does_read _ _ (does_eq _ _ (λ k. let j : w ≡ word (term_word (at ts b)) = word_at ns b f y.low y.is k in
      does_with _ _ (does_with _ _ (does_with _ _ (rw (operator_words op v w h.few (words_two op v w (ap is_aword i) (ap is_aword j)), i, j) (constant_does op _ _))))) λ k.
      zero_fold_does h x y (λ q. absurd (k (word_constant_kind f (z d) q (words_second op v w (c q) d)))))))
      λ e. zero_fold_does h x y (λ q. absurd (e (word_constant_kind f x q (words_first op v w (c q))))))
