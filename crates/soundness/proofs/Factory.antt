-- What the factory makes means what its name says, under any numbers; on a table of constants it makes constants. Assumes nothing.
use mathlib.Core.Path.{◌≡◌, refl, sym, ap, ◌∙◌}
use mathlib.Core.Bool.{Bool, true, false, not, ◌&&◌, ◌||◌, and-true, and-false, or-true, or-false}
use mathlib.Core.List.{List}
use Prim.Native.Nat.{ℕ, ◌<◌}
use lib.Dec.{eqb}
use borrow.Author.Tests.{eqb-true}
use Rattle.words.proofs.Words.{join_halves}
use Rattle.notation.specs.Notation.{pick, if◌equals◌then◌else◌, if◌below◌then◌else◌}
use Rattle.operators.specs.Operators.{gives_truth_of}
use Rattle.semantics.specs.declared.Term.{Term}
use Rattle.semantics.specs.Numbers.{truth_term, word_term, operator_term, choice_term, procedure_term, binding_term, is_word_code, is_procedure_code, negation_code, conjunction_code, disjunction_code, truth_code, record_limit, table_full}
use Rattle.semantics.specs.Terms.{term, word_term_of, at, sort_of}
use Rattle.semantics.specs.Steps.{make_of}
use Rattle.semantics.specs.Factory.{is_not_of, not_of, and_of, or_of, implies_of, choice_of, truth_of, is_word_of, is_procedure_of}
use Rattle.semantics.specs.Run.{Value, truth, word, procedure, binding, is_false, is_aword, is_aprocedure}
use Rattle.typing.proofs.Grown.{Sort, Value as Named, value_of, sort_at, sort_grown}
use Rattle.typing.proofs.Formed.{never, by_test, not_names, laid_at}
use Rattle.typing.proofs.Does.{Lies, Fit, does_give, does_then, does_weaken, does_read, does_with, does_if, does_eq}
use Rattle.typing.proofs.Factory.{there_sort, laid_not, laid_and, laid_or, laid_truth, laid_is_word, laid_is_procedure, laid_choice, laid_word, laid_binding, laid_procedure, formula, word_sort, choice_sort, procedure_sort, binding_sort, gives_not, gives_and, gives_or, gives_truth, gives_is_word, gives_is_procedure}
use Rattle.soundness.proofs.Means.{is_true, is_proper, operator_meaning, term_meaning, meaning_from, meaning}
use Rattle.soundness.proofs.Constants.{is_constant, Const, const_at, Step, Does, does_make_constant}
use Rattle.soundness.proofs.BySort.{Kind, constant_truth_lem, constant_word_lem, free_truth_lem, free_word_lem, truth_operator, word_operator, a_choice, a_procedure, a_binding, no_kind, kind_of, means_word, means_operator, means_choice, means_at, means_procedure, means_binding, there_means, truth_means, word_means, procedure_means, choice_kind}
use Rattle.soundness.proofs.Held.{MeansTruth, MeansValue, MeansBindings, truth_step, value_step, bindings_step, is_proper_lem, false_means, true_means, some_truth, known_is_false, known_is_true, unknown, named_some, named_other}

-- the meanings of terms that are made
module _ (ns : List ℕ) (f : ℕ → Value) where
  -- of any term that is a not
  mean_not : (t : Term) {b : Bool} → t.kind ≡ operator_term → t.op ≡ negation_code → f t.a ≡ truth b → meaning_from ns f t ≡ truth (not b)
  unfolding operator_meaning if◌equals◌then◌else◌ if◌below◌then◌else◌
  mean_not t k o h = means_operator ns f t k ∙ rw (o, h)

  mean_and : (x y : ℕ) {b c : Bool} → f x ≡ truth b → f y ≡ truth c → meaning_from ns f (term operator_term conjunction_code x y 0) ≡ truth (b && c)
  unfolding term_meaning operator_meaning if◌equals◌then◌else◌ if◌below◌then◌else◌
  mean_and x y h k = rw (h, k)

  mean_or : (x y : ℕ) {b c : Bool} → f x ≡ truth b → f y ≡ truth c → meaning_from ns f (term operator_term disjunction_code x y 0) ≡ truth (b || c)
  unfolding term_meaning operator_meaning if◌equals◌then◌else◌ if◌below◌then◌else◌
  mean_or x y h k = rw (h, k)

  mean_truth : (x : ℕ) {v : Value} → f x ≡ v → is_proper v ≡ true → meaning_from ns f (term operator_term truth_code x 0 0) ≡ truth (not (is_false v))
  unfolding term_meaning operator_meaning if◌equals◌then◌else◌ if◌below◌then◌else◌
  mean_truth x h k = rw (h, k)

  mean_is_word : (x : ℕ) {v : Value} → f x ≡ v → meaning_from ns f (term operator_term is_word_code x 0 0) ≡ truth (is_aword v)
  unfolding term_meaning operator_meaning if◌equals◌then◌else◌ if◌below◌then◌else◌
  mean_is_word x h = rw h

  mean_is_procedure : (x : ℕ) {v : Value} → f x ≡ v → meaning_from ns f (term operator_term is_procedure_code x 0 0) ≡ truth (is_aprocedure v)
  unfolding term_meaning operator_meaning if◌equals◌then◌else◌ if◌below◌then◌else◌
  mean_is_procedure x h = rw h

  mean_choice : (g x y : ℕ) {b : Bool} {v w : Value} → f g ≡ truth b → f x ≡ v → f y ≡ w → meaning_from ns f (term choice_term 0 g x y) ≡ pick b v w
  mean_choice g x y h k i = means_choice ns f (term choice_term 0 g x y) refl ∙ rw (h, k, i)

  pub mean_operator : (op x y : ℕ) {v w : Value} → f x ≡ v → f y ≡ w → meaning_from ns f (term operator_term op x y 0) ≡ operator_meaning op v w
  unfolding term_meaning if◌equals◌then◌else◌
  mean_operator op x y h k = rw (h, k)

-- ---- constants
word_constant : (w : ℕ) → is_constant (word_term_of w) ≡ true
unfolding is_constant if◌equals◌then◌else◌
word_constant w = refl

procedure_constant : (i e b : ℕ) → is_constant (term procedure_term 0 i e b) ≡ true
unfolding is_constant if◌equals◌then◌else◌
procedure_constant i e b = refl

binding_constant : (v e : ℕ) → is_constant (term binding_term 0 v e 0) ≡ true
unfolding is_constant if◌equals◌then◌else◌
binding_constant v e = refl

choice_constant : (t : Term) → t.kind ≡ choice_term → is_constant t ≡ false
unfolding is_constant if◌equals◌then◌else◌
choice_constant t k = rw k

-- a table of constants has no choice
pub no_choice : {P : Type 0} {ts : List Term} {x : ℕ} → Sort choice_term ts x → Const ts → P
no_choice {ts = ts} {x} h c = never (sym (choice_constant (at ts x) (choice_kind (at ts x) h.is)) ∙ const_at ts x c h.low)

and_self : (b : Bool) → (b && b) ≡ b
and_self true = refl
and_self false = refl

or_self : (b : Bool) → (b || b) ≡ b
or_self true = refl
or_self false = refl

-- one number means one truth
same_truth : {ns : List ℕ} {ts : List Term} {x y : ℕ} {b c : Bool} → MeansTruth ns b ts x → MeansTruth ns c ts y → x ≡ y → c ≡ b
same_truth {ns} {ts} h k e = ap is_true (sym k.is ∙ (ap (meaning ns ts) (sym e) ∙ h.is))

-- one number means one value, whichever way a choice goes
same_value : {ns : List ℕ} {ts : List Term} {x y : ℕ} {v w : Value} (b : Bool) → MeansValue ns v ts x → MeansValue ns w ts y → x ≡ y → MeansValue ns (pick b v w) ts x
same_value {ns} {ts} true h k e = h
same_value {ns} {ts} false h k e = record { named = h.named; is = ap (meaning ns ts) e ∙ k.is }

-- ---- a not
is_a_not : {P : Type 0} (t : Term) → is_not_of t ≡ true → (t.kind ≡ operator_term → t.op ≡ negation_code → P) → P
unfolding is_not_of if◌equals◌then◌else◌
is_a_not t h f = by_test (eqb t.kind operator_term) (eqb t.op negation_code) false h (λ i j. f (eqb-true _ _ i) (eqb-true _ _ j)) (λ i j. never j)

not_not : (b : Bool) → not (not b) ≡ b
not_not true = refl
not_not false = refl

-- the operand of a not means the other truth
not_operand : {ns : List ℕ} {n : ℕ} {ts : List Term} {x : ℕ} {b : Bool} → Fit n ts → MeansTruth ns b ts x → is_not_of (at ts x) ≡ true → MeansTruth ns (not b) ts (at ts x).a
not_operand {ns} {n} {ts} {x} {b} f h e =
    is_a_not (at ts x) e λ k o.
    let y = laid_at n ts x f.formed h.sort.low in
    let m = some_truth f (sort_grown y.grown (not_names n y.under (at ts x) y.laid k o)) in
    let i : meaning ns ts x ≡ truth (not (is_true (meaning ns ts (at ts x).a))) = means_at ns f x h.sort.low ∙ mean_not ns (meaning ns ts) (at ts x) k o m.is in
    let j : b ≡ not (is_true (meaning ns ts (at ts x).a)) = ap is_true (sym h.is ∙ i) in
    record { sort = m.sort; is = m.is ∙ ap truth (sym (ap not j ∙ not_not (is_true (meaning ns ts (at ts x).a)))) }

-- a value by its sort
module _ {P : Type 0} {ts : List Term} {x : ℕ} (h : Named ts x) where
  cases : (k : ℕ) → sort_of (at ts x) ≡ k → Kind (at ts x) k → (Sort truth_term ts x → P) → (Sort word_term ts x → P) → (Sort choice_term ts x → P) → (Sort procedure_term ts x → P) → P
  cases k e (constant_truth_lem i) a b c d = a (record { is = e; low = h.low })
  cases k e (constant_word_lem i) a b c d = b (record { is = e; low = h.low })
  cases k e (free_truth_lem i) a b c d = a (record { is = e; low = h.low })
  cases k e (free_word_lem i) a b c d = b (record { is = e; low = h.low })
  cases k e (truth_operator i j) a b c d = a (record { is = e; low = h.low })
  cases k e (word_operator i j) a b c d = b (record { is = e; low = h.low })
  cases k e (a_choice i) a b c d = c (record { is = e; low = h.low })
  cases k e (a_procedure i) a b c d = d (record { is = e; low = h.low })
  cases k e (a_binding i) a b c d = absurd (named_other ts x h.is e)
  cases k e no_kind a b c d = absurd (named_some ts x h.is e)

  pub by_sort : (Sort truth_term ts x → P) → (Sort word_term ts x → P) → (Sort choice_term ts x → P) → (Sort procedure_term ts x → P) → P
  by_sort a b c d = cases (sort_of (at ts x)) refl (kind_of (at ts x)) a b c d

module _ {ns : List ℕ} {n : ℕ} {ts : List Term} {x : ℕ} {v : Value} (f : Fit n ts) (h : MeansValue ns v ts x) where
  -- what is no choice, and no truth, does not fail a test
  not-false : (sort_of (at ts x) ≡ choice_term → ⊥) → (sort_of (at ts x) ≡ truth_term → ⊥) → not (is_false v) ≡ true
  unfolding is_false
  not-false a b =
      by_sort h.named (λ s. absurd (b s.is)) (λ s. rw (sym h.is ∙ (word_means ns f s).is)) (λ s. absurd (a s.is))
      (λ s. rw (sym h.is ∙ procedure_means ns f s))

  is_truth_lem : (s : sort_of (at ts x) ≡ truth_term) → MeansTruth ns (not (is_false v)) ts x
  unfolding is_false
  is_truth_lem s =
      let t : Sort truth_term ts x = sort_at ts x truth_term refl s in
      let e = (truth_means ns f t).is in
      record { sort = t; is = e ∙ ap truth (go (is_true (meaning ns ts x)) ∙ ap (λ u. not (is_false u)) (sym e ∙ h.is)) }
    where
      go : (b : Bool) → b ≡ not (not b)
      go true = refl
      go false = refl

  is_word_lem : sort_of (at ts x) ≡ word_term → is_aword v ≡ true
  unfolding is_aword
  is_word_lem s = ap is_aword (sym h.is ∙ (word_means ns f (sort_at ts x word_term refl s)).is)

  no_word : (sort_of (at ts x) ≡ choice_term → ⊥) → (sort_of (at ts x) ≡ word_term → ⊥) → is_aword v ≡ false
  unfolding is_aword
  no_word a b =
      by_sort h.named (λ s. ap is_aword (sym h.is ∙ (truth_means ns f s).is)) (λ s. absurd (b s.is)) (λ s. absurd (a s.is))
      (λ s. ap is_aword (sym h.is ∙ procedure_means ns f s))

  is_procedure : sort_of (at ts x) ≡ procedure_term → is_aprocedure v ≡ true
  unfolding is_aprocedure
  is_procedure s = ap is_aprocedure (sym h.is ∙ procedure_means ns f (sort_at ts x procedure_term refl s))

  pub no_procedure : (sort_of (at ts x) ≡ choice_term → ⊥) → (sort_of (at ts x) ≡ procedure_term → ⊥) → is_aprocedure v ≡ false
  unfolding is_aprocedure
  no_procedure a b =
      by_sort h.named (λ s. ap is_aprocedure (sym h.is ∙ (truth_means ns f s).is)) (λ s. ap is_aprocedure (sym h.is ∙ (word_means ns f s).is))
      (λ s. absurd (a s.is)) (λ s. absurd (b s.is))

module _ {l n : ℕ} {N : ℕ → Type 0} (full : N table_full) {ns : List ℕ} where
  -- a formula, where it is not folded
  formula_does : {ts : List Term} {op a b : ℕ} {c : Bool} → gives_truth_of op ≡ true → Fit n ts → Lies n ts (term operator_term op a b 0) → (Const ts → ⊥)
      → ((us : List Term) → Step n ts us → meaning_from ns (meaning ns us) (term operator_term op a b 0) ≡ truth c)
      → Does l n (make_of (term operator_term op a b 0)) ts (MeansTruth ns c) N
  formula_does {op = op} {a} {b} e f h k m =
      does_weaken f (λ us x g j. record { sort = there_sort truth_term (formula op a b e) j; is = there_means ns g.fit j ∙ m us g })
      (does_make_constant full f h (λ c. absurd (k c)))

  pub not_does : {ts : List Term} {x : ℕ} {b : Bool} → Fit n ts → MeansTruth ns b ts x → Does l n (not_of x) ts (MeansTruth ns (not b)) N
  unfolding not_of
  not_does {x = x} f h =
      does_read _ _ (does_eq _ _ (λ e. does_give _ f (rw (known_is_false f h e) (true_means f))) λ d. does_eq _ _ (λ e. does_give _ f (rw (known_is_true f h e) (false_means f))) λ e.
      does_read _ _ (does_with _ _ (does_if _ (λ i. does_give _ f (not_operand f h i)) λ i.
      formula_does gives_not f (laid_not h.sort) (unknown f h d e) (λ us g. mean_not ns (meaning ns us) (term operator_term negation_code x 0 0) refl refl (truth_step g h).is))))

  pub and_does : {ts : List Term} {x y : ℕ} {b c : Bool} → Fit n ts → MeansTruth ns b ts x → MeansTruth ns c ts y → Does l n (and_of x y) ts (MeansTruth ns (b && c)) N
  unfolding and_of
  and_does {x = x} {y} {b} {c} f h k =
      does_read _ _ (does_eq _ _ (λ e. does_give _ f (rw (known_is_false f h e) (false_means f))) λ d. does_eq _ _ (λ e. does_give _ f (rw (known_is_true f h e) k)) λ e.
      does_read _ _ (does_eq _ _ (λ i. does_give _ f (rw (known_is_false f k i, and-false b) (false_means f))) λ i. does_eq _ _ (λ j. does_give _ f (rw (known_is_true f k j, and-true b) h)) λ j.
      does_eq _ _ (λ s. does_give _ f (rw (same_truth h k s, and_self b) h)) λ s.
      formula_does gives_and f (laid_and h.sort k.sort) (unknown f h d e) (λ us g. mean_and ns (meaning ns us) x y (truth_step g h).is (truth_step g k).is)))

  pub or_does : {ts : List Term} {x y : ℕ} {b c : Bool} → Fit n ts → MeansTruth ns b ts x → MeansTruth ns c ts y → Does l n (or_of x y) ts (MeansTruth ns (b || c)) N
  unfolding or_of
  or_does {x = x} {y} {b} {c} f h k =
      does_read _ _ (does_eq _ _ (λ e. does_give _ f (rw (known_is_true f h e) (true_means f))) λ d. does_eq _ _ (λ e. does_give _ f (rw (known_is_false f h e) k)) λ e.
      does_read _ _ (does_eq _ _ (λ i. does_give _ f (rw (known_is_true f k i, or-true b) (true_means f))) λ i. does_eq _ _ (λ j. does_give _ f (rw (known_is_false f k j, or-false b) h)) λ j.
      does_eq _ _ (λ s. does_give _ f (rw (same_truth h k s, or_self b) h)) λ s.
      formula_does gives_or f (laid_or h.sort k.sort) (unknown f h e d) (λ us g. mean_or ns (meaning ns us) x y (truth_step g h).is (truth_step g k).is)))

  pub implies_does : {ts : List Term} {x y : ℕ} {b c : Bool} → Fit n ts → MeansTruth ns b ts x → MeansTruth ns c ts y → Does l n (implies_of x y) ts (MeansTruth ns (not b || c)) N
  unfolding implies_of
  implies_does f h k = does_then (not_does f h) (λ us a g j. or_does g.fit j (truth_step g k))

  pub choice_does : {ts : List Term} {g x y : ℕ} {b : Bool} {v w : Value} → Fit n ts → MeansTruth ns b ts g → MeansValue ns v ts x → MeansValue ns w ts y
      → Does l n (choice_of g x y) ts (MeansValue ns (pick b v w)) N
  unfolding choice_of
  choice_does {g = g} {x} {y} {b} f h k i =
      does_read _ _ (does_eq _ _ (λ e. does_give _ f (rw (known_is_true f h e) k)) λ d. does_eq _ _ (λ e. does_give _ f (rw (known_is_false f h e) i)) λ e.
      does_eq _ _ (λ s. does_give _ f (same_value b k i s)) λ s.
      does_weaken f (λ us a s j. record {
        named = value_of choice_term refl refl (there_sort choice_term (choice_sort g x y) j);
        is = there_means ns s.fit j ∙ mean_choice ns (meaning ns us) g x y (truth_step s h).is (value_step s k).is (value_step s i).is;
      }) (does_make_constant full f (laid_choice h.sort k.named i.named) (λ c. unknown f h e d c)))

  pub truth_does : {ts : List Term} {x : ℕ} {v : Value} → Fit n ts → MeansValue ns v ts x → Does l n (truth_of x) ts (MeansTruth ns (not (is_false v))) N
  unfolding truth_of
  truth_does {ts} {x} f h =
      does_read _ _ (does_eq _ _ (λ e. let s = sort_at ts x choice_term refl e in formula_does gives_truth f (laid_truth s) (no_choice s)
      (λ us g. mean_truth ns (meaning ns us) x (value_step g h).is (is_proper_lem f h))) λ d.
      does_eq _ _ (λ e. does_give _ f (is_truth_lem f h e)) λ e. does_give _ f (rw (not-false f h d e) (true_means f)))

  pub is_word_does : {ts : List Term} {x : ℕ} {v : Value} → Fit n ts → MeansValue ns v ts x → Does l n (is_word_of x) ts (MeansTruth ns (is_aword v)) N
  unfolding is_word_of
  is_word_does {ts} {x} f h =
      does_read _ _ (does_eq _ _ (λ e. let s = sort_at ts x choice_term refl e in formula_does gives_is_word f (laid_is_word s) (no_choice s)
      (λ us g. mean_is_word ns (meaning ns us) x (value_step g h).is)) λ d.
      does_eq _ _ (λ e. does_give _ f (rw (is_word_lem f h e) (true_means f))) λ e. does_give _ f (rw (no_word f h d e) (false_means f)))

  pub is_procedure_does : {ts : List Term} {x : ℕ} {v : Value} → Fit n ts → MeansValue ns v ts x → Does l n (is_procedure_of x) ts (MeansTruth ns (is_aprocedure v)) N
  unfolding is_procedure_of
  is_procedure_does {ts} {x} f h =
      does_read _ _ (does_eq _ _ (λ e. let s = sort_at ts x choice_term refl e in formula_does gives_is_procedure f (laid_is_procedure s) (no_choice s)
      (λ us g. mean_is_procedure ns (meaning ns us) x (value_step g h).is)) λ d.
      does_eq _ _ (λ e. does_give _ f (rw (is_procedure f h e) (true_means f))) λ e. does_give _ f (rw (no_procedure f h d e) (false_means f)))

  pub word_does : {ts : List Term} (w : ℕ) → Fit n ts → Does l n (make_of (word_term_of w)) ts (MeansValue ns (word w)) N
  word_does w f =
      does_weaken f (λ us a s j. record {
        named = value_of word_term refl refl (there_sort word_term (word_sort w) j);
        is = there_means ns s.fit j ∙ (means_word ns (meaning ns us) (word_term_of w) refl ∙ ap word (join_halves w));
      }) (does_make_constant full f (laid_word w) (λ c. word_constant w))

  pub procedure_does : {ts : List Term} {i e b : ℕ} {v : Value} → Fit n ts → i < record_limit → MeansBindings ns v ts e → b < n
      → Does l n (make_of (term procedure_term 0 i e b)) ts (MeansValue ns (procedure i v)) N
  procedure_does {i = i} {e} {b} f k h o =
      does_weaken f (λ us a s j. record {
        named = value_of procedure_term refl refl (there_sort procedure_term (procedure_sort i e b) j);
        is = there_means ns s.fit j ∙ (means_procedure ns (meaning ns us) (term procedure_term 0 i e b) refl ∙ ap (procedure i) (bindings_step s h).is);
      }) (does_make_constant full f (laid_procedure k h.sort o) (λ c. procedure_constant i e b))

  pub binding_does : {ts : List Term} {x e : ℕ} {v w : Value} → Fit n ts → MeansValue ns v ts x → MeansBindings ns w ts e
      → Does l n (make_of (term binding_term 0 x e 0)) ts (MeansBindings ns (binding v w)) N
  binding_does {x = x} {e} f h k =
      does_weaken f (λ us a s j. record {
        sort = there_sort binding_term (binding_sort x e) j;
        is = there_means ns s.fit j ∙ (means_binding ns (meaning ns us) (term binding_term 0 x e 0) refl ∙ rw ((value_step s h).is, (bindings_step s k).is));
      }) (does_make_constant full f (laid_binding h.named k.sort) (λ c. binding_constant x e))
