-- What a number means by the sort of the term that it names: a truth, a word, a procedure, a chain of bindings, or what a choice gives. And what
-- is known of a truth that is constant. Assumes nothing.
use mathlib.Core.Path.{◌≡◌, refl, sym, ap, ◌∙◌}
use mathlib.Core.Bool.{Bool, true, false, not}
use mathlib.Core.List.{List}
use Prim.Native.Nat.{ℕ, ◌<◌}
use native.Mathlib.Omega.{arith}
use lib.ListN.{length, get_or}
use lib.Dec.{eqb, ltb}
use borrow.Author.Tests.{eqb-true}
use Rattle.notation.specs.Notation.{pick, when◌then◌else◌, if◌equals◌then◌else◌, if◌below◌then◌else◌}
use Rattle.operators.specs.Operators.{gives_truth_of, row_of}
use Rattle.semantics.specs.declared.Term.{Term}
use Rattle.semantics.specs.Numbers.{truth_term, word_term, free_truth_term, free_word_term, operator_term, choice_term, procedure_term, binding_term, is_word_code, is_procedure_code, negation_code, conjunction_code, disjunction_code, truth_code}
use Rattle.semantics.specs.Terms.{term_word, at, sort_of}
use Rattle.semantics.specs.Run.{Value, truth, word, procedure, binding, word_in, operation_value}
use Rattle.typing.proofs.Grown.{Sort}
use Rattle.typing.proofs.Formed.{never, There}
use Rattle.typing.proofs.Does.{Fit}
use Rattle.soundness.proofs.Means.{is_true, wrong_value, operator_meaning, term_meaning, meaning_from, meaning, meaning_at}
use Rattle.soundness.proofs.Constants.{is_constant}

-- ---- a term by its sort
pub data Kind (t : Term) : ℕ → Type 0 where
  constant_truth_lem : t.kind ≡ truth_term → Kind t truth_term
  constant_word_lem : t.kind ≡ word_term → Kind t word_term
  free_truth_lem : t.kind ≡ free_truth_term → Kind t truth_term
  free_word_lem : t.kind ≡ free_word_term → Kind t word_term
  truth_operator : t.kind ≡ operator_term → gives_truth_of t.op ≡ true → Kind t truth_term
  word_operator : t.kind ≡ operator_term → gives_truth_of t.op ≡ false → Kind t word_term
  a_choice : t.kind ≡ choice_term → Kind t choice_term
  a_procedure : t.kind ≡ procedure_term → Kind t procedure_term
  a_binding : t.kind ≡ binding_term → Kind t binding_term
  no_kind : Kind t 0

kind_eq : {t : Term} {x y : ℕ} (i j : ℕ) → (i ≡ j → Kind t x) → Kind t y → Kind t (if i equals j then x else y)
unfolding if◌equals◌then◌else◌
kind_eq {t} {x} {y} i j f g = go (eqb i j) refl
  where
    go : (b : Bool) → eqb i j ≡ b → Kind t (pick b x y)
    go true e = f (eqb-true i j e)
    go false e = g

kind_if : {t : Term} {x y : ℕ} (b : Bool) → (b ≡ true → Kind t x) → (b ≡ false → Kind t y) → Kind t (when b then x else y)
unfolding when◌then◌else◌
kind_if true f g = f refl
kind_if false f g = g refl

pub kind_of : (t : Term) → Kind t (sort_of t)
unfolding sort_of
kind_of t =
    kind_eq _ _ constant_truth_lem (kind_eq _ _ constant_word_lem (kind_eq _ _ free_truth_lem (kind_eq _ _ free_word_lem
    (kind_eq _ _ (λ i. kind_if _ (truth_operator i) (word_operator i)) (kind_eq _ _ a_choice (kind_eq _ _ a_procedure (kind_eq _ _ a_binding no_kind)))))))

-- ---- a term's meaning by its kind
module _ (ns : List ℕ) (f : ℕ → Value) (t : Term) where
  pub means_truth : t.kind ≡ truth_term → meaning_from ns f t ≡ truth (not (eqb t.a 0))
  unfolding term_meaning if◌equals◌then◌else◌
  means_truth k = rw k

  pub means_word : t.kind ≡ word_term → meaning_from ns f t ≡ word (term_word t)
  unfolding term_meaning if◌equals◌then◌else◌
  means_word k = rw k

  pub means_free_truth : t.kind ≡ free_truth_term → meaning_from ns f t ≡ truth (eqb (get_or ns t.a 0) 1)
  unfolding term_meaning if◌equals◌then◌else◌
  means_free_truth k = rw k

  pub means_free_word : t.kind ≡ free_word_term → meaning_from ns f t ≡ word (get_or ns t.a 0)
  unfolding term_meaning if◌equals◌then◌else◌
  means_free_word k = rw k

  pub means_operator : t.kind ≡ operator_term → meaning_from ns f t ≡ operator_meaning t.op (f t.a) (f t.b)
  unfolding term_meaning if◌equals◌then◌else◌
  means_operator k = rw k

  pub means_choice : t.kind ≡ choice_term → meaning_from ns f t ≡ pick (is_true (f t.a)) (f t.b) (f t.c)
  unfolding term_meaning if◌equals◌then◌else◌
  means_choice k = rw k

  pub means_procedure : t.kind ≡ procedure_term → meaning_from ns f t ≡ procedure t.a (f t.b)
  unfolding term_meaning if◌equals◌then◌else◌
  means_procedure k = rw k

  pub means_binding : t.kind ≡ binding_term → meaning_from ns f t ≡ binding (f t.a) (f t.b)
  unfolding term_meaning if◌equals◌then◌else◌
  means_binding k = rw k

-- ---- operators give truths or words
module _ (P : Value → Type 0) {x y : Value} where
  value_if : (b : Bool) → P x → P y → P (when b then x else y)
  unfolding when◌then◌else◌
  value_if true f g = f
  value_if false f g = g

  value_eq : (i j : ℕ) → (i ≡ j → P x) → P y → P (if i equals j then x else y)
  unfolding if◌equals◌then◌else◌
  value_eq i j f g = go (eqb i j) refl
    where
      go : (b : Bool) → eqb i j ≡ b → P (pick b x y)
      go true e = f (eqb-true i j e)
      go false e = g

  value_below : (i j : ℕ) → P x → P y → P (if i below j then x else y)
  unfolding if◌below◌then◌else◌
  value_below i j f g = go (ltb i j)
    where
      go : (b : Bool) → P (pick b x y)
      go true = f
      go false = g

pub record IsTruth (v : Value) : Type 0 where
  pub is : v ≡ truth (is_true v)

pub record IsWord (v : Value) : Type 0 where
  pub is : v ≡ word (word_in v)

a_truth : (b : Bool) → IsTruth (truth b)
a_truth b = record { is = refl }

a_word : (w : ℕ) → IsWord (word w)
unfolding word_in
a_word w = record { is = refl }

operation_truth : (op x y : ℕ) → gives_truth_of op ≡ true → IsTruth (operation_value op x y)
unfolding operation_value when◌then◌else◌
operation_truth op x y h = rw h (a_truth _)

operation_word : (op x y : ℕ) → gives_truth_of op ≡ false → IsWord (operation_value op x y)
unfolding operation_value when◌then◌else◌
operation_word op x y h = rw h (a_word _)

wrong_truth : (op : ℕ) → gives_truth_of op ≡ true → IsTruth (wrong_value op)
unfolding wrong_value when◌then◌else◌
wrong_truth op h = rw h (a_truth false)

wrong_word : (op : ℕ) → gives_truth_of op ≡ false → IsWord (wrong_value op)
unfolding wrong_value when◌then◌else◌
wrong_word op h = rw h (a_word 0)

pub operator_truth : (op : ℕ) (x y : Value) → gives_truth_of op ≡ true → IsTruth (operator_meaning op x y)
unfolding operator_meaning
operator_truth op x y h =
    value_below IsTruth _ _ (value_if IsTruth _ (operation_truth op _ _ h) (wrong_truth op h))
    (value_eq IsTruth _ _ (λ i. a_truth _) (value_eq IsTruth _ _ (λ i. a_truth _) (value_eq IsTruth _ _ (λ i. a_truth _) (value_eq IsTruth _ _ (λ i. a_truth _)
    (value_eq IsTruth _ _ (λ i. a_truth _) (value_eq IsTruth _ _ (λ i. a_truth _) (wrong_truth op h)))))))

-- a code that gives words is none of those that give truths
not_code_lem : {P : Type 0} (op k : ℕ) → gives_truth_of op ≡ false → gives_truth_of k ≡ true → op ≡ k → P
not_code_lem op k h e i = never (sym h ∙ (ap gives_truth_of i ∙ e))

pub operator_word : (op : ℕ) (x y : Value) → gives_truth_of op ≡ false → IsWord (operator_meaning op x y)
unfolding operator_meaning gives_truth_of row_of
operator_word op x y h =
    value_below IsWord _ _ (value_if IsWord _ (operation_word op _ _ h) (wrong_word op h))
    (value_eq IsWord _ _ (not_code_lem op is_word_code h refl) (value_eq IsWord _ _ (not_code_lem op is_procedure_code h refl) (value_eq IsWord _ _ (not_code_lem op negation_code h refl)
    (value_eq IsWord _ _ (not_code_lem op conjunction_code h refl) (value_eq IsWord _ _ (not_code_lem op disjunction_code h refl) (value_eq IsWord _ _ (not_code_lem op truth_code h refl) (wrong_word op h)))))))

-- ---- a number's meaning by its sort
module _ (ns : List ℕ) (f : ℕ → Value) (t : Term) where
  term_truth : (k : ℕ) → k ≡ truth_term → Kind t k → IsTruth (meaning_from ns f t)
  term_truth k e (constant_truth_lem i) = rw (means_truth ns f t i) (a_truth _)
  term_truth k e (constant_word_lem i) = absurd (omega arith)
  term_truth k e (free_truth_lem i) = rw (means_free_truth ns f t i) (a_truth _)
  term_truth k e (free_word_lem i) = absurd (omega arith)
  term_truth k e (truth_operator i j) = rw (means_operator ns f t i) (operator_truth t.op _ _ j)
  term_truth k e (word_operator i j) = absurd (omega arith)
  term_truth k e (a_choice i) = absurd (omega arith)
  term_truth k e (a_procedure i) = absurd (omega arith)
  term_truth k e (a_binding i) = absurd (omega arith)
  term_truth k e no_kind = absurd (omega arith)

  term_word_lem : (k : ℕ) → k ≡ word_term → Kind t k → IsWord (meaning_from ns f t)
  term_word_lem k e (constant_truth_lem i) = absurd (omega arith)
  term_word_lem k e (constant_word_lem i) = rw (means_word ns f t i) (a_word _)
  term_word_lem k e (free_truth_lem i) = absurd (omega arith)
  term_word_lem k e (free_word_lem i) = rw (means_free_word ns f t i) (a_word _)
  term_word_lem k e (truth_operator i j) = absurd (omega arith)
  term_word_lem k e (word_operator i j) = rw (means_operator ns f t i) (operator_word t.op _ _ j)
  term_word_lem k e (a_choice i) = absurd (omega arith)
  term_word_lem k e (a_procedure i) = absurd (omega arith)
  term_word_lem k e (a_binding i) = absurd (omega arith)
  term_word_lem k e no_kind = absurd (omega arith)

-- ---- a term's kind by its sort
module _ (t : Term) where
  -- a procedure, a choice and a binding have their sort for their kind; a truth and a word may be free, or an operator's
  own_kind : (k : ℕ) → word_term < k → Kind t k → t.kind ≡ k
  own_kind k h (constant_truth_lem i) = i
  own_kind k h (constant_word_lem i) = i
  own_kind k h (free_truth_lem i) = absurd (omega arith)
  own_kind k h (free_word_lem i) = absurd (omega arith)
  own_kind k h (truth_operator i j) = absurd (omega arith)
  own_kind k h (word_operator i j) = absurd (omega arith)
  own_kind k h (a_choice i) = i
  own_kind k h (a_procedure i) = i
  own_kind k h (a_binding i) = i
  own_kind k h no_kind = absurd (omega arith)

  -- every constant has its sort for its kind
  constant_own : is_constant t ≡ true → (k : ℕ) → (k ≡ 0 → ⊥) → Kind t k → t.kind ≡ k
  unfolding is_constant if◌equals◌then◌else◌
  constant_own c k h (constant_truth_lem i) = i
  constant_own c k h (constant_word_lem i) = i
  constant_own c k h (free_truth_lem i) = never (rw i at c)
  constant_own c k h (free_word_lem i) = never (rw i at c)
  constant_own c k h (truth_operator i j) = never (rw i at c)
  constant_own c k h (word_operator i j) = never (rw i at c)
  constant_own c k h (a_choice i) = i
  constant_own c k h (a_procedure i) = i
  constant_own c k h (a_binding i) = i
  constant_own c k h no_kind = absurd (h refl)

  pub procedure_kind : sort_of t ≡ procedure_term → t.kind ≡ procedure_term
  procedure_kind e = own_kind (sort_of t) (omega arith) (kind_of t) ∙ e

  pub choice_kind : sort_of t ≡ choice_term → t.kind ≡ choice_term
  choice_kind e = own_kind (sort_of t) (omega arith) (kind_of t) ∙ e

  pub binding_kind : sort_of t ≡ binding_term → t.kind ≡ binding_term
  binding_kind e = own_kind (sort_of t) (omega arith) (kind_of t) ∙ e

  pub constant_kind : is_constant t ≡ true → (k : ℕ) → (k ≡ 0 → ⊥) → sort_of t ≡ k → t.kind ≡ k
  constant_kind c k h e = constant_own c (sort_of t) (λ z. h (sym e ∙ z)) (kind_of t) ∙ e

-- ---- a table's numbers
module _ {n : ℕ} {ts : List Term} (ns : List ℕ) (f : Fit n ts) where
  pub means_at : (a : ℕ) → a < length ts → meaning ns ts a ≡ meaning_from ns (meaning ns ts) (at ts a)
  means_at a h = meaning_at ns n ts a f.formed f.short h

  pub there_means : {t : Term} {a : ℕ} → There t ts a → meaning ns ts a ≡ meaning_from ns (meaning ns ts) t
  there_means {a = a} h = means_at a h.low ∙ ap (meaning_from ns (meaning ns ts)) h.is

  pub truth_means : {a : ℕ} → Sort truth_term ts a → IsTruth (meaning ns ts a)
  truth_means {a} h = rw (means_at a h.low) (term_truth ns (meaning ns ts) (at ts a) (sort_of (at ts a)) h.is (kind_of (at ts a)))

  pub word_means : {a : ℕ} → Sort word_term ts a → IsWord (meaning ns ts a)
  word_means {a} h = rw (means_at a h.low) (term_word_lem ns (meaning ns ts) (at ts a) (sort_of (at ts a)) h.is (kind_of (at ts a)))

  pub procedure_means : {a : ℕ} → Sort procedure_term ts a → meaning ns ts a ≡ procedure (at ts a).a (meaning ns ts (at ts a).b)
  procedure_means {a} h = means_at a h.low ∙ means_procedure ns (meaning ns ts) (at ts a) (procedure_kind (at ts a) h.is)

  pub binding_means : {a : ℕ} → Sort binding_term ts a → meaning ns ts a ≡ binding (meaning ns ts (at ts a).a) (meaning ns ts (at ts a).b)
  binding_means {a} h = means_at a h.low ∙ means_binding ns (meaning ns ts) (at ts a) (binding_kind (at ts a) h.is)
