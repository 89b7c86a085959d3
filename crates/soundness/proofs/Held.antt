-- What numbers are held to mean: a truth, a value, a chain of bindings. A value is no binding, and what is known of a truth is so.
-- Assumes nothing.
use mathlib.Core.Path.{◌≡◌, refl, sym, ap, ◌∙◌}
use mathlib.Core.Bool.{Bool, true, false}
use mathlib.Core.List.{List, ◌∷◌}
use Prim.Native.Nat.{ℕ, ◌<◌}
use native.Mathlib.Omega.{arith}
use lib.ListN.{length}
use lib.Dec.{eqb}
use borrow.Author.Tests.{eqb-true}
use Rattle.notation.specs.Notation.{pick, with, if◌equals◌then◌else◌}
use Rattle.semantics.specs.declared.Term.{Term}
use Rattle.semantics.specs.Numbers.{truth_term, choice_term, binding_term, false_number, true_number}
use Rattle.semantics.specs.Terms.{term, at, sort_of, known_of, names_value, laid_out, well_formed}
use Rattle.semantics.specs.Run.{Value, truth, none}
use Rattle.semantics.specs.Fold.{fold_at}
use Rattle.semantics.proofs.Fold.{fold_has}
use Rattle.typing.proofs.Grown.{at_lower, at_newest, Sort, Value as Named, sort_grown, value_grown}
use Rattle.typing.proofs.Formed.{never, choice_names}
use Rattle.typing.proofs.Folds.{formed_each}
use Rattle.typing.proofs.Does.{Fit}
use Rattle.typing.proofs.Factory.{false_truth, true_truth, truth_value}
use Rattle.soundness.proofs.Means.{is_true, is_proper, term_meaning, meaning_from, meaning, meaning_grown}
use Rattle.soundness.proofs.Constants.{Const, const_at, Step}
use Rattle.soundness.proofs.BySort.{Kind, constant_truth_lem, constant_word_lem, free_truth_lem, free_word_lem, truth_operator, word_operator, a_choice, a_procedure, a_binding, no_kind, kind_of, means_truth, means_word, means_free_truth, means_free_word, means_operator, means_choice, means_procedure, operator_truth, operator_word, IsTruth, IsWord, constant_kind, means_at, there_means, truth_means}

-- ---- a value is no binding
module _ (ts : List Term) (x : ℕ) (h : names_value ts x ≡ true) where
  pub named_some : sort_of (at ts x) ≡ 0 → ⊥
  unfolding names_value with if◌equals◌then◌else◌
  named_some e = never (rw e at h)

  pub named_other : sort_of (at ts x) ≡ binding_term → ⊥
  unfolding names_value with if◌equals◌then◌else◌
  named_other e = never (rw e at h)

truth_proper : {v : Value} → IsTruth v → is_proper v ≡ true
truth_proper h = ap is_proper h.is

word_proper : {v : Value} → IsWord v → is_proper v ≡ true
word_proper h = ap is_proper h.is

module _ (ns : List ℕ) (f : ℕ → Value) (t : Term) where
  term_proper : (k : ℕ) → (k ≡ 0 → ⊥) → (k ≡ binding_term → ⊥)
      → (t.kind ≡ choice_term → is_proper (f t.b) ≡ true × is_proper (f t.c) ≡ true) → Kind t k → is_proper (meaning_from ns f t) ≡ true
  term_proper k z b c (constant_truth_lem i) = ap is_proper (means_truth ns f t i)
  term_proper k z b c (constant_word_lem i) = ap is_proper (means_word ns f t i)
  term_proper k z b c (free_truth_lem i) = ap is_proper (means_free_truth ns f t i)
  term_proper k z b c (free_word_lem i) = ap is_proper (means_free_word ns f t i)
  term_proper k z b c (truth_operator i j) = ap is_proper (means_operator ns f t i) ∙ truth_proper (operator_truth t.op (f t.a) (f t.b) j)
  term_proper k z b c (word_operator i j) = ap is_proper (means_operator ns f t i) ∙ word_proper (operator_word t.op (f t.a) (f t.b) j)
  term_proper k z b c (a_choice i) = ap is_proper (means_choice ns f t i) ∙ go (is_true (f t.a)) (c i)
    where
      go : (e : Bool) → is_proper (f t.b) ≡ true × is_proper (f t.c) ≡ true → is_proper (pick e (f t.b) (f t.c)) ≡ true
      go true e = e.0
      go false e = e.1
  term_proper k z b c (a_procedure i) = ap is_proper (means_procedure ns f t i)
  term_proper k z b c (a_binding i) = absurd (b refl)
  term_proper k z b c no_kind = absurd (z refl)

named_lower : {t : Term} {ts : List Term} {x : ℕ} → Named (t ∷ ts) x → x < length ts → Named ts x
unfolding names_value
named_lower {t} {ts} {x} k i = record { is = rw (at_lower t ts x i) at k.is; low = i }

proper_at : (ns : List ℕ) (n : ℕ) (ts : List Term) (x : ℕ) → well_formed n ts ≡ true → Named ts x → is_proper (meaning ns ts x) ≡ true
unfolding meaning
proper_at ns n ts x h k =
    fold_has (term_meaning ns) none (λ us t. laid_out n us t ≡ true) (λ us y v. Named us y → is_proper v ≡ true) stays newest ts (formed_each n ts h) x k.low k
  where
    stays : (t : Term) (us : List Term) (y : ℕ) (v : Value) → y < length us → (Named us y → is_proper v ≡ true) → Named (t ∷ us) y → is_proper v ≡ true
    stays t us y v l h m = h (named_lower m l)

    newest : (t : Term) (us : List Term) → laid_out n us t ≡ true → ((y : ℕ) → y < length us → Named us y → is_proper (fold_at (term_meaning ns) none us y) ≡ true)
        → Named (t ∷ us) (length us) → is_proper (meaning_from ns (fold_at (term_meaning ns) none us) t) ≡ true
    newest t us p r m =
        let j : sort_of (at (t ∷ us) (length us)) ≡ sort_of t = ap sort_of (at_newest t us) in
        term_proper ns (fold_at (term_meaning ns) none us) t (sort_of t) (λ z. named_some (t ∷ us) (length us) m.is (j ∙ z)) (λ z. named_other (t ∷ us) (length us) m.is (j ∙ z))
        (λ z. let c = choice_names n us t p z in (r t.b c.1.low c.1, r t.c c.2.low c.2)) (kind_of t)

-- ---- what a number is held to mean
-- x is the number of a truth, and means b
pub record MeansTruth (ns : List ℕ) (b : Bool) (ts : List Term) (x : ℕ) : Type 0 where
  pub sort : Sort truth_term ts x
  pub is : meaning ns ts x ≡ truth b

-- x is the number of a value, which is no binding, and means v
pub record MeansValue (ns : List ℕ) (v : Value) (ts : List Term) (x : ℕ) : Type 0 where
  pub named : Named ts x
  pub is : meaning ns ts x ≡ v

-- x is the number of a binding, and the chain of bindings from there on is v
pub record MeansBindings (ns : List ℕ) (v : Value) (ts : List Term) (x : ℕ) : Type 0 where
  pub sort : Sort binding_term ts x
  pub is : meaning ns ts x ≡ v

module _ {ns : List ℕ} {n : ℕ} {ts us : List Term} (g : Step n ts us) where
  pub truth_step : {b : Bool} {x : ℕ} → MeansTruth ns b ts x → MeansTruth ns b us x
  truth_step {x = x} h = record { sort = sort_grown g.grown h.sort; is = meaning_grown ns x g.grown h.sort.low ∙ h.is }

  pub value_step : {v : Value} {x : ℕ} → MeansValue ns v ts x → MeansValue ns v us x
  value_step {x = x} h = record { named = value_grown g.grown h.named; is = meaning_grown ns x g.grown h.named.low ∙ h.is }

  pub bindings_step : {v : Value} {x : ℕ} → MeansBindings ns v ts x → MeansBindings ns v us x
  bindings_step {x = x} h = record { sort = sort_grown g.grown h.sort; is = meaning_grown ns x g.grown h.sort.low ∙ h.is }

pub truth_is_value : {ns : List ℕ} {ts : List Term} {b : Bool} {x : ℕ} → MeansTruth ns b ts x → MeansValue ns (truth b) ts x
truth_is_value h = record { named = truth_value h.sort; is = h.is }

pub is_proper_lem : {ns : List ℕ} {n : ℕ} {ts : List Term} {v : Value} {x : ℕ} → Fit n ts → MeansValue ns v ts x → is_proper v ≡ true
is_proper_lem {ns} {n} {ts} {v} {x} f h = ap is_proper (sym h.is) ∙ proper_at ns n ts x f.formed h.named

-- ---- the two constants
module _ {ns : List ℕ} {n : ℕ} {ts : List Term} (f : Fit n ts) where
  pub false_means : MeansTruth ns false ts false_number
  false_means = record { sort = false_truth f; is = there_means ns f f.no ∙ means_truth ns (meaning ns ts) (term truth_term 0 0 0 0) refl }

  pub true_means : MeansTruth ns true ts true_number
  true_means = record { sort = true_truth f; is = there_means ns f f.yes ∙ means_truth ns (meaning ns ts) (term truth_term 0 1 0 0) refl }

  -- any truth means true or false
  pub some_truth : {x : ℕ} → Sort truth_term ts x → MeansTruth ns (is_true (meaning ns ts x)) ts x
  some_truth h = record { sort = h; is = (truth_means ns f h).is }

-- ---- what is known of a truth
by_case : {P : Type 0} (b : Bool) (x y : ℕ) {m : ℕ} → pick b x y ≡ m → (b ≡ true → x ≡ m → P) → (b ≡ false → y ≡ m → P) → P
by_case true x y h f g = f refl h
by_case false x y h f g = g refl h

module _ (ns : List ℕ) (f : ℕ → Value) (t : Term) where
  known_false_lem : known_of t ≡ 0 → meaning_from ns f t ≡ truth false
  unfolding known_of if◌equals◌then◌else◌
  known_false_lem h =
      by_case (eqb t.kind truth_term) _ _ h (λ i h. by_case (eqb t.a 0) _ _ h (λ j k. means_truth ns f t (eqb-true _ _ i) ∙ rw j) (λ j k. absurd (omega arith)))
      (λ i h. absurd (omega arith))

  known_true_lem : known_of t ≡ 1 → meaning_from ns f t ≡ truth true
  unfolding known_of if◌equals◌then◌else◌
  known_true_lem h =
      by_case (eqb t.kind truth_term) _ _ h (λ i h. by_case (eqb t.a 0) _ _ h (λ j k. absurd (omega arith)) (λ j k. means_truth ns f t (eqb-true _ _ i) ∙ rw j))
      (λ i h. absurd (omega arith))

known_some : {P : Type 0} (t : Term) → t.kind ≡ truth_term → (known_of t ≡ 0 → ⊥) → (known_of t ≡ 1 → ⊥) → P
unfolding known_of if◌equals◌then◌else◌
known_some {P} t k a b = go (eqb t.a 0) refl
  where
    go : (c : Bool) → eqb t.a 0 ≡ c → P
    go true e = absurd (a (rw (k, e)))
    go false e = absurd (b (rw (k, e)))

module _ {ns : List ℕ} {n : ℕ} {ts : List Term} {x : ℕ} {b : Bool} (f : Fit n ts) (h : MeansTruth ns b ts x) where
  pub known_is_false : known_of (at ts x) ≡ 0 → b ≡ false
  known_is_false e = ap is_true (sym h.is ∙ (means_at ns f x h.sort.low ∙ known_false_lem ns (meaning ns ts) (at ts x) e))

  pub known_is_true : known_of (at ts x) ≡ 1 → b ≡ true
  known_is_true e = ap is_true (sym h.is ∙ (means_at ns f x h.sort.low ∙ known_true_lem ns (meaning ns ts) (at ts x) e))

  -- a truth that is not known is no constant
  pub unknown : {P : Type 0} → (known_of (at ts x) ≡ 0 → ⊥) → (known_of (at ts x) ≡ 1 → ⊥) → Const ts → P
  unknown a c k = known_some (at ts x) (constant_kind (at ts x) (const_at ts x k h.sort.low) truth_term (λ e. omega arith) h.sort.is) a c
