-- What is told of a term's gates, by the term's kind. Assumes nothing.
use mathlib.Core.Path.{◌≡◌, refl, sym, ◌∙◌}
use mathlib.Core.Bool.{Bool, true, false}
use mathlib.Core.List.{List, []}
use Prim.Native.Nat.{ℕ, ◌-◌}
use lib.Dec.{eqb}
use borrow.Author.Tests.{eqb-true, ne_eqb}
use Rattle.notation.specs.Notation.{pick, if◌equals◌then◌else◌}
use Rattle.words.specs.Words.{width}
use Rattle.circuits.specs.Gates.{Gate}
use Rattle.circuits.specs.Templates.{Wire, kinds}
use Rattle.semantics.specs.declared.Term.{Term}
use Rattle.semantics.specs.Numbers.{truth_term, word_term, free_truth_term, free_word_term, operator_term, choice_term, procedure_term}
use Rattle.semantics.specs.Terms.{term_word}
use Rattle.typing.proofs.Formed.{never}
use Rattle.clauses.specs.Clauses.{owned, digits, choices, operation_gates, term_gates, helpers, helpers_of}

module _ {A : Type 0} (f : List (Gate Wire) → A) (t u : Term) where
  abbrev pub by_kind : A
  by_kind =
      if t.kind equals truth_term then f (kinds false false (digits 2 width t.a)) else
      if t.kind equals word_term then f (kinds true false (digits 2 width (term_word t))) else
      if t.kind equals free_truth_term then f (kinds false false (digits 3 (width - 1) 0)) else
      if t.kind equals free_word_term then f (kinds true false []) else
      if t.kind equals operator_term then f (operation_gates t.op u) else
      if t.kind equals choice_term then f (choices 0 owned) else
      if t.kind equals procedure_term then f (kinds false true (digits 2 width t.a)) else
      f (kinds true true [])

  pub kinded : {r : A} → r ≡ by_kind → r ≡ f (term_gates t u)
  unfolding term_gates if◌equals◌then◌else◌
  kinded e = e ∙ go (eqb t.kind truth_term) (eqb t.kind word_term) (eqb t.kind free_truth_term) (eqb t.kind free_word_term) (eqb t.kind operator_term) (eqb t.kind choice_term) (eqb t.kind procedure_term)
    where
      go : (a b c d g h k : Bool)
          → pick a (f (kinds false false (digits 2 width t.a))) (pick b (f (kinds true false (digits 2 width (term_word t)))) (pick c (f (kinds false false (digits 3 (width - 1) 0))) (pick d (f (kinds true false []))
          (pick g (f (operation_gates t.op u)) (pick h (f (choices 0 owned)) (pick k (f (kinds false true (digits 2 width t.a))) (f (kinds true true []))))))))
          ≡ f (pick a (kinds false false (digits 2 width t.a)) (pick b (kinds true false (digits 2 width (term_word t))) (pick c (kinds false false (digits 3 (width - 1) 0)) (pick d (kinds true false [])
          (pick g (operation_gates t.op u) (pick h (choices 0 owned) (pick k (kinds false true (digits 2 width t.a)) (kinds true true []))))))))
      go true b c d g h k = refl
      go false true c d g h k = refl
      go false false true d g h k = refl
      go false false false true g h k = refl
      go false false false false true h k = refl
      go false false false false false true k = refl
      go false false false false false false true = refl
      go false false false false false false false = refl

  -- a word constant's
  pub kinded_word : t.kind ≡ word_term → {w : ℕ} → w ≡ term_word t → {r : A} → r ≡ f (kinds true false (digits 2 width w)) → r ≡ f (term_gates t u)
  unfolding term_gates if◌equals◌then◌else◌
  kinded_word k e q = q ∙ rw (k, e)

-- only an operator's gates have helpers
few_helpers : (t u : Term) {r : ℕ} → r ≡ (if t.kind equals operator_term then helpers (operation_gates t.op u) else 0) → r ≡ helpers_of t u
unfolding helpers_of helpers digits choices if◌equals◌then◌else◌
few_helpers t u e = kinded helpers t u (e ∙ go (eqb t.kind operator_term) refl)
  where
    go : (b : Bool) → eqb t.kind operator_term ≡ b → pick b (helpers (operation_gates t.op u)) 0 ≡ by_kind helpers t u
    go true h = rw (eqb-true t.kind operator_term h)
    go false h = zeros (eqb t.kind truth_term) (eqb t.kind word_term) (eqb t.kind free_truth_term) (eqb t.kind free_word_term) (eqb t.kind choice_term) (eqb t.kind procedure_term) (eqb t.kind operator_term) h
      where
        zeros : (a b c d e f g : Bool) → g ≡ false → 0 ≡ pick a 0 (pick b 0 (pick c 0 (pick d 0 (pick g (helpers (operation_gates t.op u)) (pick e 0 (pick f 0 0))))))
        zeros true b c d e f g h = refl
        zeros false true c d e f g h = refl
        zeros false false true d e f g h = refl
        zeros false false false true e f g h = refl
        zeros false false false false e f true h = never (sym h)
        zeros false false false false true f false h = refl
        zeros false false false false false true false h = refl
        zeros false false false false false false false h = refl

module _ (t u : Term) where
  pub operator_helpers : t.kind ≡ operator_term → {r : ℕ} → r ≡ helpers (operation_gates t.op u) → r ≡ helpers_of t u
  unfolding if◌equals◌then◌else◌
  operator_helpers k e = few_helpers t u (e ∙ sym (rw k))

  pub other_helpers : (t.kind ≡ operator_term → ⊥) → 0 ≡ helpers_of t u
  unfolding if◌equals◌then◌else◌
  other_helpers k = few_helpers t u (sym (rw (ne_eqb t.kind operator_term k)))
