-- A term's gates, by the term's kind: as they stand in the clauses, and with the free inputs fixed as in sixteen numbers. Assumes nothing.
use mathlib.Core.Path.{◌≡◌, refl}
use mathlib.Core.Bool.{Bool, true, false}
use mathlib.Core.List.{List, []}
use Prim.Native.Nat.{ℕ, ◌-◌}
use lib.ListN.{get_or}
use lib.Dec.{eqb}
use borrow.Author.Tests.{eqb-true, eqb-false, ne_eqb}
use Rattle.notation.specs.Notation.{if◌equals◌then◌else◌}
use Rattle.words.specs.Words.{width}
use Rattle.semantics.specs.declared.Term.{Term}
use Rattle.semantics.specs.Numbers.{truth_term, word_term, free_truth_term, free_word_term, operator_term, choice_term, procedure_term}
use Rattle.semantics.specs.Terms.{term_word}
use Rattle.circuits.specs.Templates.{kinds}
use Rattle.clauses.specs.Clauses.{owned, digits, choices, operation_gates, term_gates}
use Rattle.models.proofs.Says.{gates_under}

-- by whether two numbers are the same
pub by_eq : {P : Type 0} (i j : ℕ) → (i ≡ j → P) → ((i ≡ j → ⊥) → P) → P
by_eq {P} i j f g = go (eqb i j) refl
  where
    go : (b : Bool) → eqb i j ≡ b → P
    go true e = f (eqb-true i j e)
    go false e = g (eqb-false i j e)

module _ (t u : Term) where
  pub gates_truth : t.kind ≡ truth_term → term_gates t u ≡ kinds false false (digits 2 width t.a)
  unfolding term_gates if◌equals◌then◌else◌
  gates_truth k = rw k

  pub gates_word : t.kind ≡ word_term → term_gates t u ≡ kinds true false (digits 2 width (term_word t))
  unfolding term_gates if◌equals◌then◌else◌
  gates_word k = rw k

  pub gates_free_truth : t.kind ≡ free_truth_term → term_gates t u ≡ kinds false false (digits 3 (width - 1) 0)
  unfolding term_gates if◌equals◌then◌else◌
  gates_free_truth k = rw k

  pub gates_free_word : t.kind ≡ free_word_term → term_gates t u ≡ kinds true false []
  unfolding term_gates if◌equals◌then◌else◌
  gates_free_word k = rw k

  pub gates_operator : t.kind ≡ operator_term → term_gates t u ≡ operation_gates t.op u
  unfolding term_gates if◌equals◌then◌else◌
  gates_operator k = rw k

  pub gates_choice : t.kind ≡ choice_term → term_gates t u ≡ choices 0 owned
  unfolding term_gates if◌equals◌then◌else◌
  gates_choice k = rw k

  pub gates_procedure : t.kind ≡ procedure_term → term_gates t u ≡ kinds false true (digits 2 width t.a)
  unfolding term_gates if◌equals◌then◌else◌
  gates_procedure k = rw k

  pub gates_other : (t.kind ≡ truth_term → ⊥) → (t.kind ≡ word_term → ⊥) → (t.kind ≡ free_truth_term → ⊥) → (t.kind ≡ free_word_term → ⊥)
      → (t.kind ≡ operator_term → ⊥) → (t.kind ≡ choice_term → ⊥) → (t.kind ≡ procedure_term → ⊥) → term_gates t u ≡ kinds true true []
  unfolding term_gates if◌equals◌then◌else◌
  gates_other a b c d e f g =
      rw (
        ne_eqb t.kind truth_term a,
        ne_eqb t.kind word_term b,
        ne_eqb t.kind free_truth_term c,
        ne_eqb t.kind free_word_term d,
        ne_eqb t.kind operator_term e,
        ne_eqb t.kind choice_term f,
        ne_eqb t.kind procedure_term g,
      )

  -- ---- with the free inputs fixed
  module _ (ns : List ℕ) where
    pub under_free_truth : t.kind ≡ free_truth_term → gates_under ns t u ≡ kinds false false (digits 2 width (get_or ns t.a 0))
    unfolding gates_under if◌equals◌then◌else◌
    under_free_truth k = rw k

    pub under_free_word : t.kind ≡ free_word_term → gates_under ns t u ≡ kinds true false (digits 2 width (get_or ns t.a 0))
    unfolding gates_under if◌equals◌then◌else◌
    under_free_word k = rw k

    pub under_other : (t.kind ≡ free_truth_term → ⊥) → (t.kind ≡ free_word_term → ⊥) → gates_under ns t u ≡ term_gates t u
    unfolding gates_under term_gates if◌equals◌then◌else◌
    under_other p q = rw (ne_eqb t.kind free_truth_term p, ne_eqb t.kind free_word_term q)
