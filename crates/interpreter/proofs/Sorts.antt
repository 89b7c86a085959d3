-- Values by their sorts: what the tests on a sort show of the value. Assumes nothing.
use mathlib.Core.Path.{◌≡◌, refl}
use mathlib.Core.Bool.{Bool, true, false, not}
use Prim.Native.Nat.{ℕ}
use lib.Dec.{eqb}
use borrow.Author.Tests.{eqb-true, eqb-false, ne_eqb}
use Rattle.words.specs.Words.{join_of}
use Rattle.notation.specs.Notation.{if◌equals◌then◌else◌}
use Rattle.semantics.specs.Numbers.{truth_term, word_term, procedure_term}
use Rattle.semantics.specs.Run.{Value, truth, word, procedure, none, is_false, is_aword, is_aprocedure, word_in}
use Rattle.interpreter.specs.Store.{value_of}

-- a sort is one of three, or none of them
pub cases : (k : ℕ) {R : Type 0} → (k ≡ truth_term → R) → (k ≡ word_term → R) → (k ≡ procedure_term → R)
    → ((k ≡ truth_term → ⊥) → (k ≡ word_term → ⊥) → (k ≡ procedure_term → ⊥) → R) → R
cases k {R} a b c d = first (eqb k truth_term) refl
  where
    third : (t : Bool) → eqb k procedure_term ≡ t → (k ≡ truth_term → ⊥) → (k ≡ word_term → ⊥) → R
    third true h f g = c (eqb-true _ _ h)
    third false h f g = d f g (eqb-false _ _ h)

    second : (t : Bool) → eqb k word_term ≡ t → (k ≡ truth_term → ⊥) → R
    second true h f = b (eqb-true _ _ h)
    second false h f = third (eqb k procedure_term) refl f (eqb-false _ _ h)

    first : (t : Bool) → eqb k truth_term ≡ t → R
    first true h = a (eqb-true _ _ h)
    first false h = second (eqb k word_term) refl (eqb-false _ _ h)

module _ (k x y : ℕ) (e : Value) where
  pub of_truth : k ≡ truth_term → value_of k x y e ≡ truth (eqb x 1)
  unfolding value_of if◌equals◌then◌else◌
  of_truth h = rw h refl

  pub of_word : k ≡ word_term → value_of k x y e ≡ word (join_of x y)
  unfolding value_of if◌equals◌then◌else◌
  of_word h = rw h refl

  pub of_procedure : k ≡ procedure_term → value_of k x y e ≡ procedure x e
  unfolding value_of if◌equals◌then◌else◌
  of_procedure h = rw h refl

  pub of_none : (k ≡ truth_term → ⊥) → (k ≡ word_term → ⊥) → (k ≡ procedure_term → ⊥) → value_of k x y e ≡ none
  unfolding value_of if◌equals◌then◌else◌
  of_none f g h = simp (ne_eqb _ _ f, ne_eqb _ _ g, ne_eqb _ _ h)

  pub word_test : eqb k word_term ≡ is_aword (value_of k x y e)
  unfolding is_aword
  word_test =
      cases k (λ h. rw (of_truth h, h)) (λ h. rw (of_word h, h)) (λ h. rw (of_procedure h, h))
      (λ f g h. rw (of_none f g h, ne_eqb _ _ g))

  pub procedure_test : eqb k procedure_term ≡ is_aprocedure (value_of k x y e)
  unfolding is_aprocedure
  procedure_test =
      cases k (λ h. rw (of_truth h, h)) (λ h. rw (of_word h, h)) (λ h. rw (of_procedure h, h))
      (λ f g h. rw (of_none f g h, ne_eqb _ _ h))

  pub false_test : k ≡ truth_term → not (eqb x 1) ≡ is_false (value_of k x y e)
  unfolding is_false
  false_test h = rw (of_truth h)

  pub never_false : (k ≡ truth_term → ⊥) → false ≡ is_false (value_of k x y e)
  unfolding is_false
  never_false f =
      cases k (λ h. absurd (f h)) (λ h. rw (of_word h)) (λ h. rw (of_procedure h)) (λ f g h. rw (of_none f g h))

  pub word_there : k ≡ word_term → {w : ℕ} → w ≡ join_of x y → w ≡ word_in (value_of k x y e)
  unfolding word_in
  word_there h q = rw (of_word h) q

  pub word_missing : (k ≡ word_term → ⊥) → 0 ≡ word_in (value_of k x y e)
  unfolding word_in
  word_missing g =
      cases k (λ h. rw (of_truth h)) (λ h. absurd (g h)) (λ h. rw (of_procedure h)) (λ f g h. rw (of_none f g h))

-- what is no procedure does not ask for the bindings
pub any_bindings : (k x y : ℕ) (e f : Value) → (k ≡ procedure_term → ⊥) → value_of k x y e ≡ value_of k x y f
any_bindings k x y e f c =
    cases k (λ h. rw (of_truth k x y e h, of_truth k x y f h)) (λ h. rw (of_word k x y e h, of_word k x y f h)) (λ h. absurd (c h))
    (λ a b c. rw (of_none k x y e a b c, of_none k x y f a b c))
