-- The goal's clauses hold exactly where the result reads as the goal. Assumes nothing.
use mathlib.Core.Path.{◌≡◌, refl, sym, ap, subst}
use mathlib.Core.Bool.{Bool, true, false, not, ◌&&◌, ◌||◌}
use mathlib.Core.List.{[], ◌∷◌}
use Prim.Native.Nat.{ℕ, ◌^◌, ◌<◌}
use native.Mathlib.Omega.{arith}
use lib.Dec.{eqb}
use Rattle.notation.specs.Notation.{pick, when◌then◌else◌, if◌equals◌then◌else◌}
use Rattle.words.specs.Words.{width}
use Rattle.words.proofs.Words.{join_halves}
use Rattle.semantics.specs.declared.Reading.{Reading}
use Rattle.semantics.specs.declared.Result.{Result}
use Rattle.semantics.specs.declared.Outcome.{Outcome}
use Rattle.semantics.specs.declared.Outcome.TheVariants.{Truth, Word, Procedure, Abort, Error}
use Rattle.semantics.specs.Numbers.{word_term, truth_term}
use Rattle.semantics.specs.Terms.{blank, word_term_of}
use Rattle.semantics.specs.Goals.{goal_outcome, NamesWord}
use Rattle.semantics.specs.Reading.{value_outcome, result_outcome}
use Rattle.circuits.specs.Gates.{pos, neg, clauses_true, onto}
use Rattle.circuits.specs.Templates.{kinds}
use Rattle.circuits.proofs.Gates.{Holds, sound, complete, onto_holds, holds_onto}
use Rattle.typing.proofs.Formed.{never}
use Rattle.semantics.specs.declared.Goal.{Goal}
use Rattle.semantics.specs.declared.Goal.TheVariants.{Errs, Aborts, Gives}
use Rattle.clauses.specs.Clauses.{digits, term_gates, variable, truth_variable, term_clauses, goal_clauses}
use Rattle.models.proofs.Held.{word_of, shape, held, held_as}
use Rattle.models.proofs.Says.{digits_are, are_digits}
use Rattle.models.proofs.Meets.{wires}

-- ---- a value is no abort and no error
pub data Valued : Outcome → Type 0 where
  truth : {b : Bool} → Valued (Truth b)
  word : {n : ℕ} → Valued (Word n)
  procedure : {n : ℕ} → Valued (Procedure n)

valued : (v : Reading) → Valued (value_outcome v)
unfolding value_outcome if◌equals◌then◌else◌
valued v = go (eqb v.sort truth_term) (eqb v.sort word_term)
  where
    go : (a b : Bool) → Valued (pick a (Truth (eqb v.number 1)) (pick b (Word v.number) (Procedure v.number)))
    go true b = truth
    go false true = word
    go false false = procedure

no_error : {o : Outcome} → Valued o → o ≡ Error → ⊥
no_error truth e = let z : ◌≡◌ {A = ℕ} 0 1 = cc in omega arith
no_error word e = let z : ◌≡◌ {A = ℕ} 0 1 = cc in omega arith
no_error procedure e = let z : ◌≡◌ {A = ℕ} 0 1 = cc in omega arith

no_abort : {o : Outcome} → Valued o → o ≡ Abort → ⊥
no_abort truth e = let z : ◌≡◌ {A = ℕ} 0 1 = cc in omega arith
no_abort word e = let z : ◌≡◌ {A = ℕ} 0 1 = cc in omega arith
no_abort procedure e = let z : ◌≡◌ {A = ℕ} 0 1 = cc in omega arith

apart : {P : Type 0} {a b : Outcome} → (a ≡ b → ⊥) → a ≡ b → P
apart f e = absurd (f e)

error_abort : Error ≡ Abort → ⊥
error_abort e = let z : ◌≡◌ {A = ℕ} 0 1 = cc in omega arith

error_word : (w : ℕ) → Error ≡ Word w → ⊥
error_word w e = let z : ◌≡◌ {A = ℕ} 0 1 = cc in omega arith

abort_word : (w : ℕ) → Abort ≡ Word w → ⊥
abort_word w e = let z : ◌≡◌ {A = ℕ} 0 1 = cc in omega arith

-- ---- a word
module _ (τ : ℕ → Bool) (v w : ℕ) (l : w < 2 ^ width) where
  abbrev Fixed : Type 0
  Fixed = Holds (λ x. τ (variable 0 v (word_term_of w) x)) (kinds true false (digits 2 width w))

  gates_are : term_gates (word_term_of w) blank ≡ kinds true false (digits 2 width w)
  unfolding term_gates if◌equals◌then◌else◌
  gates_are = ap (λ n. kinds true false (digits 2 width n)) (join_halves w)

  word_clauses : clauses_true τ (term_clauses 0 v (word_term_of w) blank) ≡ true → Fixed
  unfolding term_clauses
  word_clauses e =
      let f = variable 0 v (word_term_of w) in
      subst (Holds (λ x. τ (f x))) gates_are (onto_holds f τ (term_gates (word_term_of w) blank) (sound τ (onto f (term_gates (word_term_of w) blank)) e))

  clauses_word : Fixed → clauses_true τ (term_clauses 0 v (word_term_of w) blank) ≡ true
  unfolding term_clauses
  clauses_word h =
      let f = variable 0 v (word_term_of w) in
      complete τ (onto f (term_gates (word_term_of w) blank)) (holds_onto f τ (term_gates (word_term_of w) blank) (subst (Holds (λ x. τ (f x))) (sym gates_are) h))

  is_word_lem : Fixed → value_outcome (held (wires τ v)) ≡ Word w
  unfolding value_outcome if◌equals◌then◌else◌
  is_word_lem h = rw (held_as (wires τ v) h.0 h.1.0) (ap Word (digits_are (λ x. τ (variable 0 v (word_term_of w) x)) 2 width w l h.1.1))

  word_is : value_outcome (held (wires τ v)) ≡ Word w → Fixed
  unfolding value_outcome if◌equals◌then◌else◌
  word_is e = go (wires τ v 0) (wires τ v 1) refl refl e
    where
      given : wires τ v 0 ≡ true → wires τ v 1 ≡ false → word_of (wires τ v) 2 width ≡ w → Fixed
      given p q r = (p, (q, are_digits (λ x. τ (variable 0 v (word_term_of w) x)) 2 width w l r))

      go : (a b : Bool) → wires τ v 0 ≡ a → wires τ v 1 ≡ b
          → pick (eqb (shape a b (word_of (wires τ v) 2 width) (wires τ v 2)).sort truth_term) (Truth (eqb (shape a b (word_of (wires τ v) 2 width) (wires τ v 2)).number 1))
          (pick (eqb (shape a b (word_of (wires τ v) 2 width) (wires τ v 2)).sort word_term) (Word (shape a b (word_of (wires τ v) 2 width) (wires τ v 2)).number) (Procedure (shape a b (word_of (wires τ v) 2 width) (wires τ v 2)).number)) ≡ Word w
          → Fixed
      go true true p q e = absurd (let z : ◌≡◌ {A = ℕ} 0 1 = cc in omega arith)
      go true false p q e = given p q cc
      go false true p q e = absurd (let z : ◌≡◌ {A = ℕ} 0 1 = cc in omega arith)
      go false false p q e = absurd (let z : ◌≡◌ {A = ℕ} 0 1 = cc in omega arith)

-- ---- the goal
module _ (τ : ℕ → Bool) (r : Result) where
  abbrev S : Bool
  S = τ (truth_variable r.state.assumed)

  abbrev T : Bool
  T = τ (truth_variable r.state.asserted)

  abbrev U : Reading
  U = held (wires τ r.value)

  pub goal_sound : (g : Goal) → NamesWord g → clauses_true τ (goal_clauses r g) ≡ true → result_outcome S T r.halted U ≡ goal_outcome g
  unfolding goal_clauses result_outcome when◌then◌else◌
  goal_sound Errs w e = go r.halted S T e
    where
      go : (h s t : Bool) → clauses_true τ (pick h ((pos (truth_variable r.state.assumed) ∷ neg (truth_variable r.state.asserted) ∷ []) ∷ []) ((neg (truth_variable r.state.asserted) ∷ []) ∷ [])) ≡ true
          → pick T (pick S (pick h Error (value_outcome U)) Abort) Error ≡ Error
      go true s t e = halts S T e
        where
          halts : (s t : Bool) → ((s || (not t || false)) && true) ≡ true → pick t (pick s Error Abort) Error ≡ Error
          halts true true e = refl
          halts true false e = refl
          halts false true e = never e
          halts false false e = refl
      go false s t e = ends T e
        where
          ends : (t : Bool) → ((not t || false) && true) ≡ true → pick t (pick S (value_outcome U) Abort) Error ≡ Error
          ends true e = never e
          ends false e = refl
  goal_sound Aborts w e = go S T e
    where
      go : (s t : Bool) → ((not s || false) && ((t || false) && true)) ≡ true → pick t (pick s (pick r.halted Error (value_outcome U)) Abort) Error ≡ Abort
      go true t e = never e
      go false true e = refl
      go false false e = never e
  goal_sound (Gives w) l e = go r.halted e
    where
      go : (h : Bool) → clauses_true τ (pick h ([] ∷ []) ((pos (truth_variable r.state.assumed) ∷ []) ∷ (pos (truth_variable r.state.asserted) ∷ []) ∷ term_clauses 0 r.value (word_term_of w) blank)) ≡ true
          → pick T (pick S (pick h Error (value_outcome U)) Abort) Error ≡ Word w
      go true e = never e
      go false e = gives S T (clauses_true τ (term_clauses 0 r.value (word_term_of w) blank)) refl e
        where
          gives : (s t c : Bool) → clauses_true τ (term_clauses 0 r.value (word_term_of w) blank) ≡ c → ((s || false) && ((t || false) && c)) ≡ true → pick t (pick s (value_outcome U) Abort) Error ≡ Word w
          gives true true true q e = is_word_lem τ r.value w l (word_clauses τ r.value w l q)
          gives true true false q e = never e
          gives true false c q e = never e
          gives false t c q e = never e

  pub goal_complete : (g : Goal) → NamesWord g → result_outcome S T r.halted U ≡ goal_outcome g → clauses_true τ (goal_clauses r g) ≡ true
  unfolding goal_clauses result_outcome when◌then◌else◌
  goal_complete Errs w e = go r.halted e
    where
      go : (h : Bool) → pick T (pick S (pick h Error (value_outcome U)) Abort) Error ≡ Error
          → clauses_true τ (pick h ((pos (truth_variable r.state.assumed) ∷ neg (truth_variable r.state.asserted) ∷ []) ∷ []) ((neg (truth_variable r.state.asserted) ∷ []) ∷ [])) ≡ true
      go true e = halts S T e
        where
          halts : (s t : Bool) → pick t (pick s Error Abort) Error ≡ Error → ((s || (not t || false)) && true) ≡ true
          halts true t e = refl
          halts false true e = apart error_abort (sym e)
          halts false false e = refl
      go false e = ends S T e
        where
          ends : (s t : Bool) → pick t (pick s (value_outcome U) Abort) Error ≡ Error → ((not t || false) && true) ≡ true
          ends true true e = apart (no_error (valued U)) e
          ends false true e = apart error_abort (sym e)
          ends s false e = refl
  goal_complete Aborts w e = go S T r.halted e
    where
      go : (s t h : Bool) → pick t (pick s (pick h Error (value_outcome U)) Abort) Error ≡ Abort → ((not s || false) && ((t || false) && true)) ≡ true
      go true true true e = apart error_abort e
      go true true false e = apart (no_abort (valued U)) e
      go false true h e = refl
      go true false h e = apart error_abort e
      go false false h e = apart error_abort e
  goal_complete (Gives w) l e = go r.halted e
    where
      go : (h : Bool) → pick T (pick S (pick h Error (value_outcome U)) Abort) Error ≡ Word w
          → clauses_true τ (pick h ([] ∷ []) ((pos (truth_variable r.state.assumed) ∷ []) ∷ (pos (truth_variable r.state.asserted) ∷ []) ∷ term_clauses 0 r.value (word_term_of w) blank)) ≡ true
      go true e = halts S T e
        where
          halts : (s t : Bool) → pick t (pick s Error Abort) Error ≡ Word w → ◌≡◌ {A = Bool} false true
          halts true true e = apart (error_word w) e
          halts false true e = apart (abort_word w) e
          halts s false e = apart (error_word w) e
      go false e = gives S T e
        where
          gives : (s t : Bool) → pick t (pick s (value_outcome U) Abort) Error ≡ Word w → ((s || false) && ((t || false) && clauses_true τ (term_clauses 0 r.value (word_term_of w) blank))) ≡ true
          gives true true e = clauses_word τ r.value w l (word_is τ r.value w l e)
          gives false true e = apart (abort_word w) e
          gives s false e = apart (error_word w) e
