-- Values of the variables that make a table's clauses true are those that meet the terms' gates; with the free inputs fixed as in sixteen numbers,
-- they are those that hold these numbers too. Assumes nothing.
use mathlib.Core.Path.{◌≡◌, refl, sym, ◌∙◌, subst}
use mathlib.Core.Bool.{Bool, true, false, ◌&&◌}
use mathlib.Core.List.{List, [], ◌∷◌}
use Prim.Native.Nat.{ℕ, suc, ◌-◌, ◌/◌, ◌<◌}
use native.Mathlib.Omega.{arith}
use lib.ListN.{length, get_or}
use Rattle.words.specs.Words.{width, word_limit}
use Rattle.semantics.specs.declared.Term.{Term}
use Rattle.semantics.specs.Numbers.{free_truth_term, free_word_term}
use Rattle.circuits.specs.Gates.{clauses_true, clauses, onto}
use Rattle.circuits.specs.Templates.{Wire, own, kinds}
use Rattle.circuits.proofs.Gates.{and_l, and_r, Holds, sound, complete, all_append, onto_holds, holds_onto}
use Rattle.soundness.proofs.Link.{Small}
use Rattle.certainty.specs.Certain.{Words}
use Rattle.clauses.specs.Clauses.{digits, term_gates, named_by_b, own_variable, variable, first_helper, term_clauses, table_clauses}
use Rattle.models.proofs.Held.{word_of}
use Rattle.models.proofs.Says.{are_digits, gates_under}
use Rattle.models.proofs.ByKind.{by_eq, gates_free_truth, gates_free_word, under_free_truth, under_free_word, under_other}

-- the wires of term n under an assignment
abbrev pub wires : (ℕ → Bool) → ℕ → ℕ → Bool
wires τ n i = τ (own_variable n i)

-- the assignment meets the gates of these terms, in a table of c terms
abbrev pub Meets : (ℕ → Bool) → ℕ → List Term → Type 0
Meets τ c [] = Unit {0}
Meets τ c (t ∷ ts) = Meets τ c ts × Holds (λ l. τ (variable (first_helper c ts) (length ts) t l)) (term_gates t (named_by_b ts t))

-- the same, with the free inputs as in sixteen numbers
abbrev pub MeetsUnder : List ℕ → (ℕ → Bool) → ℕ → List Term → Type 0
MeetsUnder ns τ c [] = Unit {0}
MeetsUnder ns τ c (t ∷ ts) = MeetsUnder ns τ c ts × Holds (λ l. τ (variable (first_helper c ts) (length ts) t l)) (gates_under ns t (named_by_b ts t))

-- ---- the clauses
module _ (τ : ℕ → Bool) (c : ℕ) where
  pub clauses_meet : (ts : List Term) → clauses_true τ (table_clauses c ts) ≡ true → Meets τ c ts
  unfolding table_clauses term_clauses
  clauses_meet [] e = tt
  clauses_meet (t ∷ ts) e =
      let f = variable (first_helper c ts) (length ts) t in
      let x = clauses_true τ (table_clauses c ts) in
      let y = clauses_true τ (clauses (onto f (term_gates t (named_by_b ts t)))) in
      let k : (x && y) ≡ true = sym (all_append τ (table_clauses c ts) (clauses (onto f (term_gates t (named_by_b ts t))))) ∙ e in
      (clauses_meet ts (and_l x y k), onto_holds f τ (term_gates t (named_by_b ts t)) (sound τ (onto f (term_gates t (named_by_b ts t))) (and_r x y k)))

  pub meet_clauses : (ts : List Term) → Meets τ c ts → clauses_true τ (table_clauses c ts) ≡ true
  unfolding table_clauses term_clauses
  meet_clauses [] h = refl
  meet_clauses (t ∷ ts) h =
      let f = variable (first_helper c ts) (length ts) t in
      all_append τ (table_clauses c ts) (clauses (onto f (term_gates t (named_by_b ts t))))
      ∙ rw (meet_clauses ts h.0, complete τ (onto f (term_gates t (named_by_b ts t))) (holds_onto f τ (term_gates t (named_by_b ts t)) h.1))

-- ---- with the free inputs fixed, or not
module _ (ns : List ℕ) (t u : Term) (τ : Wire → Bool) where
  half_small : (n : ℕ) → n < 2 → n / 2 ≡ 0
  half_small n h = omega arith

  free_truth_gates : (n : ℕ) → n < 2 → Holds τ (kinds false false (digits 2 (suc (width - 1)) n)) → Holds τ (kinds false false (digits 3 (width - 1) 0))
  unfolding digits
  free_truth_gates n l h = (h.0, (h.1.0, subst (λ k. Holds τ (digits 3 (width - 1) k)) (half_small n l) h.1.1.1))

  free_term : (t.kind ≡ free_truth_term → get_or ns t.a 0 < 2) → Holds τ (gates_under ns t u) → Holds τ (term_gates t u)
  free_term s h =
      by_eq t.kind free_truth_term
      (λ k. subst (Holds τ) (sym (gates_free_truth t u k)) (free_truth_gates (get_or ns t.a 0) (s k) (subst (Holds τ) (under_free_truth t u ns k) h))) λ p.
      by_eq t.kind free_word_term
      (λ k. subst (Holds τ) (sym (gates_free_word t u k)) (let g = subst (Holds τ) (under_free_word t u ns k) h in (g.0, (g.1.0, tt)))) λ q.
      subst (Holds τ) (under_other t u ns p q) h

  -- if it is a free input, its number is the word of its bits
  abbrev Numbered : Type 0
  Numbered = (t.kind ≡ free_truth_term → get_or ns t.a 0 ≡ word_of (λ i. τ (own i)) 2 width) × (t.kind ≡ free_word_term → get_or ns t.a 0 ≡ word_of (λ i. τ (own i)) 2 width)

  fix_term : get_or ns t.a 0 < word_limit → Numbered → Holds τ (term_gates t u) → Holds τ (gates_under ns t u)
  fix_term l f h =
      by_eq t.kind free_truth_term
      (λ k. subst (Holds τ) (sym (under_free_truth t u ns k))
      (let g = subst (Holds τ) (gates_free_truth t u k) h in (g.0, (g.1.0, are_digits τ 2 width (get_or ns t.a 0) l (sym (f.0 k)))))) λ p.
      by_eq t.kind free_word_term
      (λ k. subst (Holds τ) (sym (under_free_word t u ns k))
      (let g = subst (Holds τ) (gates_free_word t u k) h in (g.0, (g.1.0, are_digits τ 2 width (get_or ns t.a 0) l (sym (f.1 k)))))) λ q.
      subst (Holds τ) (sym (under_other t u ns p q)) h

module _ (ns : List ℕ) (τ : ℕ → Bool) (c : ℕ) where
  -- what meets the gates with the inputs fixed meets them
  pub meets_free : (ts : List Term) → Small ns ts → MeetsUnder ns τ c ts → Meets τ c ts
  meets_free [] s h = tt
  meets_free (t ∷ ts) s h = (meets_free ts s.1 h.0, free_term ns t (named_by_b ts t) (λ l. τ (variable (first_helper c ts) (length ts) t l)) s.0 h.1)

  -- the numbers are those of the free inputs' variables
  abbrev pub Agree : List Term → Type 0
  Agree [] = Unit {0}
  Agree (t ∷ ts) =
      ((t.kind ≡ free_truth_term → get_or ns t.a 0 ≡ word_of (wires τ (length ts)) 2 width)
      × (t.kind ≡ free_word_term → get_or ns t.a 0 ≡ word_of (wires τ (length ts)) 2 width)) × Agree ts

  -- and then the other way about
  pub meets_fixed : Words ns → (ts : List Term) → Agree ts → Meets τ c ts → MeetsUnder ns τ c ts
  meets_fixed w [] a h = tt
  meets_fixed w (t ∷ ts) a h =
      (meets_fixed w ts a.1 h.0, fix_term ns t (named_by_b ts t) (λ l. τ (variable (first_helper c ts) (length ts) t l)) (w t.a) a.0 h.1)
