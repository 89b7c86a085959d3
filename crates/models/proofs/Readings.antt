-- Values of the variables that meet a table's gates hold what the terms read as. Assumes nothing.
use mathlib.Core.Path.{◌≡◌, refl, sym, ap, ◌∙◌, subst}
use mathlib.Core.Bool.{Bool, true, false}
use mathlib.Core.List.{List, [], ◌∷◌}
use Prim.Native.Nat.{ℕ, ◌<◌}
use native.Mathlib.Omega.{arith}
use lib.ListN.{length, get_or}
use lib.Dec.{eqb, ltb}
use borrow.Author.Tests.{eqb-true, eqb-false, eq-eqb, ltb-true, ltb-false}
use Rattle.notation.specs.Notation.{pick, with, when◌then◌else◌, if◌equals◌then◌else◌, if◌below◌then◌else◌}
use Rattle.operators.specs.Operators.{gives_truth_of}
use Rattle.semantics.specs.declared.Term.{Term}
use Rattle.semantics.specs.declared.Reading.{Reading}
use Rattle.semantics.specs.Numbers.{truth_term, word_term, free_truth_term, operator_term, choice_term, true_number}
use Rattle.semantics.specs.Terms.{at, sort_of, term_word, names_truth, laid_out, well_formed}
use Rattle.semantics.specs.Reading.{reading_of, nothing, is_true, is_truth, result_reading, operation_reading, operator_reading, term_reading, nth, readings}
use Rattle.semantics.proofs.Fold.{fold_newest, fold_lower}
use Rattle.typing.proofs.Grown.{Grown, still, more, Sort, truth_at, at_lower, at_newest, at_past}
use Rattle.typing.proofs.Formed.{choice_names, operands_lower, formed_newest}
use Rattle.soundness.proofs.BySort.{Kind, kind_of, constant_truth_lem, constant_word_lem, free_truth_lem, free_word_lem, truth_operator, word_operator, a_choice, a_procedure, a_binding, no_kind}
use Rattle.soundness.proofs.Link.{Small, operator_laid}
use Rattle.opening.proofs.Begins.{constants}
use Rattle.certainty.specs.Certain.{Words}
use Rattle.certainty.proofs.Worded.{AreWords}
use Rattle.clauses.specs.Clauses.{digits, named_by_b, own_variable, variable, first_helper}
use Rattle.models.proofs.Held.{held}
use Rattle.models.proofs.Says.{gates_under, term_says}
use Rattle.models.proofs.Meets.{wires, MeetsUnder}

-- ---- a truth reads as a truth
module _ (P : Reading → Type 0) {x y : Reading} where
  of_eq : (i j : ℕ) → (i ≡ j → P x) → P y → P (if i equals j then x else y)
  unfolding if◌equals◌then◌else◌
  of_eq i j f g = go (eqb i j) refl
    where
      go : (b : Bool) → eqb i j ≡ b → P (pick b x y)
      go true e = f (eqb-true i j e)
      go false e = g

  of_below : (i j : ℕ) → P x → P y → P (if i below j then x else y)
  unfolding if◌below◌then◌else◌
  of_below i j f g = go (ltb i j)
    where
      go : (b : Bool) → P (pick b x y)
      go true = f
      go false = g

  of_if : (b : Bool) → P x → P y → P (when b then x else y)
  unfolding when◌then◌else◌
  of_if true f g = f
  of_if false f g = g

record IsTruth (v : Reading) : Type 0 where
  is : v.sort ≡ truth_term

a_truth : (n : ℕ) → IsTruth (reading_of truth_term n)
a_truth n = record { is = refl }

result_truth : (op w : ℕ) → gives_truth_of op ≡ true → IsTruth (result_reading op w)
unfolding result_reading with when◌then◌else◌
result_truth op w h = rw h (a_truth w)

operator_truth : (op : ℕ) (x y : Reading) → gives_truth_of op ≡ true → IsTruth (operator_reading op x y)
unfolding operator_reading operation_reading with
operator_truth op x y h =
    of_below IsTruth _ _ (of_if IsTruth _ (result_truth op _ h) (result_truth op 0 h))
    (of_eq IsTruth _ _ (λ i. a_truth _) (of_eq IsTruth _ _ (λ i. a_truth _) (of_eq IsTruth _ _ (λ i. a_truth _) (of_eq IsTruth _ _ (λ i. a_truth _)
    (of_eq IsTruth _ _ (λ i. a_truth _) (of_eq IsTruth _ _ (λ i. of_eq IsTruth _ _ (λ i. a_truth _) (a_truth _)) (a_truth _)))))))

module _ (ns : List ℕ) (t : Term) (x y z : Reading) where
  reads_constant : t.kind ≡ truth_term → term_reading ns t x y z ≡ reading_of truth_term t.a
  unfolding term_reading if◌equals◌then◌else◌
  reads_constant k = rw k

  reads_free : t.kind ≡ free_truth_term → term_reading ns t x y z ≡ reading_of truth_term (get_or ns t.a 0)
  unfolding term_reading if◌equals◌then◌else◌ with
  reads_free k = rw k

  reads_operator : t.kind ≡ operator_term → term_reading ns t x y z ≡ operator_reading t.op x y
  unfolding term_reading if◌equals◌then◌else◌
  reads_operator k = rw k

  term_truth : (k : ℕ) → k ≡ truth_term → Kind t k → IsTruth (term_reading ns t x y z)
  term_truth k e (constant_truth_lem i) = rw (reads_constant i) (a_truth _)
  term_truth k e (constant_word_lem i) = absurd (omega arith)
  term_truth k e (free_truth_lem i) = rw (reads_free i) (a_truth _)
  term_truth k e (free_word_lem i) = absurd (omega arith)
  term_truth k e (truth_operator i j) = rw (reads_operator i) (operator_truth t.op x y j)
  term_truth k e (word_operator i j) = absurd (omega arith)
  term_truth k e (a_choice i) = absurd (omega arith)
  term_truth k e (a_procedure i) = absurd (omega arith)
  term_truth k e (a_binding i) = absurd (omega arith)
  term_truth k e no_kind = absurd (omega arith)

-- ---- readings by number
module _ (ns : List ℕ) (t : Term) (ts : List Term) where
  nth_newest : nth (readings ns (t ∷ ts)) (length ts) ≡ term_reading ns t (nth (readings ns ts) t.a) (nth (readings ns ts) t.b) (nth (readings ns ts) t.c)
  unfolding readings
  nth_newest = fold_newest (term_reading ns) nothing t ts

  nth_lower : (k : ℕ) → k < length ts → nth (readings ns (t ∷ ts)) k ≡ nth (readings ns ts) k
  unfolding readings
  nth_lower k h = fold_lower (term_reading ns) nothing t ts k (λ e. omega arith)

  -- a number of this table is the newest's or a lower one
  by_number : {P : ℕ → Type 0} → P (length ts) → ((k : ℕ) → k < length ts → P k) → (k : ℕ) → k < length (t ∷ ts) → P k
  by_number {P} p q k h = go (eqb k (length ts)) refl
    where
      go : (b : Bool) → eqb k (length ts) ≡ b → P k
      go true e = subst P (sym (eqb-true k (length ts) e)) p
      go false e = q k (omega (arith, eqb-false k (length ts) e))

pub truth_reads : (ns : List ℕ) (ts : List Term) (x : ℕ) → Sort truth_term ts x → is_truth (nth (readings ns ts) x) ≡ true
unfolding is_truth
truth_reads ns ts x s = eq-eqb _ _ (all_truth ts x s.low s.is).is
  where
    open_sort : (t : Term) (us : List Term) → sort_of (at (t ∷ us) (length us)) ≡ truth_term → sort_of t ≡ truth_term
    open_sort t us e = sym (ap sort_of (at_newest t us)) ∙ e

    all_truth : (us : List Term) (y : ℕ) → y < length us → sort_of (at us y) ≡ truth_term → IsTruth (nth (readings ns us) y)
    all_truth [] y l e = absurd (omega arith)
    all_truth (t ∷ us) y l e =
        by_number ns t us {P = λ k. sort_of (at (t ∷ us) k) ≡ truth_term → IsTruth (nth (readings ns (t ∷ us)) k)}
        (λ e. rw (nth_newest ns t us) (term_truth ns t _ _ _ (sort_of t) (open_sort t us e) (kind_of t)))
        (λ k m e. rw (nth_lower ns t us k m) (all_truth us k m (sym (ap sort_of (at_lower t us k m)) ∙ e)))
        y l e

-- a word constant reads as its word
module _ (ns : List ℕ) where
  constant_reads : (t : Term) (x y z : Reading) → t.kind ≡ word_term → term_reading ns t x y z ≡ reading_of word_term (term_word t)
  unfolding term_reading if◌equals◌then◌else◌ with
  constant_reads t x y z k = rw k

  word_reads : (ts : List Term) (x : ℕ) → x < length ts → (at ts x).kind ≡ word_term → nth (readings ns ts) x ≡ reading_of word_term (term_word (at ts x))
  word_reads [] x l k = absurd (omega arith)
  word_reads (t ∷ ts) x l k =
      by_number ns t ts {P = λ j. (at (t ∷ ts) j).kind ≡ word_term → nth (readings ns (t ∷ ts)) j ≡ reading_of word_term (term_word (at (t ∷ ts) j))}
      (λ k. rw (nth_newest ns t ts, at_newest t ts) (constant_reads t _ _ _ (ap (λ (u : Term). u.kind) (sym (at_newest t ts)) ∙ k)))
      (λ j m k. rw (nth_lower ns t ts j m, at_lower t ts j m) (word_reads ts j m (ap (λ (u : Term). u.kind) (sym (at_lower t ts j m)) ∙ k)))
      x l k

-- ---- all values that meet the gates hold what is read
-- a number of a term that has a kind is below the count
term_below : (ts : List Term) (x k : ℕ) → eqb k 0 ≡ false → (at ts x).kind ≡ k → x < length ts
term_below ts x k z e = go (ltb x (length ts)) refl
  where
    go : (b : Bool) → ltb x (length ts) ≡ b → x < length ts
    go true h = ltb-true x (length ts) h
    go false h = absurd (eqb-false k 0 z (sym e ∙ ap (λ (u : Term). u.kind) (at_past ts x (ltb-false x (length ts) h))))

eq_same : {A : Type 0} {x y u v : A} (i j : ℕ) → (i ≡ j → x ≡ u) → y ≡ v → (if i equals j then x else y) ≡ (if i equals j then u else v)
unfolding if◌equals◌then◌else◌
eq_same {x = x} {y} {u} {v} i j f g = go (eqb i j) refl
  where
    go : (b : Bool) → eqb i j ≡ b → pick b x y ≡ pick b u v
    go true e = f (eqb-true i j e)
    go false e = g

module _ (n : ℕ) (us : List Term) (t : Term) (laid : laid_out n us t ≡ true) where
  module _ (ns : List ℕ) (f g : ℕ → Reading) (same : (x : ℕ) → x < length us → f x ≡ g x) where
    operator_same : t.kind ≡ operator_term → operator_reading t.op (f t.a) (f t.b) ≡ operator_reading t.op (g t.a) (g t.b)
    operator_same k = let l = operands_lower us t.a t.b t.op (operator_laid n us t laid k) in rw (same t.a l.first, same t.b l.second)

    choice_same : t.kind ≡ choice_term → (when is_true (f t.a) then f t.b else f t.c) ≡ (when is_true (g t.a) then g t.b else g t.c)
    choice_same k = let l = choice_names n us t laid k in rw (same t.a l.0.low, same t.b l.1.low, same t.c l.2.low)

    reading_same : term_reading ns t (f t.a) (f t.b) (f t.c) ≡ term_reading ns t (g t.a) (g t.b) (g t.c)
    unfolding term_reading
    reading_same =
        eq_same _ _ (λ i. refl) (eq_same _ _ (λ i. refl) (eq_same _ _ (λ i. refl) (eq_same _ _ (λ i. refl)
        (eq_same _ _ operator_same (eq_same _ _ choice_same refl)))))

module _ (ns : List ℕ) (words : Words ns) (n c : ℕ) (τ : ℕ → Bool) (o : τ (own_variable true_number 2) ≡ true) where
  pub reads : (ts : List Term) → well_formed n ts ≡ true → Small ns ts → AreWords ts → MeetsUnder ns τ c ts → (k : ℕ) → k < length ts → held (wires τ k) ≡ nth (readings ns ts) k
  reads [] h s f m k l = absurd (omega arith)
  reads (t ∷ ts) h s f m k l = formed_newest n t ts h λ laid fresh formed. go laid (reads ts formed s.1 f.1 m.0)
    where
      go : laid_out n ts t ≡ true → ((k : ℕ) → k < length ts → held (wires τ k) ≡ nth (readings ns ts) k) → held (wires τ k) ≡ nth (readings ns (t ∷ ts)) k
      go laid ih =
          by_number ns t ts {P = λ k. held (wires τ k) ≡ nth (readings ns (t ∷ ts)) k}
          (term_says ns words n ts t (named_by_b ts t) laid s.0 f.0 (λ l. τ (variable (first_helper c ts) (length ts) t l)) o (is_truth_lem t.a) (is_truth_lem t.b) amount m.1
          ∙ (reading_same n ts t laid ns (λ x. held (wires τ x)) (nth (readings ns ts)) ih ∙ sym (nth_newest ns t ts)))
          (λ k l. ih k l ∙ sym (nth_lower ns t ts k l)) k l
        where
          is_truth_lem : (x : ℕ) → names_truth ts x ≡ true → is_truth (held (wires τ x)) ≡ true
          is_truth_lem x p = let q = truth_at ts x p in ap is_truth (ih x q.low) ∙ truth_reads ns ts x q

          -- what b names, where it is a word constant
          amount : (named_by_b ts t).kind ≡ word_term → held (wires τ t.b) ≡ reading_of word_term (term_word (named_by_b ts t))
          amount k = let l = term_below ts t.b word_term refl k in ih t.b l ∙ word_reads ns ts t.b l k

-- the term true is true
pub one_true_lem : (ns : List ℕ) (τ : ℕ → Bool) (c : ℕ) {ts : List Term} → Grown constants ts → MeetsUnder ns τ c ts → τ (own_variable true_number 2) ≡ true
unfolding gates_under digits if◌equals◌then◌else◌
one_true_lem ns τ c still m = m.1.1.1.0
one_true_lem ns τ c (more g) m = one_true_lem ns τ c g m.0
