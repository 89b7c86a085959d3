-- What a term stands for under sixteen numbers, as a value of the concrete run: a binding is the chain of bindings from there on. The meaning
-- of a term is made of the meanings of those that it names, and stays as the table grows. Assumes nothing.
use mathlib.Core.Path.{◌≡◌, refl}
use mathlib.Core.Bool.{Bool, true, false, not, ◌&&◌, ◌||◌}
use mathlib.Core.List.{List}
use Prim.Native.Nat.{ℕ, ◌<◌, ◌≤◌}
use lib.ListN.{length, get_or}
use lib.Dec.{eqb}
use borrow.Author.Tests.{eqb-true}
use Rattle.notation.specs.Notation.{pick, when◌then◌else◌, if◌equals◌then◌else◌, if◌below◌then◌else◌}
use Rattle.operators.specs.Operators.{gives_truth_of}
use Rattle.semantics.specs.declared.Term.{Term}
use Rattle.semantics.specs.Numbers.{truth_term, word_term, free_truth_term, free_word_term, operator_term, choice_term, procedure_term, binding_term, not_code, is_word_code, is_procedure_code, negation_code, conjunction_code, disjunction_code, truth_code, no_binding, term_limit}
use Rattle.semantics.specs.Terms.{term_word, at, operands_laid_out, laid_out, well_formed}
use Rattle.semantics.specs.Run.{Value, truth, word, procedure, binding, none, is_false, is_aword, is_aprocedure, word_in, operation_value, words_run}
use Rattle.semantics.specs.Fold.{FromLower, fold_at}
use Rattle.semantics.proofs.Fold.{fold_past}
use Rattle.typing.proofs.Grown.{Grown}
use Rattle.typing.proofs.Formed.{both, choice_names, procedure_names, binding_value, binding_next, operands_lower}
use Rattle.typing.proofs.Folds.{fold_grown, fold_at_lem}

-- ---- what the tests of a value say
abbrev pub is_true : Value → Bool
is_true (truth b) = b
is_true (word w) = false
is_true (procedure i e) = false
is_true (binding v e) = false
is_true none = false

abbrev pub is_truth : Value → Bool
is_truth (truth b) = true
is_truth (word w) = false
is_truth (procedure i e) = false
is_truth (binding v e) = false
is_truth none = false

-- no binding and not nothing
abbrev pub is_proper : Value → Bool
is_proper (truth b) = true
is_proper (word w) = true
is_proper (procedure i e) = true
is_proper (binding v e) = false
is_proper none = false

-- ---- operator terms: "An operator term with an operand of the wrong kind reads as word 0 or false."
unfoldable pub wrong_value : ℕ → Value
wrong_value op = when gives_truth_of op then truth false else word 0

unfoldable pub operator_meaning : ℕ → Value → Value → Value
operator_meaning op x y =
    if op below not_code then (when words_run op x y then operation_value op (word_in x) (word_in y) else wrong_value op) else
    if op equals is_word_code then truth (is_aword x) else
    if op equals is_procedure_code then truth (is_aprocedure x) else
    if op equals negation_code then truth (is_truth x && not (is_true x)) else
    if op equals conjunction_code then truth (is_true x && is_true y) else
    if op equals disjunction_code then truth ((is_truth x && is_truth y) && (is_true x || is_true y)) else
    if op equals truth_code then truth (is_proper x && not (is_false x)) else
    wrong_value op

-- ---- a term, of what a, b and c mean
unfoldable pub term_meaning : List ℕ → FromLower Value
term_meaning ns t x y z =
    if t.kind equals truth_term then truth (not (eqb t.a 0)) else
    if t.kind equals word_term then word (term_word t) else
    if t.kind equals free_truth_term then truth (eqb (get_or ns t.a 0) 1) else
    if t.kind equals free_word_term then word (get_or ns t.a 0) else
    if t.kind equals operator_term then operator_meaning t.op x y else
    if t.kind equals choice_term then pick (is_true x) y z else
    if t.kind equals procedure_term then procedure t.a y else
    if t.kind equals binding_term then binding x y else
    none

-- a term, where f is what numbers mean
abbrev pub meaning_from : List ℕ → (ℕ → Value) → Term → Value
meaning_from ns f t = term_meaning ns t (f t.a) (f t.b) (f t.c)

-- term n of a table; none where there is none
unfoldable pub meaning : List ℕ → List Term → ℕ → Value
meaning ns ts n = fold_at (term_meaning ns) none ts n

-- ---- as the table grows
module _ (ns : List ℕ) where
  pub meaning_past : (ts : List Term) (a : ℕ) → length ts ≤ a → meaning ns ts a ≡ none
  unfolding meaning
  meaning_past = fold_past (term_meaning ns) none

  pub meaning_grown : {ts us : List Term} (a : ℕ) → Grown ts us → a < length ts → meaning ns us a ≡ meaning ns ts a
  unfolding meaning
  meaning_grown = fold_grown (term_meaning ns) none

-- ---- a term's meaning is made of the lower ones
eq_same : {A : Type 0} {x y u v : A} (i j : ℕ) → (i ≡ j → x ≡ u) → y ≡ v → (if i equals j then x else y) ≡ (if i equals j then u else v)
unfolding if◌equals◌then◌else◌
eq_same {x = x} {y} {u} {v} i j f g = go (eqb i j) refl
  where
    go : (b : Bool) → eqb i j ≡ b → pick b x y ≡ pick b u v
    go true e = f (eqb-true i j e)
    go false e = g

module _ (ns : List ℕ) (n : ℕ) (us : List Term) (t : Term) (f g : ℕ → Value) (h : laid_out n us t ≡ true)
    (same : (x : ℕ) → x < length us → f x ≡ g x) (last : f no_binding ≡ g no_binding) where
  operator_same : t.kind ≡ operator_term → operator_meaning t.op (f t.a) (f t.b) ≡ operator_meaning t.op (g t.a) (g t.b)
  unfolding laid_out if◌equals◌then◌else◌
  operator_same k =
      both (operands_laid_out us t.op t.a t.b) (eqb t.c 0) (rw k at h) λ p q.
      let l = operands_lower us t.a t.b t.op p in rw (same t.a l.first, same t.b l.second)

  choice_same : t.kind ≡ choice_term → pick (is_true (f t.a)) (f t.b) (f t.c) ≡ pick (is_true (g t.a)) (g t.b) (g t.c)
  choice_same k = let l = choice_names n us t h k in rw (same t.a l.0.low, same t.b l.1.low, same t.c l.2.low)

  procedure_same : t.kind ≡ procedure_term → procedure t.a (f t.b) ≡ procedure t.a (g t.b)
  procedure_same k = rw (same t.b (procedure_names n us t h k).low)

  binding_same : t.kind ≡ binding_term → binding (f t.a) (f t.b) ≡ binding (g t.a) (g t.b)
  binding_same k =
      let i = same t.a (binding_value n us t h k).low in
      let j : f t.b ≡ g t.b = binding_next n us t h k (λ e. rw e last) (λ e. same t.b e.low) in rw (i, j)

  meaning_same : meaning_from ns f t ≡ meaning_from ns g t
  unfolding term_meaning
  meaning_same =
      eq_same _ _ (λ i. refl) (eq_same _ _ (λ i. refl) (eq_same _ _ (λ i. refl) (eq_same _ _ (λ i. refl)
      (eq_same _ _ operator_same (eq_same _ _ choice_same (eq_same _ _ procedure_same (eq_same _ _ binding_same refl)))))))

-- The meaning of a term's number is the term's, over the whole table.
pub meaning_at : (ns : List ℕ) (n : ℕ) (ts : List Term) (a : ℕ) → well_formed n ts ≡ true → length ts ≤ term_limit → a < length ts
    → meaning ns ts a ≡ meaning_from ns (meaning ns ts) (at ts a)
unfolding meaning
meaning_at ns = fold_at_lem (term_meaning ns) none λ n us t h f g same last. meaning_same ns n us t f g h same last
