-- The terms that the factory makes: each is laid out over the table that its operands stand in, and of which sort it is. Assumes nothing.
use mathlib.Core.Path.{◌≡◌, refl, ap, ◌∙◌}
use mathlib.Core.Bool.{Bool, true, false, ◌&&◌, or-true}
use mathlib.Core.List.{List}
use Prim.Native.Nat.{ℕ, ◌<◌}
use lib.Dec.{eqb, ltb}
use borrow.Author.Tests.{eqb-true, eqb-false, ne_eqb, lt-ltb}
use Rattle.notation.specs.Notation.{pick, when◌then◌else◌, if◌equals◌then◌else◌, if◌below◌then◌else◌}
use Rattle.operators.specs.Operators.{operands_of, gives_truth_of, row_of}
use Rattle.semantics.specs.declared.Term.{Term}
use Rattle.semantics.specs.Numbers.{truth_term, word_term, operator_term, choice_term, procedure_term, binding_term, not_code, is_word_code, is_procedure_code, negation_code, conjunction_code, disjunction_code, truth_code, false_number, true_number, record_limit, no_binding}
use Rattle.semantics.specs.Terms.{term, word_term_of, truth_number, sort_of, names_value, operands_laid_out, laid_out}
use Rattle.semantics.proofs.Fields.{high_unused}
use Rattle.typing.proofs.Grown.{Grown, Sort, Value, value_grown, value_of, truth_named, choice_named, binding_named}
use Rattle.typing.proofs.Formed.{There}
use Rattle.typing.proofs.Does.{Lies, Fit}

abbrev pub Truth : List Term → ℕ → Type 0
Truth ts x = Sort truth_term ts x

-- ---- what a term that is there stands for
pub there_sort : {t : Term} {ts : List Term} {x : ℕ} (k : ℕ) → sort_of t ≡ k → There t ts x → Sort k ts x
there_sort k e h = record { is = ap sort_of h.is ∙ e; low = h.low }

pub false_truth : {n : ℕ} {ts : List Term} → Fit n ts → Truth ts false_number
unfolding sort_of if◌equals◌then◌else◌
false_truth f = there_sort truth_term refl f.no

pub true_truth : {n : ℕ} {ts : List Term} → Fit n ts → Truth ts true_number
unfolding sort_of if◌equals◌then◌else◌
true_truth f = there_sort truth_term refl f.yes

pub truth_value : {ts : List Term} {x : ℕ} → Truth ts x → Value ts x
truth_value h = value_of truth_term refl refl h

-- ---- terms that are laid out
module _ {n : ℕ} {ts : List Term} where
  pub laid_not : {x : ℕ} → Truth ts x → Lies n ts (term operator_term negation_code x 0 0)
  unfolding laid_out operands_laid_out if◌equals◌then◌else◌ if◌below◌then◌else◌
  laid_not h = record { is = rw (truth_named h) }

  pub laid_and : {x y : ℕ} → Truth ts x → Truth ts y → Lies n ts (term operator_term conjunction_code x y 0)
  unfolding laid_out operands_laid_out if◌equals◌then◌else◌ if◌below◌then◌else◌
  laid_and h k = record { is = rw (truth_named h, truth_named k) }

  pub laid_or : {x y : ℕ} → Truth ts x → Truth ts y → Lies n ts (term operator_term disjunction_code x y 0)
  unfolding laid_out operands_laid_out if◌equals◌then◌else◌ if◌below◌then◌else◌
  laid_or h k = record { is = rw (truth_named h, truth_named k) }

  pub laid_truth : {x : ℕ} → Sort choice_term ts x → Lies n ts (term operator_term truth_code x 0 0)
  unfolding laid_out operands_laid_out if◌equals◌then◌else◌ if◌below◌then◌else◌
  laid_truth h = record { is = rw (choice_named h) }

  pub laid_is_word : {x : ℕ} → Sort choice_term ts x → Lies n ts (term operator_term is_word_code x 0 0)
  unfolding laid_out operands_laid_out if◌equals◌then◌else◌ if◌below◌then◌else◌
  laid_is_word h = record { is = rw (choice_named h) }

  pub laid_is_procedure : {x : ℕ} → Sort choice_term ts x → Lies n ts (term operator_term is_procedure_code x 0 0)
  unfolding laid_out operands_laid_out if◌equals◌then◌else◌ if◌below◌then◌else◌
  laid_is_procedure h = record { is = rw (choice_named h) }

  pub laid_choice : {g x y : ℕ} → Truth ts g → Value ts x → Value ts y → Lies n ts (term choice_term 0 g x y)
  unfolding laid_out if◌equals◌then◌else◌
  laid_choice h k i = record { is = rw (truth_named h, k.is, i.is) }

  pub laid_word : (w : ℕ) → Lies n ts (word_term_of w)
  unfolding laid_out if◌equals◌then◌else◌
  laid_word w = record { is = rw (high_unused w) }

  pub laid_constant : (w : ℕ) → Lies n ts (term truth_term 0 (truth_number w) 0 0)
  unfolding truth_number laid_out if◌equals◌then◌else◌
  laid_constant w = record { is = go (eqb w 1) }
    where
      go : (b : Bool) → ltb (pick b true_number false_number) 2 && true ≡ true
      go true = refl
      go false = refl

  pub laid_binding : {v e : ℕ} → Value ts v → Sort binding_term ts e → Lies n ts (term binding_term 0 v e 0)
  unfolding laid_out if◌equals◌then◌else◌
  laid_binding {v} {e} h k = record { is = rw (h.is, binding_named k, or-true (eqb e no_binding)) }

  pub laid_procedure : {i e b : ℕ} → i < record_limit → Sort binding_term ts e → b < n → Lies n ts (term procedure_term 0 i e b)
  unfolding laid_out if◌equals◌then◌else◌
  laid_procedure h k l = record { is = rw (lt-ltb _ _ h, binding_named k, lt-ltb _ _ l) }

-- the operands of a code from 1 to 12: a second one is zero where there is none
pub record Operands (ts : List Term) (op a b : ℕ) : Type 0 where
  pub some : op ≡ 0 → ⊥
  pub few : op < not_code
  pub first : Value ts a
  pub alone : operands_of op ≡ 1 → b ≡ 0
  pub second : (operands_of op ≡ 1 → ⊥) → Value ts b

pub operands_grown : {ts us : List Term} {op a b : ℕ} → Grown ts us → Operands ts op a b → Operands us op a b
operands_grown g h =
    record { some = h.some; few = h.few; first = value_grown g h.first; alone = h.alone; second = λ e. value_grown g (h.second e) }

pub laid_operator : {n : ℕ} {ts : List Term} {op a b : ℕ} → Operands ts op a b → Lies n ts (term operator_term op a b 0)
unfolding laid_out operands_laid_out if◌equals◌then◌else◌ if◌below◌then◌else◌
laid_operator {n} {ts} {op} {a} {b} h = record { is = rw (ne_eqb _ _ h.some, lt-ltb _ _ h.few, h.first.is) (go (eqb (operands_of op) 1) refl) }
  where
    go : (c : Bool) → eqb (operands_of op) 1 ≡ c → (pick c (eqb b 0) (names_value ts b) && true) ≡ true
    go true e = rw (h.alone (eqb-true _ _ e))
    go false e = rw (h.second (eqb-false _ _ e)).is

-- operators that give truths
pub formula : (op a b : ℕ) → gives_truth_of op ≡ true → sort_of (term operator_term op a b 0) ≡ truth_term
unfolding sort_of if◌equals◌then◌else◌ when◌then◌else◌
formula op a b e = rw e

-- any operator gives a value
pub operator_value : {ts : List Term} {x op a b : ℕ} → There (term operator_term op a b 0) ts x → Value ts x
unfolding sort_of if◌equals◌then◌else◌ when◌then◌else◌
operator_value {ts} {x} {op} h = go (gives_truth_of op) refl
  where
    go : (c : Bool) → gives_truth_of op ≡ c → Value ts x
    go true e = value_of truth_term refl refl (there_sort truth_term (rw e) h)
    go false e = value_of word_term refl refl (there_sort word_term (rw e) h)

pub word_sort : (w : ℕ) → sort_of (word_term_of w) ≡ word_term
unfolding sort_of if◌equals◌then◌else◌
word_sort w = refl

pub choice_sort : (g x y : ℕ) → sort_of (term choice_term 0 g x y) ≡ choice_term
unfolding sort_of if◌equals◌then◌else◌
choice_sort g x y = refl

pub procedure_sort : (i e b : ℕ) → sort_of (term procedure_term 0 i e b) ≡ procedure_term
unfolding sort_of if◌equals◌then◌else◌
procedure_sort i e b = refl

pub binding_sort : (v e : ℕ) → sort_of (term binding_term 0 v e 0) ≡ binding_term
unfolding sort_of if◌equals◌then◌else◌
binding_sort v e = refl

-- the codes that give truths
pub gives_not : gives_truth_of negation_code ≡ true
unfolding gives_truth_of row_of
gives_not = refl

pub gives_and : gives_truth_of conjunction_code ≡ true
unfolding gives_truth_of row_of
gives_and = refl

pub gives_or : gives_truth_of disjunction_code ≡ true
unfolding gives_truth_of row_of
gives_or = refl

pub gives_truth : gives_truth_of truth_code ≡ true
unfolding gives_truth_of row_of
gives_truth = refl

pub gives_is_word : gives_truth_of is_word_code ≡ true
unfolding gives_truth_of row_of
gives_is_word = refl

pub gives_is_procedure : gives_truth_of is_procedure_code ≡ true
unfolding gives_truth_of row_of
gives_is_procedure = refl
