-- A table that grew: older terms stay as they are. What a number names, by its sort. Assumes nothing.
use mathlib.Core.Path.{◌≡◌, refl, sym, ap, ◌∙◌}
use mathlib.Core.Bool.{Bool, true, false}
use mathlib.Core.List.{List, [], ◌∷◌}
use Prim.Native.Nat.{ℕ, ◌<◌, ◌≤◌}
use native.Mathlib.Omega.{arith}
use lib.ListN.{length}
use lib.Dec.{eqb, ltb}
use borrow.Author.Tests.{eqb-true, eqb-false, eq-eqb, ltb-true, ltb-false}
use Rattle.notation.specs.Notation.{pick, with, if◌equals◌then◌else◌}
use Rattle.semantics.specs.declared.Term.{Term}
use Rattle.semantics.specs.Numbers.{truth_term, choice_term, binding_term}
use Rattle.semantics.specs.Terms.{blank, at, sort_of, names_truth, names_choice, names_binding, names_value}

pub data Grown (ts : List Term) : List Term → Type 0 where
  still : Grown ts ts
  more : {us : List Term} {t : Term} → Grown ts us → Grown ts (t ∷ us)

pub grown_on : {ts us ws : List Term} → Grown ts us → Grown us ws → Grown ts ws
grown_on p still = p
grown_on p (more q) = more (grown_on p q)

pub grown_length : {ts us : List Term} → Grown ts us → length ts ≤ length us
grown_length still = omega arith
grown_length (more q) = let h = grown_length q in omega arith

-- ---- terms by number
pub at_lower : (t : Term) (ts : List Term) (a : ℕ) → a < length ts → at (t ∷ ts) a ≡ at ts a
unfolding at
at_lower t ts a h = go (eqb a (length ts)) refl
  where
    go : (b : Bool) → eqb a (length ts) ≡ b → pick b t (at ts a) ≡ at ts a
    go true e = absurd (omega (arith, eqb-true a (length ts) e))
    go false e = refl

pub at_newest : (t : Term) (ts : List Term) → at (t ∷ ts) (length ts) ≡ t
unfolding at
at_newest t ts = rw (eq-eqb (length ts) (length ts) refl)

pub at_past : (ts : List Term) (a : ℕ) → length ts ≤ a → at ts a ≡ blank
unfolding at
at_past [] a h = refl
at_past (t ∷ ts) a h = go (eqb a (length ts)) refl (at_past ts a (omega arith))
  where
    go : (b : Bool) → eqb a (length ts) ≡ b → at ts a ≡ blank → pick b t (at ts a) ≡ blank
    go true e r = absurd (omega (arith, eqb-true a (length ts) e))
    go false e r = r

pub at_grown : {ts us : List Term} (a : ℕ) → Grown ts us → a < length ts → at us a ≡ at ts a
at_grown a still h = refl
at_grown a (more {us = us} {t = t} q) h = let l = grown_length q in at_lower t us a (omega arith) ∙ at_grown a q h

-- ---- what a number names

-- it names a term of the sort k
pub record Sort (k : ℕ) (ts : List Term) (x : ℕ) : Type 0 where
  pub is : sort_of (at ts x) ≡ k
  pub low : x < length ts

-- it names anything but a binding
pub record Value (ts : List Term) (x : ℕ) : Type 0 where
  pub is : names_value ts x ≡ true
  pub low : x < length ts

pub sort_grown : {ts us : List Term} {x k : ℕ} → Grown ts us → Sort k ts x → Sort k us x
sort_grown {x = x} g e = let l = grown_length g in let h = e.low in record { is = ap sort_of (at_grown x g e.low) ∙ e.is; low = omega arith }

pub value_grown : {ts us : List Term} {x : ℕ} → Grown ts us → Value ts x → Value us x
unfolding names_value
value_grown {x = x} g e =
    let l = grown_length g in let h = e.low in record { is = rw (at_grown x g e.low) e.is; low = omega arith }

-- a value by its sort
pub value_of : {ts : List Term} {x : ℕ} (k : ℕ) → eqb k 0 ≡ false → eqb k binding_term ≡ false → Sort k ts x → Value ts x
unfolding names_value with if◌equals◌then◌else◌
value_of k h g e = record { is = rw (e.is, h, g); low = e.low }

-- ---- the tests of the definitions

-- a number that is not below the count names nothing
blank_sort : sort_of blank ≡ 0
unfolding sort_of if◌equals◌then◌else◌
blank_sort = refl

past_sort : (ts : List Term) (x : ℕ) → length ts ≤ x → sort_of (at ts x) ≡ 0
past_sort ts x h = ap sort_of (at_past ts x h) ∙ blank_sort

-- what holds of a number where it is below n and where it is not
below_or : {P : Type 0} (x n : ℕ) → (x < n → P) → (n ≤ x → P) → P
below_or {P} x n f g = go (ltb x n) refl
  where
    go : (b : Bool) → ltb x n ≡ b → P
    go true e = f (omega (arith, ltb-true x n e))
    go false e = g (omega (arith, ltb-false x n e))

pub sort_at : (ts : List Term) (x k : ℕ) → eqb k 0 ≡ false → sort_of (at ts x) ≡ k → Sort k ts x
sort_at ts x k h e =
    record { is = e; low = below_or x (length ts) (λ l. l) (λ l. absurd (omega (arith, eqb-false k 0 h, sym e ∙ past_sort ts x l))) }

pub value_at : (ts : List Term) (x : ℕ) → names_value ts x ≡ true → Value ts x
unfolding names_value with if◌equals◌then◌else◌
value_at ts x e =
    record {
      is = e;
      low =
          below_or x (length ts) (λ l. l)
          (λ l. let z : ◌≡◌ {A = Bool} true false = sym e ∙ rw (past_sort ts x l) in let w : ◌≡◌ {A = ℕ} 0 1 = cc in absurd (omega arith));
    }

module _ (ts : List Term) (x : ℕ) where
  pub truth_at : names_truth ts x ≡ true → Sort truth_term ts x
  unfolding names_truth
  truth_at e = sort_at ts x truth_term refl (eqb-true _ _ e)

  pub choice_at : names_choice ts x ≡ true → Sort choice_term ts x
  unfolding names_choice
  choice_at e = sort_at ts x choice_term refl (eqb-true _ _ e)

  pub binding_at : names_binding ts x ≡ true → Sort binding_term ts x
  unfolding names_binding
  binding_at e = sort_at ts x binding_term refl (eqb-true _ _ e)

pub truth_named : {ts : List Term} {x : ℕ} → Sort truth_term ts x → names_truth ts x ≡ true
unfolding names_truth
truth_named e = rw e.is

pub choice_named : {ts : List Term} {x : ℕ} → Sort choice_term ts x → names_choice ts x ≡ true
unfolding names_choice
choice_named e = rw e.is

pub binding_named : {ts : List Term} {x : ℕ} → Sort binding_term ts x → names_binding ts x ≡ true
unfolding names_binding
binding_named e = rw e.is
