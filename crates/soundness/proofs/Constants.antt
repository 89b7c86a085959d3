-- Tables of constants: no free input and nothing made of one. Steps that keep them so. Assumes nothing.
use mathlib.Core.Path.{◌≡◌, refl}
use mathlib.Core.Bool.{Bool, true, false, not, ◌&&◌}
use mathlib.Core.List.{List, [], ◌∷◌}
use Prim.Native.Nat.{ℕ, ◌<◌}
use native.Mathlib.Omega.{arith}
use lib.ListN.{length}
use lib.Dec.{eqb}
use borrow.Author.Tests.{eqb-true, eqb-false}
use Rattle.notation.specs.Notation.{if◌equals◌then◌else◌}
use Rattle.semantics.specs.declared.Term.{Term}
use Rattle.semantics.specs.Numbers.{free_truth_term, free_word_term, operator_term, choice_term, table_full}
use Rattle.semantics.specs.Terms.{at}
use Rattle.semantics.specs.Steps.{Make, make_of}
use Rattle.typing.proofs.Grown.{Grown, still, more, at_lower, at_newest}
use Rattle.typing.proofs.Formed.{both, There}
use Rattle.typing.proofs.Does.{Lies, Fit, StepKeeping, DoesKeeping, does_make}

unfoldable pub is_constant : Term → Bool
is_constant t =
    if t.kind equals free_truth_term then false else
    if t.kind equals free_word_term then false else
    if t.kind equals operator_term then false else
    not (eqb t.kind choice_term)

abbrev all_constant : List Term → Bool
all_constant [] = true
all_constant (t ∷ ts) = is_constant t && all_constant ts

-- no free input and nothing made of one
pub record Const (ts : List Term) : Type 0 where
  is : all_constant ts ≡ true

pub const_none : Const []
const_none = record { is = refl }

pub const_more : {t : Term} {ts : List Term} → is_constant t ≡ true → Const ts → Const (t ∷ ts)
const_more h c = record { is = rw (h, c.is) }

pub const_back : {ts us : List Term} → Grown ts us → Const us → Const ts
const_back still c = c
const_back (more {us = us} {t = t} g) c = both (is_constant t) (all_constant us) c.is λ p q. const_back g (record { is = q })

pub const_at : (ts : List Term) (a : ℕ) → Const ts → a < length ts → is_constant (at ts a) ≡ true
const_at [] a c h = absurd (omega arith)
const_at (t ∷ ts) a c h =
    both (is_constant t) (all_constant ts) c.is λ p q. go p (eqb a (length ts)) refl (λ k. const_at ts a (record { is = q }) k)
  where
    go : is_constant t ≡ true → (b : Bool) → eqb a (length ts) ≡ b → (a < length ts → is_constant (at ts a) ≡ true) → is_constant (at (t ∷ ts) a) ≡ true
    go p true e r = rw (eqb-true a (length ts) e, at_newest t ts) p
    go p false e r = let k : a < length ts = omega (arith, eqb-false a (length ts) e) in rw (at_lower t ts a k) (r k)

-- ---- steps that keep a table of constants one
abbrev pub Step : ℕ → List Term → List Term → Type 0
Step n ts us = StepKeeping Const n ts us

abbrev pub Does : ℕ → ℕ → {A : Type 0} → Make A → List Term → (List Term → A → Type 0) → (ℕ → Type 0) → Type 0
Does l n m ts Q N = DoesKeeping Const l n m ts Q N

-- a term that is laid out over the table, and a constant where all are
pub does_make_constant : {l n : ℕ} {N : ℕ → Type 0} {ts : List Term} {t : Term} → N table_full → Fit n ts → Lies n ts t → (Const ts → is_constant t ≡ true)
    → Does l n (make_of t) ts (There t) N
does_make_constant e f h c = does_make e f h (λ d. const_more (c d) d)
