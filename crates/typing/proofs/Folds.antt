-- Folds over the terms of a well-formed table: what is known of each term, that older results stay as the table grows, and that a term's result is
-- made of the results in the whole table. Assumes nothing.
use mathlib.Core.Path.{◌≡◌, refl, sym, ◌∙◌}
use mathlib.Core.Bool.{Bool, true, false}
use mathlib.Core.List.{List, [], ◌∷◌}
use Prim.Native.Nat.{ℕ, ◌<◌, ◌≤◌}
use native.Mathlib.Omega.{arith}
use lib.ListN.{length}
use lib.Dec.{eqb}
use borrow.Author.Tests.{eqb-true, eqb-false}
use Rattle.semantics.specs.declared.Term.{Term}
use Rattle.semantics.specs.Numbers.{no_binding, term_limit}
use Rattle.semantics.specs.Terms.{at, laid_out, well_formed}
use Rattle.semantics.specs.Fold.{FromLower, fold_at}
use Rattle.semantics.proofs.Fold.{fold_newest, fold_lower, Each}
use Rattle.typing.proofs.Grown.{Grown, still, more, grown_length, at_lower, at_newest}
use Rattle.typing.proofs.Formed.{Laid, formed_newest, laid_at}

-- Every term is laid out over those below it.
pub formed_each : (n : ℕ) (ts : List Term) → well_formed n ts ≡ true → Each (λ us t. laid_out n us t ≡ true) ts
formed_each n [] h = tt
formed_each n (t ∷ ts) h = formed_newest n t ts h λ p u v. (p, formed_each n ts v)

module _ {A : Type 0} (f : FromLower A) (d : A) where
  -- Older terms have the same results in a longer table.
  pub fold_grown : {ts us : List Term} (k : ℕ) → Grown ts us → k < length ts → fold_at f d us k ≡ fold_at f d ts k
  fold_grown k still h = refl
  fold_grown k (more {us = us} {t = t} q) h = let l = grown_length q in fold_lower f d t us k (λ e. omega arith) ∙ fold_grown k q h

  -- What is made of a laid out term depends on those alone that it names: lower ones, and none at the end of a chain of bindings.
  abbrev pub Named : Type 0
  Named = (n : ℕ) (us : List Term) (t : Term) → laid_out n us t ≡ true → (g h : ℕ → A) → ((x : ℕ) → x < length us → g x ≡ h x) → g no_binding ≡ h no_binding
      → f t (g t.a) (g t.b) (g t.c) ≡ f t (h t.a) (h t.b) (h t.c)

  -- the term's result, of results in the whole table
  abbrev pub Made : List Term → ℕ → Type 0
  Made ts a = fold_at f d ts a ≡ f (at ts a) (fold_at f d ts (at ts a).a) (fold_at f d ts (at ts a).b) (fold_at f d ts (at ts a).c)

  pub fold_at_lem : Named → (n : ℕ) (ts : List Term) (a : ℕ) → well_formed n ts ≡ true → length ts ≤ term_limit → a < length ts → Made ts a
  fold_at_lem same n [] a h s l = absurd (omega arith)
  fold_at_lem same n (t ∷ ts) a h s l = formed_newest n t ts h λ p u v. go p v (eqb a (length ts)) refl (λ k. fold_at_lem same n ts a v (omega arith) k)
    where
      lower : (x : ℕ) → x < length ts → fold_at f d ts x ≡ fold_at f d (t ∷ ts) x
      lower x k = sym (fold_lower f d t ts x (λ e. omega arith))

      past : fold_at f d ts no_binding ≡ fold_at f d (t ∷ ts) no_binding
      past = sym (fold_lower f d t ts no_binding (λ e. omega arith))

      go : laid_out n ts t ≡ true → well_formed n ts ≡ true → (b : Bool) → eqb a (length ts) ≡ b → (a < length ts → Made ts a) → Made (t ∷ ts) a
      go p v true e r =
          rw (eqb-true a (length ts) e, at_newest t ts) (fold_newest f d t ts ∙ same n ts t p (fold_at f d ts) (fold_at f d (t ∷ ts)) lower past)
      go p v false e r =
          let k : a < length ts = omega (arith, eqb-false a (length ts) e) in
          let y : Laid n ts a = laid_at n ts a v k in
          let m = grown_length y.grown in
          fold_lower f d t ts a (λ e. omega arith) ∙ (r k ∙ rw (at_lower t ts a k)
          (same n y.under (at ts a) y.laid (fold_at f d ts) (fold_at f d (t ∷ ts)) (λ x i. lower x (omega arith)) past))
