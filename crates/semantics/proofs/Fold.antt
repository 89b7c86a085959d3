-- What every fold over terms has: as many results as there are terms, the newest one's, and older ones as in the table below. What holds of each
-- result that is made of lower ones, all have; and steps that keep a relation give folds that are so related, term by term. Assumes nothing.
use mathlib.Core.Path.{◌≡◌, refl, ap, ◌∙◌}
use mathlib.Core.Bool.{Bool, true, false}
use mathlib.Core.List.{List, [], ◌∷◌}
use Prim.Native.Nat.{ℕ, suc, ◌<◌, ◌≤◌}
use native.Mathlib.Omega.{arith}
use lib.ListN.{length}
use lib.Dec.{eqb, ltb}
use borrow.Author.Tests.{eqb-true, eqb-false, eq-eqb, ne_eqb, ltb-true, ltb-false}
use Rattle.notation.specs.Notation.{with, if◌equals◌then◌else◌}
use Rattle.semantics.specs.declared.Term.{Term}
use Rattle.semantics.specs.Fold.{FromLower, numbered, fold_terms, fold_at}

-- ---- lists by number
module _ {A : Type 0} (d v : A) (vs : List A) where
  pub numbered_newest : (k : ℕ) → k ≡ length vs → numbered d (v ∷ vs) k ≡ v
  unfolding numbered if◌equals◌then◌else◌
  numbered_newest k h = rw (eq-eqb k (length vs) h)

  pub numbered_lower : (k : ℕ) → (k ≡ length vs → ⊥) → numbered d (v ∷ vs) k ≡ numbered d vs k
  unfolding numbered if◌equals◌then◌else◌
  numbered_lower k h = rw (ne_eqb k (length vs) h)

-- ---- one fold
module _ {A : Type 0} (f : FromLower A) (d : A) where
  pub fold_length : (ts : List Term) → length (fold_terms f d ts) ≡ length ts
  unfolding fold_terms with
  fold_length [] = refl
  fold_length (t ∷ ts) = ap suc (fold_length ts)

  pub fold_newest : (t : Term) (ts : List Term) → fold_at f d (t ∷ ts) (length ts) ≡ f t (fold_at f d ts t.a) (fold_at f d ts t.b) (fold_at f d ts t.c)
  unfolding fold_terms with
  fold_newest t ts = let l = fold_length ts in numbered_newest d _ (fold_terms f d ts) (length ts) (omega arith)

  pub fold_lower : (t : Term) (ts : List Term) (k : ℕ) → (k ≡ length ts → ⊥) → fold_at f d (t ∷ ts) k ≡ fold_at f d ts k
  unfolding fold_terms with
  fold_lower t ts k h = numbered_lower d _ (fold_terms f d ts) k (λ e. h (e ∙ fold_length ts))

  -- past the last term
  pub fold_past : (ts : List Term) (k : ℕ) → length ts ≤ k → fold_at f d ts k ≡ d
  unfolding fold_terms numbered
  fold_past [] k h = refl
  fold_past (t ∷ ts) k h = fold_lower t ts k (λ e. omega arith) ∙ fold_past ts k (omega arith)

-- ---- what is known of each term, over those below it
abbrev pub Each : (List Term → Term → Type 0) → List Term → Type 0
Each P [] = Unit {0}
Each P (t ∷ ts) = P ts t × Each P ts

pub each_both : (P Q : List Term → Term → Type 0) (ts : List Term) → Each P ts → Each Q ts → Each (λ us t. P us t × Q us t) ts
each_both P Q [] p q = tt
each_both P Q (t ∷ ts) p q = ((p.0, q.0), each_both P Q ts p.1 q.1)

-- ---- what every result has: the newest term's from those of the lower ones, and it stays so as the table grows
module _ {A : Type 0} (f : FromLower A) (d : A) (P : List Term → Term → Type 0) (Q : List Term → ℕ → A → Type 0)
    (stays : (t : Term) (us : List Term) (k : ℕ) (v : A) → k < length us → Q us k v → Q (t ∷ us) k v)
    (newest : (t : Term) (us : List Term) → P us t → ((k : ℕ) → k < length us → Q us k (fold_at f d us k))
    → Q (t ∷ us) (length us) (f t (fold_at f d us t.a) (fold_at f d us t.b) (fold_at f d us t.c))) where
  pub fold_has : (ts : List Term) → Each P ts → (k : ℕ) → k < length ts → Q ts k (fold_at f d ts k)
  fold_has [] p k h = absurd (omega arith)
  fold_has (t ∷ ts) p k h = go (eqb k (length ts)) refl (fold_has ts p.1)
    where
      go : (b : Bool) → eqb k (length ts) ≡ b → ((j : ℕ) → j < length ts → Q ts j (fold_at f d ts j)) → Q (t ∷ ts) k (fold_at f d (t ∷ ts) k)
      go true e r = rw (eqb-true k (length ts) e, fold_newest f d t ts) (newest t ts p.0 r)
      go false e r =
          let l : k < length ts = omega (arith, eqb-false k (length ts) e) in
          rw (fold_lower f d t ts k (eqb-false k (length ts) e)) (stays t ts k (fold_at f d ts k) l (r k l))

-- ---- two folds
module _ {A B : Type 0} (R : A → B → Type 0) (f : FromLower A) (g : FromLower B) {d : A} {e : B} (none : R d e) (P : List Term → Term → Type 0)
    (step : (us : List Term) (t : Term) → P us t → (x y z : A) (u v w : B) → R x u → R y v → R z w → R (f t x y z) (g t u v w)) where
  -- where none is named, both give what stands for it
  any : (ts : List Term) → ((k : ℕ) → k < length ts → R (fold_at f d ts k) (fold_at g e ts k)) → (k : ℕ) → R (fold_at f d ts k) (fold_at g e ts k)
  any ts h k = go (ltb k (length ts)) refl
    where
      go : (b : Bool) → ltb k (length ts) ≡ b → R (fold_at f d ts k) (fold_at g e ts k)
      go true q = h k (ltb-true k (length ts) q)
      go false q = let l : length ts ≤ k = ltb-false k (length ts) q in rw (fold_past f d ts k l, fold_past g e ts k l) none

  -- Steps that keep a relation, on terms of which P is known, give folds that are so related.
  pub fold_related : (ts : List Term) → Each P ts → (k : ℕ) → R (fold_at f d ts k) (fold_at g e ts k)
  fold_related ts p = any ts (fold_has f d P (λ us k x. R x (fold_at g e us k)) stays newest ts p)
    where
      stays : (t : Term) (us : List Term) (k : ℕ) (x : A) → k < length us → R x (fold_at g e us k) → R x (fold_at g e (t ∷ us) k)
      stays t us k x l h = rw (fold_lower g e t us k (λ i. omega arith)) h

      newest : (t : Term) (us : List Term) → P us t → ((k : ℕ) → k < length us → R (fold_at f d us k) (fold_at g e us k))
          → R (f t (fold_at f d us t.a) (fold_at f d us t.b) (fold_at f d us t.c)) (fold_at g e (t ∷ us) (length us))
      newest t us q h = rw (fold_newest g e t us) (step us t q _ _ _ _ _ _ (any us h t.a) (any us h t.b) (any us h t.c))
