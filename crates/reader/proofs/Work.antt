-- A list that holds a fold's result for each term: the laws of any such list. Assumes nothing.
use mathlib.Core.Path.{◌≡◌, refl, sym, ap, ◌∙◌}
use mathlib.Core.Bool.{Bool, true, false}
use mathlib.Core.List.{List, ◌∷◌}
use Prim.Native.Nat.{ℕ, suc, ◌+◌, ◌<◌, ◌≤◌}
use native.Mathlib.Numerals.{add-one}
use native.Mathlib.Omega.{arith}
use lib.ListN.{length}
use lib.Dec.{eqb, ltb}
use borrow.Author.Tests.{eqb-true, eqb-false, ltb-true, ltb-false, lt-ltb, le-ltb}
use Rattle.notation.specs.Notation.{pick, if◌below◌then◌else◌}
use Rattle.semantics.specs.declared.Term.{Term}
use Rattle.semantics.specs.Terms.{term_at, terms_in}
use Rattle.semantics.specs.Fold.{FromLower, numbered, fold_terms, fold_at}
use Rattle.semantics.proofs.Fold.{fold_newest, fold_lower}
use Rattle.terms.proofs.Tables.{terms_length}
use Rattle.reader.specs.Work.{held_of, Holds}

-- what is held below i, and past it
module _ {A : Type 0} (held : List ℕ → ℕ → A) (d : A) (m : List ℕ) (i k : ℕ) where
  pub held_in_lem : k < i → {v : A} → v ≡ held m k → v ≡ held_of held d m i k
  unfolding held_of if◌below◌then◌else◌
  held_in_lem h g = rw (lt-ltb k i h) g

  pub held_out : i ≤ k → d ≡ held_of held d m i k
  unfolding held_of if◌below◌then◌else◌
  held_out h = rw (le-ltb k i h)

-- ---- the results of the first terms

module _ {A : Type 0} {held : List ℕ → ℕ → A} {f : FromLower A} {d : A} where
  -- of none
  pub holds_start : (s m : List ℕ) → Holds held f d s 0 m
  unfolding fold_terms numbered terms_in held_of if◌below◌then◌else◌
  holds_start s m = record { is = λ k. rw (le-ltb k 0 (omega arith)) }

  -- of one more: the list then holds the term's result, made of those below it, which stay
  pub holds_next : {s : List ℕ} {i : ℕ} {m : List ℕ} (n : List ℕ) {t : Term} {x y z v : A} → Holds held f d s i m → t ≡ term_at s i
      → x ≡ held_of held d m i t.a → y ≡ held_of held d m i t.b → z ≡ held_of held d m i t.c → v ≡ f t x y z
      → held n i ≡ v → ((k : ℕ) → k < i → held n k ≡ held m k) → Holds held f d s (i + 1) n
  unfolding terms_in held_of if◌below◌then◌else◌
  holds_next {s} {i} {m} n {t} {x} {y} {z} {v} g et ex ey ez ev en same = record { is = λ k. rw add-one (go k (eqb k i) refl) }
    where
      l : length (terms_in s i) ≡ i
      l = terms_length s i

      new : held n i ≡ f (term_at s i) (fold_at f d (terms_in s i) (term_at s i).a) (fold_at f d (terms_in s i) (term_at s i).b) (fold_at f d (terms_in s i) (term_at s i).c)
      new = rw (← et, ← g.is t.a, ← g.is t.b, ← g.is t.c, ← ex, ← ey, ← ez) (en ∙ ev)

      newest : fold_at f d (term_at s i ∷ terms_in s i) i ≡ held n i
      newest = ap (fold_at f d (term_at s i ∷ terms_in s i)) (sym l) ∙ (fold_newest f d (term_at s i) (terms_in s i) ∙ sym new)

      go : (k : ℕ) (b : Bool) → eqb k i ≡ b → pick (ltb k (suc i)) (held n k) d ≡ fold_at f d (term_at s i ∷ terms_in s i) k
      go k true q = let e : k ≡ i = eqb-true k i q in rw (lt-ltb k (suc i) (omega arith), e, newest)
      go k false q = rw (fold_lower f d (term_at s i) (terms_in s i) k (λ e. eqb-false k i q (e ∙ l))) (low (ltb k i) refl)
        where
          low : (b : Bool) → ltb k i ≡ b → pick (ltb k (suc i)) (held n k) d ≡ fold_at f d (terms_in s i) k
          low true w = let h = ltb-true k i w in rw (lt-ltb k (suc i) (omega arith), same k h) (rw w at (g.is k))
          low false w = rw (le-ltb k (suc i) (omega (arith, ltb-false k i w, eqb-false k i q))) (rw w at (g.is k))

  -- of all
  pub holds_end : (s : List ℕ) (i n : ℕ) (m : List ℕ) → Holds held f d s i m → i ≤ n → n ≤ i → Holds held f d s n m
  holds_end s i n m g a b = let e : i ≡ n = omega arith in rw e at g
