-- Marks in a work list: one more, those that a term is read from, and the pass from the newest term down. Assumes nothing.
use mathlib.Core.Path.{◌≡◌, refl, sym, ap, ◌∙◌}
use mathlib.Core.Bool.{Bool, true, false, not, ◌&&◌, ◌||◌}
use mathlib.Core.List.{List}
use Prim.Native.Nat.{ℕ, zero, suc, ◌-◌, ◌<◌, ◌≤◌}
use native.Mathlib.Omega.{arith}
use lib.Dec.{eqb, ltb}
use lib.ListN.{length, get_or, set, replicate, length-set, length-replicate}
use lib.Seq.{get_or-set_same, get_or-set_other}
use borrow.Author.Tests.{eqb-true, eqb-false, le-ltb, lt-ltb}
use Rattle.notation.specs.Notation.{pick, when◌then◌else◌}
use Rattle.semantics.specs.declared.Term.{Term}
use Rattle.semantics.specs.declared.Result.{Result}
use Rattle.semantics.specs.Terms.{term_at, terms_in}
use Rattle.semantics.specs.Under.{from_first, from_second, from_third, with_term, with_lower, down_from, named_by, under_of}
use Rattle.semantics.proofs.Under.{down_same}
use Rattle.terms.proofs.Tables.{terms_length}
use Rattle.under.specs.Marks.{mark_place, mark_in, Sets, MarksUnder}

-- a test that code makes by a difference
pub not_one : {n v : ℕ} → n ≡ v → not (eqb n 1) ≡ not (eqb v 1)
not_one e = rw e

-- ---- one more mark

-- where it is asked for, and there is such a place
pub mark_set : (b : Bool) (n x : ℕ) (m : List ℕ) → n ≤ length m → b ≡ true → x < n → Sets (with_term b n x) m (set m x mark_place)
unfolding with_term
mark_set b n x m l e h = record { long = length-set m x mark_place; marks = λ k. rw e (go k (eqb k x) refl) }
  where
    go : (k : ℕ) (c : Bool) → eqb k x ≡ c → mark_in (set m x mark_place) k ≡ ((c && ltb k n) || mark_in m k)
    go k true q = let p : k ≡ x = eqb-true k x q in rw (p, get_or-set_same m x mark_place 0 (omega arith), lt-ltb x n h)
    go k false q = rw (get_or-set_other m x k mark_place 0 (eqb-false k x q))

-- where there is none
pub mark_past : (b : Bool) (n x : ℕ) (m : List ℕ) → n ≤ x → Sets (with_term b n x) m m
unfolding with_term
mark_past b n x m h = record { long = refl; marks = λ k. go k b (eqb k x) refl }
  where
    go : (k : ℕ) (b c : Bool) → eqb k x ≡ c → mark_in m k ≡ ((b && (c && ltb k n)) || mark_in m k)
    go k false c q = refl
    go k true false q = refl
    go k true true q = rw (le-ltb k n (omega (arith, eqb-true k x q)))

-- where it is not asked for
pub mark_none : (b : Bool) (n x : ℕ) (m : List ℕ) → b ≡ false → Sets (with_term b n x) m m
unfolding with_term
mark_none b n x m e = record { long = refl; marks = λ k. rw e }

pub ruleset one_mark = (mark_set, mark_past, mark_none)

-- ---- those that a term is read from
pub mark_three : (n : ℕ) (t : Term) {m₀ m₁ m₂ m₃ : List ℕ} {p q r : Bool} → p ≡ from_first t → q ≡ from_second t → r ≡ from_third t
    → Sets (with_term p n t.a) m₀ m₁ → Sets (with_term q n t.b) m₁ m₂ → Sets (with_term r n t.c) m₂ m₃ → Sets (with_lower n t) m₀ m₃
unfolding with_lower with_term
mark_three n t ep eq er a b c =
    record { long = c.long ∙ (b.long ∙ a.long); marks = λ k. rw (← ep, ← eq, ← er, c.marks k, b.marks k, a.marks k) }

-- ---- the result's, in a list that is wiped before
zero_at : (n k : ℕ) → ◌≡◌ {A = ℕ} (get_or (replicate n 0) k 0) 0
zero_at zero k = refl
zero_at (suc n) zero = refl
zero_at (suc n) (suc k) = zero_at n k

pub mark_named : (n : ℕ) (r : Result) {m₀ m₁ m₂ m₃ m₄ : List ℕ} → m₁ ≡ replicate (length m₀) 0
    → Sets (with_term true n r.state.assumed) m₁ m₂ → Sets (with_term true n r.state.asserted) m₂ m₃ → Sets (with_term (not r.halted) n r.value) m₃ m₄ → Sets (λ m. named_by n r) m₀ m₄
unfolding named_by with_term
mark_named n r {m₀ = m₀} z a b c =
    record {
      long = c.long ∙ (b.long ∙ (a.long ∙ (ap length z ∙ length-replicate (length m₀) 0)));
      marks = λ k. rw (c.marks k, b.marks k, a.marks k, z, zero_at (length m₀) k);
    }

-- ---- the pass: the marks that it will come to
pub record Onward (s : List ℕ) (count : ℕ) (w : List ℕ) (i : ℕ) (m : List ℕ) : Type 0 where
  pub to : (k : ℕ) → down_from (terms_in s i) (mark_in m) k ≡ down_from (terms_in s count) (mark_in w) k

down_next : (s : List ℕ) (i : ℕ) (m : ℕ → Bool) (k : ℕ) → down_from (terms_in s (suc i)) m k ≡ down_from (terms_in s i) (pick (m i) (with_lower i (term_at s i) m) m) k
unfolding down_from terms_in when◌then◌else◌
down_next s i m k = ap (λ n. down_from (terms_in s i) (pick (m n) (with_lower n (term_at s i) m) m) k) (terms_length s i)

module _ {s : List ℕ} {count : ℕ} {w : List ℕ} where
  pub onward_start : Onward s count w count w
  onward_start = record { to = λ k. refl }

  module _ {i : ℕ} {m : List ℕ} (inv : Onward s count w i m) (h : 0 < i) where
    turn : (k : ℕ) → down_from (terms_in s (i - 1)) (pick (mark_in m (i - 1)) (with_lower (i - 1) (term_at s (i - 1)) (mark_in m)) (mark_in m)) k ≡ down_from (terms_in s count) (mark_in w) k
    turn k = let e : i ≡ suc (i - 1) = omega arith in sym (down_next s (i - 1) (mark_in m) k) ∙ (rw e at (inv.to k))

    module _ {b : Bool} (eb : b ≡ mark_in m (i - 1)) where
      pub onward_marked : b ≡ true → {t : Term} {n : List ℕ} → t ≡ term_at s (i - 1) → Sets (with_lower (i - 1) t) m n → Onward s count w (i - 1) n
      onward_marked y et p = record { to = λ k. down_same (terms_in s (i - 1)) _ _ (λ j. rw et at (p.marks j)) k ∙ (rw (← eb, y) at (turn k)) }

      pub onward_unmarked : b ≡ false → Onward s count w (i - 1) m
      onward_unmarked y = record { to = λ k. rw (← eb, y) at (turn k) }

  pub onward_end : {i : ℕ} {m : List ℕ} → i ≤ 0 → length m ≡ length w → Onward s count w i m → Sets (down_from (terms_in s count)) w m
  unfolding down_from terms_in
  onward_end {i} h l inv = let e : i ≡ 0 = omega arith in record { long = l; marks = λ k. rw e at (inv.to k) }

-- ---- under the result
module _ (s : List ℕ) (count : ℕ) (r : Result) where
  pub under_marked : {m₀ m₁ m₂ : List ℕ} → count ≤ length m₀ → Sets (λ x. named_by count r) m₀ m₁ → Sets (down_from (terms_in s count)) m₁ m₂ → MarksUnder s count r m₀ m₂
  unfolding under_of
  under_marked l a b =
      record { long = b.long ∙ a.long; short = λ h. absurd (omega arith); marks = λ h k. b.marks k ∙ down_same (terms_in s count) _ _ (λ j. rw (terms_length s count) (a.marks j)) k }

  pub under_short : {m : List ℕ} → length m < count → MarksUnder s count r m m
  under_short h = record { long = refl; short = λ q. refl; marks = λ q. absurd (omega arith) }
