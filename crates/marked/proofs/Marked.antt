-- The marked terms under one reading: a marked place holds a reading too; the pass over the marked terms, each read from marked ones; and what the result
-- reads as then. Assumes nothing.
use mathlib.Core.Path.{◌≡◌, refl, sym, ap, ◌∙◌}
use mathlib.Core.Bool.{Bool, true, false, false≢true}
use mathlib.Core.List.{List, ◌∷◌}
use Prim.Native.Nat.{ℕ, ◌+◌, ◌*◌, ◌/◌, ◌%◌, ◌<◌, ◌≤◌}
use native.Mathlib.Numerals.{add-one}
use native.Mathlib.Omega.{arith}
use lib.Dec.{eqb, ltb}
use lib.ListN.{length, set, take, length-set}
use lib.Seq.{get_or-set_same, get_or-set_other, get_or-take, length-take-le}
use borrow.Author.Tests.{eqb-true, eqb-false, ltb-true, ltb-false, le-leb}
use Rattle.words.specs.Words.{word_limit}
use Rattle.semantics.specs.declared.Term.{Term}
use Rattle.semantics.specs.declared.Result.{Result}
use Rattle.semantics.specs.declared.Reading.{Reading}
use Rattle.semantics.specs.Terms.{term_at, terms_in}
use Rattle.semantics.specs.Fold.{FromLower, fold_at}
use Rattle.semantics.specs.Reading.{reading_of, nothing, term_reading, readings, read_in}
use Rattle.semantics.specs.Under.{under_of, ReadFrom, Closed}
use Rattle.semantics.proofs.Fold.{fold_newest, fold_lower, fold_past}
use Rattle.semantics.proofs.Under.{same_step, under_closed, read_under}
use Rattle.terms.proofs.Tables.{terms_length, at_low}
use Rattle.reader.specs.Reader.{unpacked_of, held_reading, held_outcome}
use Rattle.reader.proofs.Held.{reading_past}
use Rattle.under.specs.Marks.{mark_place, mark_in, MarksUnder}
use Rattle.marked.specs.Marked.{Under, ReadsMarked}

-- ---- a reading comes back from a marked place
pub kept : (k n : ℕ) → k < 256 → n < word_limit → unpacked_of (mark_place + word_limit * k + n) ≡ reading_of k n
unfolding unpacked_of
kept k n h l =
    let p : (mark_place + word_limit * k + n) / word_limit % 256 ≡ k = omega arith in
    let q : (mark_place + word_limit * k + n) % word_limit ≡ n = omega arith in
    rw (p, q)

-- ---- the part of a work list below i: what it holds for a lower term, and past it
abbrev lowers : List ℕ → ℕ → ℕ → Reading
lowers m i = held_reading (take i m)

lowers_at : (m : List ℕ) (i k : ℕ) → k < i → lowers m i k ≡ held_reading m k
lowers_at m i k h = ap unpacked_of (get_or-take i m k 0 h)

lowers_past : (m : List ℕ) (i k : ℕ) → i ≤ length m → i ≤ k → lowers m i k ≡ nothing
lowers_past m i k l h = let e = length-take-le i m l in sym (reading_past (take i m) k (omega arith))

-- ---- the pass
module _ (numbers s : List ℕ) (count : ℕ) (w : List ℕ) (closed : Closed (terms_in s count) (mark_in w)) where
  abbrev f : FromLower Reading
  f = term_reading numbers

  module _ (i : ℕ) {m : List ℕ} (g : ReadsMarked numbers s i w m) (low : i < count) (room : i ≤ length m) where
    -- what is held below i, past it and at a term that the next one is read from
    past : (k : ℕ) → i ≤ k → lowers m i k ≡ fold_at f nothing (terms_in s i) k
    past k h = let l = terms_length s i in lowers_past m i k room h ∙ sym (fold_past f nothing (terms_in s i) k (omega arith))

    known : mark_in w i ≡ true → (k : ℕ) → ReadFrom i (term_at s i) k → lowers m i k ≡ fold_at f nothing (terms_in s i) k
    known y k p = go (ltb k i) refl
      where
        go : (b : Bool) → ltb k i ≡ b → lowers m i k ≡ fold_at f nothing (terms_in s i) k
        go true e =
            let h = ltb-true k i e in let l = terms_length s count in
            lowers_at m i k h ∙ g.is k h (closed i k (omega arith) y (rw (← at_low s count i low refl) p))
        go false e = past k (ltb-false k i e)

    new : mark_in w i ≡ true → {t : Term} → t ≡ term_at s i → f t (lowers m i t.a) (lowers m i t.b) (lowers m i t.c) ≡ fold_at f nothing (term_at s i ∷ terms_in s i) i
    new y e = rw e (same_step numbers i (term_at s i) (lowers m i) (fold_at f nothing (terms_in s i)) past (known y) ∙ (sym (fold_newest f nothing (term_at s i) (terms_in s i)) ∙ ap (fold_at f nothing (term_at s i ∷ terms_in s i)) (terms_length s i)))

    older : (k : ℕ) → (k ≡ i → ⊥) → fold_at f nothing (terms_in s i) k ≡ fold_at f nothing (term_at s i ∷ terms_in s i) k
    older k d = sym (fold_lower f nothing (term_at s i) (terms_in s i) k (λ e. d (e ∙ terms_length s i)))

    module _ {b : Bool} (eb : b ≡ mark_in m i) where
      -- a marked term is read
      pub marked_next : b ≡ true → i < length m → {t : Term} {v : Reading} {n : ℕ} → t ≡ term_at s i → v ≡ f t (lowers m i t.a) (lowers m i t.b) (lowers m i t.c) → unpacked_of n ≡ v → mark_place ≤ n
          → ReadsMarked numbers s (i + 1) w (set m i n)
      unfolding terms_in
      marked_next y h {n = n} et ev en mark = record { long = length-set m i n ∙ g.long; marks = λ k. marks k (eqb k i) refl; is = λ k l z. rw add-one (is k l z (eqb k i) refl) }
        where
          here : mark_in w i ≡ true
          here = sym (g.marks i) ∙ (sym eb ∙ y)

          marks : (k : ℕ) (c : Bool) → eqb k i ≡ c → mark_in (set m i n) k ≡ mark_in w k
          marks k true q = rw (eqb-true k i q, get_or-set_same m i n 0 h, le-leb mark_place n mark, here)
          marks k false q = rw (get_or-set_other m i k n 0 (eqb-false k i q)) (g.marks k)

          is : (k : ℕ) → k < i + 1 → mark_in w k ≡ true → (c : Bool) → eqb k i ≡ c → held_reading (set m i n) k ≡ fold_at f nothing (term_at s i ∷ terms_in s i) k
          is k l z true q = rw (eqb-true k i q, get_or-set_same m i n 0 h) (en ∙ (ev ∙ new here et))
          is k l z false q =
              let d = eqb-false k i q in
              rw (get_or-set_other m i k n 0 d) (g.is k (omega arith) z ∙ older k d)

      -- another is passed over
      pub unmarked_next : b ≡ false → ReadsMarked numbers s (i + 1) w m
      unfolding terms_in
      unmarked_next y = record { long = g.long; marks = g.marks; is = λ k l z. rw add-one (is k l z (eqb k i) refl) }
        where
          is : (k : ℕ) → k < i + 1 → mark_in w k ≡ true → (c : Bool) → eqb k i ≡ c → held_reading m k ≡ fold_at f nothing (term_at s i ∷ terms_in s i) k
          is k l z true q = absurd (false≢true (sym y ∙ (eb ∙ (g.marks i ∙ rw (eqb-true k i q) at z))))
          is k l z false q = let d = eqb-false k i q in g.is k (omega arith) z ∙ older k d

-- it starts, and ends
pub marked_start : (numbers s w : List ℕ) → ReadsMarked numbers s 0 w w
marked_start numbers s w = record { long = refl; marks = λ k. refl; is = λ k h. absurd (omega arith) }

pub marked_end : (numbers s : List ℕ) (i n : ℕ) (w m : List ℕ) → ReadsMarked numbers s i w m → i ≤ n → n ≤ i → ReadsMarked numbers s n w m
marked_end numbers s i n w m g a b = let e : i ≡ n = omega arith in rw e at g

-- ---- under the marks of a result
module _ (s : List ℕ) (count : ℕ) (r : Result) {w : List ℕ} (u : Under s count r w) where
  pub closed_under : Closed (terms_in s count) (mark_in w)
  closed_under j k h y p = rw (u.marks k) (under_closed (terms_in s count) r j k h (rw (u.marks j) at y) p)

  module _ {numbers m : List ℕ} (g : ReadsMarked numbers s count w m) where
    -- they stay
    pub still_under : Under s count r m
    still_under = record { enough = rw g.long u.enough; marks = λ k. g.marks k ∙ u.marks k }

    -- the result reads as in the whole table
    pub held_result : held_outcome (take count m) r ≡ read_in (readings numbers (terms_in s count)) r
    unfolding read_in readings
    held_result = read_under (terms_in s count) r (lowers m count) (fold_at (term_reading numbers) nothing (terms_in s count)) past known
      where
        past : (k : ℕ) → length (terms_in s count) ≤ k → lowers m count k ≡ fold_at (term_reading numbers) nothing (terms_in s count) k
        past k h =
            let l = terms_length s count in let a = u.enough in let b = g.long in
            lowers_past m count k (omega arith) (omega arith) ∙ sym (fold_past (term_reading numbers) nothing (terms_in s count) k h)

        known : (k : ℕ) → under_of (terms_in s count) r k ≡ true → lowers m count k ≡ fold_at (term_reading numbers) nothing (terms_in s count) k
        known k y = go (ltb k count) refl
          where
            go : (b : Bool) → ltb k count ≡ b → lowers m count k ≡ fold_at (term_reading numbers) nothing (terms_in s count) k
            go true e = let h = ltb-true k count e in lowers_at m count k h ∙ g.is k h (u.marks k ∙ y)
            go false e = let l = terms_length s count in past k (omega (arith, ltb-false k count e))

-- marks of a list that is long enough
pub under_by : (s : List ℕ) (count : ℕ) (r : Result) {w m : List ℕ} → count ≤ length w → MarksUnder s count r w m → Under s count r m
under_by s count r h g = record { enough = rw g.long h; marks = g.marks h }
