-- The test for repeated terms, which goes up the table and sets the marks of each term: a term with a mark that is not set is a new one, and
-- each way through the loop. Assumes nothing.
use mathlib.Core.Path.{◌≡◌, refl, sym, ap, ◌∙◌}
use mathlib.Core.Bool.{Bool, true, false, not, ◌&&◌, and-false}
use mathlib.Core.List.{List, ◌∷◌}
use Prim.Native.Nat.{ℕ, zero, suc, ◌+◌, ◌-◌, ◌*◌, ◌/◌, ◌%◌, ◌<◌, min}
use native.Mathlib.Nat.{add-mul-mod_self_left, mod-eq_of_lt}
use native.Mathlib.Numerals.{add-one}
use native.Mathlib.Omega.{arith}
use lib.Bits.{bit_and, and_le_l, and_le_r}
use lib.ListN.{length, get_or, set, length-set, replicate, length-replicate}
use lib.Seq.{get_or-set_same, get_or-set_other}
use lib.Dec.{eqb}
use borrow.Author.Tests.{eqb-true, eqb-false}
use Rattle.notation.specs.Notation.{pick}
use Rattle.semantics.specs.declared.Term.{Term}
use Rattle.semantics.specs.declared.Found.{Found}
use Rattle.semantics.specs.Numbers.{word_term}
use Rattle.semantics.specs.Terms.{term, term_at, terms_in, same_of, find_of, laid_out, well_formed}
use Rattle.terms.specs.Search.{find_above}
use Rattle.typing.proofs.Formed.{never, same_true, find_same}
use Rattle.repeats.specs.Marks.{mark_count, first_factor, times_of, mark_of, Holds}

-- ---- the marks by a factor, of which the bits of `bits` are kept

abbrev kept : ℕ → ℕ → Term → ℕ
kept f bits t = bit_and (mark_of f t) bits

kept_held : (f bits : ℕ) (t : Term) (m : List Bool) → Holds bits m → kept f bits t < length m
unfolding mark_of
kept_held f bits t m h = omega (arith, h.room, and_le_l (mark_of f t) bits, and_le_r (mark_of f t) bits)

-- a list of so many marks
pub held : (bits k : ℕ) → min bits (mark_count - 1) < k → Holds bits (replicate k false)
held bits k h = record { room = rw (length-replicate {A = Bool} k false) h }

-- the terms of ts have their marks set: one whose mark is not set is none of them
pub record Marked (f bits : ℕ) (ts : List Term) (m : List Bool) : Type 0 where
  pub holds : Holds bits m
  pub unset : (t : Term) → get_or m (kept f bits t) false ≡ false → (find_of ts t).is ≡ false

pub mark_inside : (f bits : ℕ) (t : Term) {ts : List Term} {m : List Bool} → Marked f bits ts m → {k : ℕ} → k ≡ mark_of f t → bit_and k bits < length m
mark_inside f bits t {m = m} g e = rw e (kept_held f bits t m g.holds)

-- no term has a mark that could be missing
pub marked_start : (f bits : ℕ) (s : List ℕ) {m : List Bool} → Holds bits m → Marked f bits (terms_in s 0) m
unfolding terms_in find_of
marked_start f bits s h = record { holds = h; unset = λ t e. refl }

-- one term more, and its mark
marked_more : (f bits : ℕ) (t : Term) (ts : List Term) (m : List Bool) → Marked f bits ts m → Marked f bits (t ∷ ts) (set m (kept f bits t) true)
unfolding find_of
marked_more f bits t ts m g = record { holds = record { room = simp length-set g.holds.room }; unset = λ u h. go u (eqb (kept f bits u) (kept f bits t)) refl h }
  where
    new : get_or (set m (kept f bits t) true) (kept f bits t) false ≡ true
    new = get_or-set_same m (kept f bits t) true false (kept_held f bits t m g.holds)

    other : (u : Term) → (kept f bits u ≡ kept f bits t → ⊥) → (find_of ts u).is ≡ false → (b : Bool) → same_of t u ≡ b
        → (pick b (record { is = true; at = length ts }) (find_of ts u)).is ≡ false
    other u n o true e = absurd (n (ap (kept f bits) (sym (same_true t u e))))
    other u n o false e = o

    go : (u : Term) (b : Bool) → eqb (kept f bits u) (kept f bits t) ≡ b → get_or (set m (kept f bits t) true) (kept f bits u) false ≡ false
        → (find_of (t ∷ ts) u).is ≡ false
    go u true q h = never (sym (rw (eqb-true (kept f bits u) (kept f bits t) q) at h) ∙ new)
    go u false q h =
        let n = eqb-false (kept f bits u) (kept f bits t) q in
        other u n (g.unset u (sym (get_or-set_other m (kept f bits t) (kept f bits u) true false n) ∙ h)) (same_of t u) refl

pub marked_next : (f bits : ℕ) (s : List ℕ) (i : ℕ) {m : List Bool} {t : Term} {k : ℕ} → Marked f bits (terms_in s i) m → t ≡ term_at s i → k ≡ mark_of f t
    → Marked f bits (terms_in s (i + 1)) (set m (bit_and k bits) true)
unfolding terms_in
marked_next f bits s i {m} g et ek = rw (ek, et, add-one) (marked_more f bits (term_at s i) (terms_in s i) m g)

-- ---- the search

-- made only where both marks are set, it finds what the definition's finds
found_by : (f g bits n : ℕ) (t : Term) (ts : List Term) (l m : List Bool) → well_formed n ts ≡ true → Marked f bits ts l → Marked g bits ts m
    → (get_or l (kept f bits t) false && (get_or m (kept g bits t) false && (find_above ts t).is)) ≡ (find_of ts t).is
found_by f g bits n t ts l m w p q = go (get_or l (kept f bits t) false) (get_or m (kept g bits t) false) refl refl
  where
    go : (a b : Bool) → get_or l (kept f bits t) false ≡ a → get_or m (kept g bits t) false ≡ b → (a && (b && (find_above ts t).is)) ≡ (find_of ts t).is
    go true true h k = ap (λ (x : Found). x.is) (find_same n t ts w)
    go true false h k = sym (q.unset t k)
    go false b h k = sym (p.unset t h)

-- ---- the loop

module _ (n : ℕ) (s : List ℕ) where
  pub formed_start : well_formed n (terms_in s 0) ≡ true
  unfolding well_formed terms_in
  formed_start = refl

  -- terms that are not well formed are not so with more above them
  unformed_more : (i d : ℕ) → well_formed n (terms_in s i) ≡ false → well_formed n (terms_in s (d + i)) ≡ false
  unfolding well_formed terms_in
  unformed_more i zero h = let e : zero + i ≡ i = omega arith in rw e h
  unformed_more i (suc d) h =
      let e : suc d + i ≡ suc (d + i) = omega arith in
      let ts = terms_in s (d + i) in let t = term_at s (d + i) in
      rw (e, terms_in, well_formed, unformed_more i d h, and-false (not (find_of ts t).is), and-false (laid_out n ts t))

  formed_stop : (i l : ℕ) → i < l → well_formed n (terms_in s (suc i)) ≡ false → false ≡ well_formed n (terms_in s l)
  formed_stop i l h w = let e : l ≡ l - suc i + suc i = omega arith in rw e (sym (unformed_more (suc i) (l - suc i) w))

  module _ (i : ℕ) (w : well_formed n (terms_in s i) ≡ true) {t : Term} (et : t ≡ term_at s i) {b : Bool} (eb : b ≡ laid_out n (terms_in s i) t) where
    pub formed_miss : (l : ℕ) → i < l → b ≡ false → false ≡ well_formed n (terms_in s l)
    unfolding well_formed terms_in
    formed_miss l h c = formed_stop i l h (rw (← et, ← eb, c))

    module _ (c : b ≡ true) (f g bits : ℕ) {x y : List Bool} (p : Marked f bits (terms_in s i) x) (q : Marked g bits (terms_in s i) y) {j k : ℕ} (ej : j ≡ mark_of f t) (ek : k ≡ mark_of g t)
        {r : Bool} (er : r ≡ (get_or x (bit_and j bits) false && (get_or y (bit_and k bits) false && (find_above (terms_in s i) t).is))) where
      -- the newest decides, since it is laid out
      newest : well_formed n (terms_in s (suc i)) ≡ not r
      unfolding well_formed terms_in
      newest = rw (← et, ← eb, c, w, er, ej, ek, found_by f g bits n t (terms_in s i) x y w p q) (go (find_of (terms_in s i) t).is)
        where
          go : (d : Bool) → (not d && true) ≡ not d
          go true = refl
          go false = refl

      pub formed_twice : (l : ℕ) → i < l → r ≡ true → false ≡ well_formed n (terms_in s l)
      formed_twice l h e = formed_stop i l h (newest ∙ ap not e)

      pub formed_next : r ≡ false → well_formed n (terms_in s (i + 1)) ≡ true
      formed_next e = rw add-one (newest ∙ ap not e)

-- ---- no two word constants share a first mark

abbrev word_mark : ℕ → ℕ
word_mark a = mark_of first_factor (term word_term 0 a 0 0)

-- the word, from its mark: 51004 is the inverse of 34543, which is 1 + first_factor * word_term
word_back : (a : ℕ) → a < 65536 → times_of 51004 (word_mark a) ≡ a
unfolding mark_of
word_back a h =
    let q = a * 34543 / mark_count in
    let e : 51004 * word_mark a + mark_count * (51004 * q) ≡ a + mark_count * (26883 * a) = omega arith in
    sym (add-mul-mod_self_left _ mark_count (51004 * q)) ∙ (ap (λ (x : ℕ). x % mark_count) e ∙ (add-mul-mod_self_left a mark_count (26883 * a) ∙ mod-eq_of_lt (omega arith)))

pub words_apart : (a b : ℕ) → a < 65536 → b < 65536 → word_mark a ≡ word_mark b → a ≡ b
words_apart a b h k e = sym (word_back a h) ∙ (ap (times_of 51004) e ∙ word_back b k)
