-- The pass over the marked terms in a box: what each term reads as, under numbers in the box, lies in its range, and where it is not marked its range is
-- open. So a goal that the ranges rule out is reached by no reading in the box. Assumes nothing.
use mathlib.Core.Path.{◌≡◌, refl, sym, ap, subst, ◌∙◌}
use mathlib.Core.Bool.{Bool, true, false}
use mathlib.Core.List.{List, ◌∷◌}
use Prim.Native.Nat.{ℕ, zero, suc, ◌+◌, ◌<◌, ◌≤◌}
use native.Mathlib.Numerals.{add-one}
use native.Mathlib.Omega.{arith}
use lib.Dec.{eqb, ltb}
use lib.ListN.{length, set, take, length-set, get_or-eq_default}
use lib.Seq.{get_or-set_same, get_or-set_other, get_or-take, length-take-le}
use borrow.Author.Tests.{eqb-true, eqb-false, ltb-true, ltb-false, le-leb}
use Rattle.notation.specs.Notation.{with, when◌then◌else◌}
use Rattle.semantics.specs.declared.Term.{Term}
use Rattle.semantics.specs.declared.Goal.{Goal}
use Rattle.semantics.specs.declared.Result.{Result}
use Rattle.semantics.specs.declared.Reading.{Reading}
use Rattle.semantics.specs.declared.Report.{Report}
use Rattle.semantics.specs.Terms.{term_at, terms_in}
use Rattle.semantics.specs.Fold.{fold_at}
use Rattle.semantics.specs.Reading.{reading_of, nothing, term_reading, readings, read_in}
use Rattle.semantics.specs.Spans.{open_report}
use Rattle.firsts.specs.Witness.{reached_at}
use Rattle.semantics.proofs.Fold.{Each, fold_newest, fold_lower, fold_past}
use Rattle.terms.proofs.Tables.{terms_length}
use Rattle.reader.specs.Reader.{unpacked_of}
use Rattle.under.specs.Marks.{mark_place, mark_in}
use Rattle.marked.specs.Marked.{Under}
use Rattle.certainty.proofs.Covers.{Covers, open_kind, number_small}
use Rattle.certainty.proofs.Reports.{Sure}
use Rattle.ranges.specs.Ranges.{term_range}
use Rattle.ranges.specs.MayReach.{may_reach}
use Rattle.ranges.proofs.Covered.{range_covers}
use Rattle.ranges.proofs.Sound.{reach_sound}
use Rattle.boxes.specs.Boxes.{Inside, place_range, range_held, Ranges, Ready, Ranged, NotReached}

-- ---- what is held

-- past the last place nothing is marked
held_past : (m tops : List ℕ) (k : ℕ) → length m ≤ k → open_report ≡ range_held m tops k
unfolding place_range with when◌then◌else◌
held_past m tops k h = rw (get_or-eq_default m 0 h)

pub past_as : (m tops : List ℕ) (k : ℕ) → length m ≤ k → {r : Report} → r ≡ open_report → r ≡ range_held m tops k
past_as m tops k h e = e ∙ held_past m tops k h

-- the part of the list below i
held_below : (m tops : List ℕ) (i k : ℕ) → k < i → range_held (take i m) tops k ≡ range_held m tops k
held_below m tops i k h = rw (get_or-take i m k 0 h)

-- a marked place with a reading in it
held_put : (m tops : List ℕ) (k : ℕ) (r : Report) (n : ℕ) → k < length m → k < length tops → unpacked_of n ≡ reading_of r.sort r.low → mark_place ≤ n → range_held (set m k n) (set tops k r.high) k ≡ r
unfolding place_range with when◌then◌else◌
held_put m tops k r n h l e p = rw (get_or-set_same m k n 0 h, get_or-set_same tops k r.high 0 l, le-leb mark_place n p, e)

held_other : (m tops : List ℕ) (i k n h : ℕ) → (k ≡ i → ⊥) → range_held (set m i n) (set tops i h) k ≡ range_held m tops k
held_other m tops i k n h d = rw (get_or-set_other m i k n 0 d, get_or-set_other tops i k h 0 d)

held_open : (m tops : List ℕ) (k : ℕ) → mark_in m k ≡ false → range_held m tops k ≡ open_report
unfolding place_range with when◌then◌else◌
held_open m tops k e = rw e

-- ---- what is known of the term i
each_at : (P : List Term → Term → Type 0) (s : List ℕ) (count i : ℕ) → i < count → Each P (terms_in s count) → P (terms_in s i) (term_at s i)
unfolding terms_in
each_at P s zero i h e = absurd (omega arith)
each_at P s (suc count) i h e = go (eqb i count) refl (λ l. each_at P s count i l e.1)
  where
    go : (b : Bool) → eqb i count ≡ b → (i < count → P (terms_in s i) (term_at s i)) → P (terms_in s i) (term_at s i)
    go true q r = subst (λ j. P (terms_in s j) (term_at s j)) (sym (eqb-true i count q)) e.0
    go false q r = r (omega (arith, eqb-false i count q))

module _ (s lows highs : List ℕ) (count : ℕ) (ready : Ready s count highs) where
  sure : (ns : List ℕ) → Inside lows highs ns → (us : List Term) (t : Term) → Ranges ready.accepted highs us t → Sure lows highs ns t
  sure ns w us t g =
      record {
        constant = g.constant;
        truth = λ k. record { from_low = w.low t.a; to_high = w.high t.a; small = g.truth k };
        word = λ k. record { from_low = w.low t.a; to_high = w.high t.a; small = ready.words t.a };
      }

  -- ---- one more term
  module _ (i : ℕ) {w m tops : List ℕ} (g : Ranged s lows highs i w m tops) (low : i < count) (room : i ≤ length m) where
    known : Ranges ready.accepted highs (terms_in s i) (term_at s i)
    known = each_at (Ranges ready.accepted highs) s count i low ready.each

    module _ (ns : List ℕ) (inside : Inside lows highs ns) where
      -- what the lower terms read as
      abbrev lower : ℕ → Reading
      lower = fold_at (term_reading ns) nothing (terms_in s i)

      -- lies in what is held for them
      below : (k : ℕ) → Covers (lower k) (range_held (take i m) tops k)
      below k = go (ltb k i) refl
        where
          go : (b : Bool) → ltb k i ≡ b → Covers (lower k) (range_held (take i m) tops k)
          go true e = let h = ltb-true k i e in rw (held_below m tops i k h) (g.covers ns inside k h)
          go false e =
              let h = ltb-false k i e in let l = terms_length s i in let n = length-take-le i m room in
              rw (← held_past (take i m) tops k (omega arith), fold_past (term_reading ns) nothing (terms_in s i) k (omega arith)) (open_kind {v = nothing} {l = 0} {h = 0} (omega arith))

      -- so what the term reads as lies in its range
      new : Covers (fold_at (term_reading ns) nothing (term_at s i ∷ terms_in s i) i)
          (term_range lows highs (term_at s i) (range_held (take i m) tops (term_at s i).a) (range_held (take i m) tops (term_at s i).b) (range_held (take i m) tops (term_at s i).c))
      new =
          let t = term_at s i in
          subst (λ v. Covers v (term_range lows highs t (range_held (take i m) tops t.a) (range_held (take i m) tops t.b) (range_held (take i m) tops t.c)))
          (sym (ap (fold_at (term_reading ns) nothing (t ∷ terms_in s i)) (sym (terms_length s i)) ∙ fold_newest (term_reading ns) nothing t (terms_in s i)))
          (range_covers ready.accepted (terms_in s i) t known.laid lows highs ns (sure ns inside (terms_in s i) t known) (lower t.a) (lower t.b) (lower t.c) _ _ _ (below t.a) (below t.b) (below t.c))

      older : (k : ℕ) → (k ≡ i → ⊥) → lower k ≡ fold_at (term_reading ns) nothing (term_at s i ∷ terms_in s i) k
      older k d = sym (fold_lower (term_reading ns) nothing (term_at s i) (terms_in s i) k (λ e. d (e ∙ terms_length s i)))

    module _ {b : Bool} (eb : b ≡ mark_in m i) where
      -- a marked one has its range put in the two lists
      pub ranged_next : b ≡ true → i < length m → i < length tops → {t : Term} {r : Report} {n : ℕ} → t ≡ term_at s i
          → r ≡ term_range lows highs t (range_held (take i m) tops t.a) (range_held (take i m) tops t.b) (range_held (take i m) tops t.c)
          → unpacked_of n ≡ reading_of r.sort r.low → mark_place ≤ n → Ranged s lows highs (i + 1) w (set m i n) (set tops i r.high)
      unfolding terms_in
      ranged_next y h l {t} {r} {n} et er en mark = record { long = length-set m i n ∙ g.long; marks = λ k. marks k (eqb k i) refl; covers = λ ns w k j. rw add-one (covers ns w k j (eqb k i) refl) }
        where
          marks : (k : ℕ) (c : Bool) → eqb k i ≡ c → mark_in (set m i n) k ≡ mark_in w k
          marks k true q = rw (eqb-true k i q, get_or-set_same m i n 0 h, le-leb mark_place n mark) (sym y ∙ (eb ∙ g.marks i))
          marks k false q = rw (get_or-set_other m i k n 0 (eqb-false k i q)) (g.marks k)

          covers : (ns : List ℕ) → Inside lows highs ns → (k : ℕ) → k < i + 1 → (c : Bool) → eqb k i ≡ c → Covers (fold_at (term_reading ns) nothing (term_at s i ∷ terms_in s i) k) (range_held (set m i n) (set tops i r.high) k)
          covers ns w k j true q = rw (eqb-true k i q, held_put m tops i r n h l en mark, er, et) (new ns w)
          covers ns w k j false q = let d = eqb-false k i q in rw (held_other m tops i k n r.high d, ← older ns w k d) (g.covers ns w k (omega arith))

      -- another's stays open
      pub ranged_over : b ≡ false → Ranged s lows highs (i + 1) w m tops
      unfolding terms_in
      ranged_over y = record { long = g.long; marks = g.marks; covers = λ ns w k j. rw add-one (covers ns w k j (eqb k i) refl) }
        where
          covers : (ns : List ℕ) → Inside lows highs ns → (k : ℕ) → k < i + 1 → (c : Bool) → eqb k i ≡ c → Covers (fold_at (term_reading ns) nothing (term_at s i ∷ terms_in s i) k) (range_held m tops k)
          covers ns w k j true q = rw (eqb-true k i q, held_open m tops i (sym eb ∙ y)) (open_kind {l = 0} {h = 0} (number_small (new ns w)))
          covers ns w k j false q = let d = eqb-false k i q in rw (← older ns w k d) (g.covers ns w k (omega arith))

-- ---- a goal that the ranges rule out
module _ (s : List ℕ) (count : ℕ) (r : Result) (goal : Goal) (lows highs : List ℕ) {w m tops : List ℕ} (u : Under s count r w) (g : Ranged s lows highs count w m tops) where
  pub not_reached : {b : Bool} → b ≡ may_reach goal r.halted (range_held (take count m) tops r.state.assumed) (range_held (take count m) tops r.state.asserted) (range_held (take count m) tops r.value)
      → b ≡ false → NotReached s count r goal lows highs
  unfolding reached_at read_in readings
  not_reached eb e ns inside = reach_sound (named r.state.assumed) (named r.state.asserted) (named r.value) r.halted goal (sym eb ∙ e)
    where
      named : (k : ℕ) → Covers (fold_at (term_reading ns) nothing (terms_in s count) k) (range_held (take count m) tops k)
      named k = go (ltb k count) refl
        where
          go : (b : Bool) → ltb k count ≡ b → Covers (fold_at (term_reading ns) nothing (terms_in s count) k) (range_held (take count m) tops k)
          go true q = let h = ltb-true k count q in rw (held_below m tops count k h) (g.covers ns inside k h)
          go false q =
              let h = ltb-false k count q in let l = terms_length s count in let a = u.enough in let n = length-take-le count m (rw g.long u.enough) in
              rw (← held_past (take count m) tops k (omega arith), fold_past (term_reading ns) nothing (terms_in s count) k (omega arith)) (open_kind {v = nothing} {l = 0} {h = 0} (omega arith))

-- ---- what is made of ranges that were looked up
module _ {x u y v z q : Report} (ex : x ≡ u) (ey : y ≡ v) (ez : z ≡ q) where
  pub range_as : (lows highs : List ℕ) (t : Term) {r : Report} → r ≡ term_range lows highs t x y z → r ≡ term_range lows highs t u v q
  range_as lows highs t e = rw (← ex, ← ey, ← ez) e

  pub reach_as : (goal : Goal) (halted : Bool) {b : Bool} → b ≡ may_reach goal halted x y z → b ≡ may_reach goal halted u v q
  reach_as goal halted e = rw (← ex, ← ey, ← ez) e
