-- The clauses of a table's terms, one term after another: their text, and their counts. Assumes nothing.
use mathlib.Core.Path.{◌≡◌, refl, sym, ap, ap₂, ◌∙◌, subst}
use mathlib.Core.Bool.{true}
use mathlib.Core.List.{List, [], ◌∷◌, ◌++◌, map}
use Prim.Native.Nat.{ℕ, suc, ◌+◌, ◌*◌, ◌^◌, ◌<◌, ◌≤◌}
use native.Mathlib.Omega.{arith}
use native.Mathlib.Numerals.{add-one}
use lib.ListN.{length, get_or, drop, length-append, drop_of_length-le}
use lib.Seq.{drop-cons}
use borrow.Author.Tests.{ltb-true}
use Rattle.circuits.specs.Gates.{Literal, Slot, rows, Gate, fix, gate, clauses_of, clauses, over, onto, slot}
use Rattle.circuits.specs.Templates.{Wire, wire_a, wire_b, wire_c, wire_true, helper, own}
use Rattle.semantics.specs.declared.Term.{Term}
use Rattle.semantics.specs.Terms.{term_at, terms_in}
use Rattle.terms.proofs.Tables.{terms_length}
use Rattle.clauses.specs.Clauses.{owned, term_gates, named_by_b, helpers_of, helpers_in, variable, first_helper, term_clauses, table_clauses}
use Rattle.clauses.proofs.Laws.{helpers_more, table_more}
use Rattle.gate_tables.specs.Packed.{packed}
use Rattle.gate_tables.proofs.Right.{length_packed}
use Rattle.cursor.specs.declared.Cursor.{Cursor}
use Rattle.cursor.specs.Sink.{Writes}
use Rattle.cursor.proofs.Writing.{none_written, onward, said}
use Rattle.dimacs.specs.Text.{clauses_text}
use Rattle.dimacs.proofs.Texts.{clauses_append}
use Rattle.gates.specs.declared.Places.{Places}
use Rattle.gates.specs.Slots.{gate_text, gates_text}
use Rattle.gate_texts.proofs.Texts.{tiny}
use Rattle.gate_texts.proofs.Short.{brief_gates}
use Rattle.term_gates.proofs.Tiny.{term_tiny, places_of, term_text}
use Rattle.table_clauses.specs.Totals.{TotalsOf}

-- ---- gates in turn
module _ (p : Places) (gs : List (Gate Wire)) where
  pub gates_more : (i n g : ℕ) → n ≡ length gs → i < n → g ≡ get_or (map packed gs) i 0 → gates_text p (drop i (map packed gs)) ≡ gate_text p g ++ gates_text p (drop (i + 1) (map packed gs))
  unfolding gates_text
  gates_more i n g h l e =
      let k : i < length (map packed gs) = omega (arith, length_packed gs, h) in
      rw (add-one i, drop-cons (map packed gs) i 0 k, e)

  pub gates_end : (i n : ℕ) → n ≡ length gs → n ≤ i → gates_text p (drop i (map packed gs)) ≡ []
  unfolding gates_text
  gates_end i n h l = let k : length (map packed gs) ≤ i = omega (arith, length_packed gs, h) in rw (drop_of_length-le (map packed gs) k)

-- ---- the terms of a table
terms_next : (s : List ℕ) (n : ℕ) → terms_in s (n + 1) ≡ term_at s n ∷ terms_in s n
unfolding terms_in
terms_next s n = rw (add-one n)

-- ---- the clauses of the first n terms stand in the buffer
pub record Through (c : ℕ) (s : List ℕ) (entry y : Cursor) (h n : ℕ) : Type 0 where
  pub writes : Writes (clauses_text (table_clauses c (terms_in s n))) entry y
  pub helper : h ≡ first_helper c (terms_in s n)
  pub low : h ≤ owned * c + 1 + 1024 * n

module _ {c : ℕ} {s : List ℕ} {entry : Cursor} where
  pub through_none : Through c s entry entry (owned * c + 1) 0
  unfolding terms_in table_clauses clauses_text helpers_in
  through_none = record { writes = none_written; helper = omega arith; low = omega arith }

  pub through_one : {y : Cursor} {h n : ℕ} → Through c s entry y h n → {t : Term} → t ≡ term_at s n → {u : Term} → u ≡ named_by_b (terms_in s n) t → {z : Cursor}
      → Writes (gates_text (places_of h n t) (map packed (term_gates t u))) y z → {k : ℕ} → k ≡ helpers_of t u → k < 1024 → Through c s entry z (h + k) (n + 1)
  through_one {y} {h} {n} r {t} e {u} eu w {k} q l =
      let ts = terms_in s n in
      let v = term_at s n in
      let x : u ≡ named_by_b ts v = eu ∙ ap (named_by_b ts) e in
      let p : gates_text (places_of h n t) (map packed (term_gates t u)) ≡ clauses_text (term_clauses (first_helper c ts) (length ts) v (named_by_b ts v)) =
      term_text h n t u ∙ ap clauses_text (ap (λ j. term_clauses j n t u) r.helper ∙ (ap (λ j. term_clauses (first_helper c ts) j t u) (sym (terms_length s n))
      ∙ (ap (λ j. term_clauses (first_helper c ts) (length ts) j u) e ∙ ap (term_clauses (first_helper c ts) (length ts) v) x))) in
      let f : helpers_in (terms_in s (n + 1)) ≡ helpers_in ts + k =
      ap helpers_in (terms_next s n) ∙ (helpers_more v ts ∙ ap (λ j. helpers_in ts + j) (ap (helpers_of v) (sym x) ∙ (ap (λ j. helpers_of j u) (sym e) ∙ sym q))) in
      let g = r.helper in
      let b = r.low in
      record {
        writes = said (onward r.writes (said w p))
            (sym (clauses_append (table_clauses c ts) (term_clauses (first_helper c ts) (length ts) v (named_by_b ts v))) ∙ ap clauses_text (sym (table_more v ts c) ∙ ap (table_clauses c) (sym (terms_next s n))));
        helper = rw f (omega arith);
        low = omega arith;
      }

  pub through_all : {y : Cursor} {h n : ℕ} → Through c s entry y h n → n ≡ c → Writes (clauses_text (table_clauses c (terms_in s c))) entry y
  through_all r e = said r.writes (ap (λ n. clauses_text (table_clauses c (terms_in s n))) e)

-- ---- counts
length_rows : {W : Type 0} (o : W) (a b c : Literal W) (rs : List (List Slot)) → length (map (map (slot o a b c)) rs) ≡ length rs
length_rows o a b c [] = refl
length_rows o a b c (r ∷ rs) = ap suc (length_rows o a b c rs)

length_onto : (f : Wire → ℕ) (gs : List (Gate Wire)) → length (clauses (onto f gs)) ≡ length (clauses gs)
length_onto f [] = refl
length_onto f (fix w v ∷ gs) = ap suc (length_onto f gs)
length_onto f (gate g w a b c ∷ gs) =
    length-append (clauses_of (gate g (f w) (over f a) (over f b) (over f c))) (clauses (onto f gs))
    ∙ (ap₂ ◌+◌ (length_rows (f w) (over f a) (over f b) (over f c) (rows g) ∙ sym (length_rows w a b c (rows g))) (length_onto f gs)
    ∙ sym (length-append (clauses_of (gate g w a b c)) (clauses gs)))

module _ (h n : ℕ) (t u : Term) where
  term_length : length (term_clauses h n t u) ≡ length (clauses (term_gates t u))
  unfolding term_clauses
  term_length = length_onto (variable h n t) (term_gates t u)

  -- a term's variables have few digits
  variables_below : h < 4294967296 → n < 65536 → t.a < 65536 → t.b < 65536 → t.c < 65536 → (w : Wire) → tiny w ≡ true → variable h n t w < 10 ^ 13
  variables_below lh ln la lb lc (wire_a i) e = let k = ltb-true i 2048 e in omega arith
  variables_below lh ln la lb lc (wire_b i) e = let k = ltb-true i 2048 e in omega arith
  variables_below lh ln la lb lc (wire_c i) e = let k = ltb-true i 2048 e in omega arith
  variables_below lh ln la lb lc wire_true e = omega arith
  variables_below lh ln la lb lc (helper i) e = let k = ltb-true i 2048 e in omega arith
  variables_below lh ln la lb lc (own i) e = let k = ltb-true i 2048 e in omega arith

  pub term_short : h < 4294967296 → n < 65536 → t.a < 65536 → t.b < 65536 → t.c < 65536 → length (clauses_text (term_clauses h n t u)) ≤ 64 * length (clauses (term_gates t u))
  unfolding term_clauses
  term_short lh ln la lb lc = rw (sym (length_onto (variable h n t) (term_gates t u))) (brief_gates (variable h n t) (variables_below lh ln la lb lc) (term_gates t u) (term_tiny t u))

pub record Counted (s : List ℕ) (c n helpers cs : ℕ) : Type 0 where
  pub helpers_are : helpers ≡ helpers_in (terms_in s n)
  pub clauses_are : cs ≡ length (table_clauses c (terms_in s n))
  pub few_helpers : helpers ≤ 1024 * n
  pub few_clauses : cs ≤ 65535 * n
  pub short : length (clauses_text (table_clauses c (terms_in s n))) ≤ 64 * cs

module _ {s : List ℕ} {c : ℕ} where
  pub counted_none : Counted s c 0 0 0
  unfolding terms_in table_clauses helpers_in clauses_text
  counted_none = record { helpers_are = refl; clauses_are = refl; few_helpers = omega arith; few_clauses = omega arith; short = omega arith }

  pub counted_one : {n hs cs : ℕ} → Counted s c n hs cs → n < c → c < 65536 → {t : Term} → t ≡ term_at s n → t.a < 65536 → t.b < 65536 → t.c < 65536
      → {u : Term} → u ≡ named_by_b (terms_in s n) t → {k m : ℕ} → k ≡ helpers_of t u → k < 1024 → m ≡ length (clauses (term_gates t u)) → m < 65536
      → Counted s c (n + 1) (hs + k) (cs + m)
  counted_one {n} {hs} {cs} r ln lc {t} e la lb lt {u} eu {k} {m} p l q b =
      let ts = terms_in s n in
      let v = term_at s n in
      let x : u ≡ named_by_b ts v = eu ∙ ap (named_by_b ts) e in
      let d : term_clauses (first_helper c ts) (length ts) v (named_by_b ts v) ≡ term_clauses (first_helper c ts) n t u =
      ap (λ j. term_clauses (first_helper c ts) j v (named_by_b ts v)) (terms_length s n) ∙ (ap (λ j. term_clauses (first_helper c ts) n j (named_by_b ts v)) (sym e) ∙ ap (term_clauses (first_helper c ts) n t) (sym x)) in
      let f : helpers_in (terms_in s (n + 1)) ≡ helpers_in ts + k =
      ap helpers_in (terms_next s n) ∙ (helpers_more v ts ∙ ap (λ j. helpers_in ts + j) (ap (helpers_of v) (sym x) ∙ (ap (λ j. helpers_of j u) (sym e) ∙ sym p))) in
      let whole : table_clauses c (terms_in s (n + 1)) ≡ table_clauses c ts ++ term_clauses (first_helper c ts) n t u =
      ap (table_clauses c) (terms_next s n) ∙ (table_more v ts c ∙ ap (λ cs. table_clauses c ts ++ cs) d) in
      let g : length (table_clauses c (terms_in s (n + 1))) ≡ length (table_clauses c ts) + m =
      ap length whole ∙ (length-append (table_clauses c ts) (term_clauses (first_helper c ts) n t u) ∙ ap (λ j. length (table_clauses c ts) + j) (term_length (first_helper c ts) n t u ∙ sym q)) in
      let i : length (clauses_text (table_clauses c (terms_in s (n + 1)))) ≡ length (clauses_text (table_clauses c ts)) + length (clauses_text (term_clauses (first_helper c ts) n t u)) =
      ap (λ j. length (clauses_text j)) whole ∙ (ap length (clauses_append (table_clauses c ts) (term_clauses (first_helper c ts) n t u)) ∙ length-append (clauses_text (table_clauses c ts)) (clauses_text (term_clauses (first_helper c ts) n t u))) in
      let a = r.helpers_are in
      let y = r.few_helpers in
      let o = term_short (first_helper c ts) n t u (omega arith) (omega arith) la lb lt in
      record {
        helpers_are = rw f (omega arith);
        clauses_are = rw g (omega (arith, r.clauses_are));
        few_helpers = omega arith;
        few_clauses = omega (arith, r.few_clauses);
        short = rw i (omega (arith, r.short, o, q));
      }

  pub counted_all : {n hs cs : ℕ} → Counted s c n hs cs → n ≡ c → c < 65536 → TotalsOf (terms_in s c) c hs cs
  counted_all {n} {hs} {cs} r e l =
      let d = r.few_helpers in
      record {
        helpers_are = r.helpers_are ∙ ap (λ n. helpers_in (terms_in s n)) e;
        clauses_are = r.clauses_are ∙ ap (λ n. length (table_clauses c (terms_in s n))) e;
        few_helpers = omega arith;
        short = subst (λ n. length (clauses_text (table_clauses c (terms_in s n))) ≤ 64 * cs) e r.short;
      }
