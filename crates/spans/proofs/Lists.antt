-- The list of reports, from the first term on: a report that is put at its term's places reads back, and those of lower terms stay. Assumes nothing.
use mathlib.Core.Path.{◌≡◌, refl, ap, ◌∙◌}
use mathlib.Core.List.{List}
use Prim.Native.Nat.{ℕ, suc, ◌+◌, ◌*◌, ◌%◌, ◌<◌}
use native.Mathlib.Numerals.{add-one}
use native.Mathlib.Omega.{arith}
use lib.ListN.{length, get_or, set, length-set}
use lib.Seq.{sets}
use Rattle.notation.specs.Notation.{with}
use Rattle.words.specs.Words.{word_limit}
use Rattle.semantics.specs.declared.Term.{Term}
use Rattle.semantics.specs.declared.Report.{Report}
use Rattle.semantics.specs.Terms.{term_at, terms_in}
use Rattle.semantics.specs.Fold.{fold_terms}
use Rattle.semantics.specs.Spans.{report_of, open_report, term_report, report_at, reports, report_size, places_of, laid}
use Rattle.semantics.proofs.Fold.{fold_length}
use Rattle.semantics.proofs.Spans.{three_first, three_second, three_third, three_below}
use Rattle.terms.proofs.Tables.{terms_length}
use Rattle.reader.proofs.Work.{held_in_lem, holds_start, holds_next}
use Rattle.spans.specs.Lists.{held_report, lower_of, Laid, Puts}

-- ---- a report's places

-- read
pub held_parts : (m : List ℕ) (i k : ℕ) → k < i → {l h : ℕ} → l ≡ get_or m (report_size * k + 1) 0 % word_limit → h ≡ get_or m (report_size * k + 2) 0 % word_limit
    → report_of (get_or m (report_size * k) 0 % 256) l h ≡ lower_of m i k
unfolding held_report
held_parts m i k b el eh = rw (el, eh) (held_in_lem held_report open_report m i k b refl)

-- written
pub puts : (r : Report) (i : ℕ) (m : List ℕ) {l h : ℕ} → l ≡ r.low → h ≡ r.high → r.sort < 256 → r.low < word_limit → r.high < word_limit
    → Puts r i m (set (set (set m (report_size * i) r.sort) (report_size * i + 1) l) (report_size * i + 2) h)
puts r i m el eh a b c =
    let p : r.sort % 256 ≡ r.sort = omega arith in let q : r.low % word_limit ≡ r.low = omega arith in let o : r.high % word_limit ≡ r.high = omega arith in
    let u : report_size * i + 1 ≡ suc (report_size * i) = omega arith in let v : report_size * i + 2 ≡ suc (suc (report_size * i)) = omega arith in
    record { is = rw (el, eh, u, v); long = simp length-set refl; cut = rw (p, q, o) }

module _ {r : Report} {i : ℕ} {m n : List ℕ} (p : Puts r i m n) where
  put_there : report_size * i + 2 < length m → held_report n i ≡ r
  unfolding held_report
  put_there h =
      rw (p.is, three_first m (report_size * i) r.sort r.low r.high h, three_second m (report_size * i) r.sort r.low r.high h, three_third m (report_size * i) r.sort r.low r.high h) p.cut

  put_below : (k : ℕ) → k < i → held_report n k ≡ held_report m k
  unfolding held_report
  put_below k h =
      rw (p.is, three_below m (report_size * i) r.sort r.low r.high (report_size * k) (omega arith), three_below m (report_size * i) r.sort r.low r.high (report_size * k + 1) (omega arith), three_below m (report_size * i) r.sort r.low r.high (report_size * k + 2) (omega arith))

-- ---- the reports of the first terms

-- of none
pub laid_start : (lows highs s w : List ℕ) → Laid lows highs s w 0 w
unfolding reports fold_terms terms_in laid
laid_start lows highs s w = record { is = refl; holds = holds_start s w }

-- of one more: what is put is the term's report, from those below it
pub laid_next : {lows highs s w : List ℕ} {i : ℕ} {m : List ℕ} (n : List ℕ) {t : Term} {x y z v : Report} → Laid lows highs s w i m → report_size * i + 2 < length m → t ≡ term_at s i
    → x ≡ lower_of m i t.a → y ≡ lower_of m i t.b → z ≡ lower_of m i t.c → v ≡ term_report lows highs t x y z → Puts v i m n → Laid lows highs s w (i + 1) n
unfolding reports fold_terms terms_in laid with
laid_next {lows} {highs} {s} {w} {i} {m} n {t} {x} {y} {z} {v} g h et ex ey ez ev p =
    record {
      is = rw (add-one, long) (p.is ∙ (ap (λ u. sets u (report_size * i) (places_of v)) g.is ∙ ap (λ u. sets (laid rs w) (report_size * i) (places_of u)) new));
      holds = holds_next n g.holds et ex ey ez ev (put_there p h) (put_below p);
    }
  where
    rs : List Report
    rs = fold_terms (term_report lows highs) open_report (terms_in s i)

    long : length (fold_terms (term_report lows highs) open_report (terms_in s i)) ≡ i
    long = fold_length (term_report lows highs) open_report (terms_in s i) ∙ terms_length s i

    new : v ≡ term_report lows highs (term_at s i) (report_at rs (term_at s i).a) (report_at rs (term_at s i).b) (report_at rs (term_at s i).c)
    new = rw (← et, ← g.holds.is t.a, ← g.holds.is t.b, ← g.holds.is t.c, ← ex, ← ey, ← ez) ev
