-- What the operation writes into a list that is long enough: the report of each term, at the term's places. Assumes nothing.
use mathlib.Core.Path.{◌≡◌, refl, ap, ◌∙◌}
use mathlib.Core.Bool.{Bool, true, false}
use mathlib.Core.List.{List}
use Prim.Native.Nat.{ℕ, ◌*◌, ◌<◌, ◌≤◌}
use native.Mathlib.Omega.{arith}
use lib.Dec.{ltb}
use lib.ListN.{length}
use borrow.Author.Tests.{ltb-false, le-ltb}
use Rattle.notation.specs.Notation.{pick, unless◌then◌else◌, if◌below◌then◌else◌}
use Rattle.semantics.specs.declared.Session.{Session}
use Rattle.semantics.specs.Numbers.{misfit, work_short, bad_span}
use Rattle.semantics.specs.Terms.{terms_in}
use Rattle.semantics.specs.Fits.{fits_of}
use Rattle.semantics.specs.Spans.{open_report, report_at, reports, reports_in, report_size, report_in, laid, spans_taken, spans_of}
use Rattle.semantics.proofs.Fold.{fold_length}
use Rattle.semantics.proofs.Spans.{laid_back}
use Rattle.terms.proofs.Tables.{terms_length}

module _ (x : Session) (s lows highs list : List ℕ) where
  -- where nothing refuses
  pub spans_given_lem : fits_of x s ≡ true → spans_taken x.inputs lows highs ≡ true → report_size * x.count ≤ length list
      → spans_of x s lows highs list ≡ (0, laid (reports_in x s lows highs) list)
  unfolding spans_of unless◌then◌else◌ if◌below◌then◌else◌
  spans_given_lem f t l = rw (f, t, le-ltb _ _ l)

  -- a report for each term
  reports_many : length (reports_in x s lows highs) ≡ x.count
  unfolding reports
  reports_many = fold_length _ open_report (terms_in s x.count) ∙ terms_length s x.count

  -- which reads back from the list
  pub report_read : report_size * x.count ≤ length list → (k : ℕ) → k < x.count → report_in (laid (reports_in x s lows highs) list) k ≡ report_at (reports_in x s lows highs) k
  report_read l k h = let n = reports_many in laid_back (reports_in x s lows highs) list (omega arith) k (omega arith)

  -- What is known where it wrote the list: nothing refused it, and the list is that of the reports.
  pub record Given (reported : List ℕ) : Type 0 where
    pub fits : fits_of x s ≡ true
    pub room : report_size * x.count ≤ length list
    pub is : laid (reports_in x s lows highs) list ≡ reported

  -- an answer of 0 is none of the refusals' numbers
  pub given : (reported : List ℕ) → spans_of x s lows highs list ≡ (0, reported) → Given reported
  unfolding spans_of unless◌then◌else◌ if◌below◌then◌else◌
  given reported = go (fits_of x s) (spans_taken x.inputs lows highs) (ltb (length list) (report_size * x.count)) refl refl
    where
      refused : {P : Type 0} {k : ℕ} → 0 < k → ◌≡◌ {A = ℕ × List ℕ} (k, list) (0, reported) → P
      refused {P} {k} l e = let z : k ≡ 0 = ap (λ (o : ℕ × List ℕ). o.0) e in absurd (omega arith)

      go : (f t b : Bool) → fits_of x s ≡ f → ltb (length list) (report_size * x.count) ≡ b
          → ◌≡◌ {A = ℕ × List ℕ} (pick f (pick t (pick b (work_short, list) (0, laid (reports_in x s lows highs) list)) (bad_span, list)) (misfit, list)) (0, reported) → Given reported
      go false t b i j e = refused {k = misfit} (omega arith) e
      go true false b i j e = refused {k = bad_span} (omega arith) e
      go true true true i j e = refused {k = work_short} (omega arith) e
      go true true false i j e = record { fits = i; room = ltb-false (length list) (report_size * x.count) j; is = ap (λ (o : ℕ × List ℕ). o.1) e }
