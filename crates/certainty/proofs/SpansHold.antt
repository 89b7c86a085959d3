-- SPANS HOLD: every reading within the spans lies in what is reported. Assumes nothing.
use mathlib.Core.Path.{◌≡◌, ap, ◌∙◌}
use mathlib.Core.Bool.{true}
use mathlib.Core.List.{List, [], ◌∷◌}
use Prim.Native.Nat.{ℕ}
use lib.ListN.{length}
use Rattle.semantics.specs.declared.Term.{Term}
use Rattle.semantics.specs.declared.Input.{Input}
use Rattle.semantics.specs.declared.Session.{Session}
use Rattle.semantics.specs.Numbers.{input_count}
use Rattle.semantics.specs.Terms.{terms_in}
use Rattle.semantics.specs.Fits.{fits_of}
use Rattle.semantics.specs.Reading.{nth, readings}
use Rattle.semantics.specs.Spans.{ends_of, report_at, reports_in, report_in}
use Rattle.soundness.proofs.Inputs.{All}
use Rattle.certainty.specs.Certain.{Words, Within, lies, SpansHold}
use Rattle.certainty.proofs.Worded.{AreWords, table_words}
use Rattle.certainty.proofs.Covers.{Covers, covered}
use Rattle.certainty.proofs.Reports.{Sure, reports_cover}
use Rattle.certainty.proofs.Free.{Free, fitting}
use Rattle.certainty.proofs.Ends.{truth_between, word_between, spans_taken_lem}
use Rattle.certainty.proofs.Listed.{spans_given_lem, report_read}

-- what the reports ask of each term, with the ends of the inputs xs
abbrev pub AllSure : List Input → List ℕ → List ℕ → List ℕ → List Term → Type 0
AllSure xs lows highs numbers ts = All (Sure (ends_of 0 xs lows) (ends_of 1 xs highs) numbers) ts

-- Of a session and a table that fit, whose word constants are words.
module _ (x : Session) (s lows highs numbers : List ℕ) (sixteen : length x.inputs ≡ input_count) (words : AreWords (terms_in s x.count))
    (nl : length lows ≡ input_count) (nh : length highs ≡ input_count) (tops : Words highs) (fits : fits_of x s ≡ true) (within : Within x.inputs lows highs numbers) where
  -- the terms that have words and name free inputs
  sure : (ts : List Term) → AreWords ts → All (Free x.inputs) ts → AllSure x.inputs lows highs numbers ts
  sure [] w f = tt
  sure (t ∷ ts) w f = (
    record {
      constant = w.0;
      truth = λ k. let z = f.0.truth k in truth_between x.inputs lows highs numbers sixteen nl nh within tops t.a z.0 z.1;
      word = λ k. let z = f.0.word k in word_between x.inputs lows highs numbers sixteen nl nh within tops t.a z.0 z.1;
    },
    sure ts w.1 f.1,
  )

  -- so all of a table that fits
  pub all_sure : AllSure x.inputs lows highs numbers (terms_in s x.count)
  all_sure = sure (terms_in s x.count) words (fitting x s sixteen fits).free

  -- Each term's reading lies in its report.
  pub spans_cover : (k : ℕ) → Covers (nth (readings numbers (terms_in s x.count)) k) (report_at (reports_in x s lows highs) k)
  spans_cover = reports_cover _ _ numbers x.accepted (terms_in s x.count) (fitting x s sixteen fits).formed all_sure

-- The theorem.
pub spans_hold : SpansHold
spans_hold x s lows highs list numbers sixteen bytes nl nh tops fits room within =
    let e = spans_given_lem x s lows highs list fits (spans_taken_lem x.inputs lows highs numbers sixteen nl nh within) room in
    record {
      accepted = ap (λ (o : ℕ × List ℕ). o.0) e;
      lie = λ k l.
          ap (λ (o : ℕ × List ℕ). lies (nth (readings numbers (terms_in s x.count)) k) (report_in o.1 k)) e
          ∙ (ap (lies (nth (readings numbers (terms_in s x.count)) k)) (report_read x s lows highs list room k l)
          ∙ covered (spans_cover x s lows highs numbers sixteen (table_words s bytes x.count) nl nh tops fits within k));
    }
