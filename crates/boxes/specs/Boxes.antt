-- What the code promises of the ranges in a box. Assumes nothing.
use Rattle.std.specs.Prelude.{◌≡◌, true, false, List, ℕ, ◌<◌, ◌≤◌, leb, length, get_or}
use Rattle.notation.specs.Notation.{with, when◌then◌else◌}
use Rattle.semantics.specs.declared.Term.{Term}
use Rattle.semantics.specs.declared.Goal.{Goal}
use Rattle.semantics.specs.declared.Result.{Result}
use Rattle.semantics.specs.declared.Report.{Report}
use Rattle.semantics.specs.Numbers.{free_truth_term}
use Rattle.semantics.specs.Terms.{terms_in, laid_out}
use Rattle.semantics.specs.Fold.{fold_at}
use Rattle.semantics.specs.Reading.{nothing, term_reading}
use Rattle.semantics.specs.Spans.{report_of, open_report}
use Rattle.firsts.specs.Witness.{reached_at}
use Rattle.semantics.proofs.Fold.{Each}
use Rattle.depth.proofs.Built.{Worded}
use Rattle.certainty.specs.Certain.{Words}
use Rattle.certainty.proofs.Worded.{IsWord}
use Rattle.certainty.proofs.Covers.{Covers}
use Rattle.reader.specs.Reader.{unpacked_of}
use Rattle.under.specs.Marks.{mark_place, mark_in}

-- the numbers lie in the box from the lows to the highs
pub record Inside (lows highs ns : List ℕ) : Type 0 where
  pub low : (i : ℕ) → get_or lows i 0 ≤ get_or ns i 0
  pub high : (i : ℕ) → get_or ns i 0 ≤ get_or highs i 0

-- the range that a place holds with a high: a marked one its sort and its low; open where it is not marked
unfoldable pub place_range : ℕ → ℕ → Report
place_range n h = with (leb mark_place n) λ b. when b then (with (unpacked_of n) λ v. report_of v.sort v.number h) else open_report

-- the range that two lists hold for term k
abbrev pub range_held : List ℕ → List ℕ → ℕ → Report
range_held m tops k = place_range (get_or m k 0) (get_or tops k 0)

-- what ranges ask of a term over those below it: it is laid out, the word of its constant is one, and a free truth's high is a truth
pub record Ranges (accepted : ℕ) (highs : List ℕ) (us : List Term) (t : Term) : Type 0 where
  pub laid : laid_out accepted us t ≡ true
  pub constant : Worded IsWord t
  pub truth : t.kind ≡ free_truth_term → get_or highs t.a 0 < 2

-- of every one of count terms of the table s; the highs are words
pub record Ready (s : List ℕ) (count : ℕ) (highs : List ℕ) : Type 0 where
  pub accepted : ℕ
  pub each : Each (Ranges accepted highs) (terms_in s count)
  pub words : Words highs

-- the list m has the marks of w and is as long; what the first i terms of the table s read as, under numbers in the box, lies in their ranges
pub record Ranged (s lows highs : List ℕ) (i : ℕ) (w m tops : List ℕ) : Type 0 where
  pub long : length m ≡ length w
  pub marks : (k : ℕ) → mark_in m k ≡ mark_in w k
  pub covers : (ns : List ℕ) → Inside lows highs ns → (k : ℕ) → k < i → Covers (fold_at (term_reading ns) nothing (terms_in s i) k) (range_held m tops k)

-- no reading in the box reaches the goal
abbrev pub NotReached : List ℕ → ℕ → Result → Goal → List ℕ → List ℕ → Type 0
NotReached s count r g lows highs = (ns : List ℕ) → Inside lows highs ns → reached_at g r (terms_in s count) ns ≡ false
