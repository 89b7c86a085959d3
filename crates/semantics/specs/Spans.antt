-- Spans (document 02, "Two. Moisture heads have a span."): "Given a low and a high for every free word input, work out for each term either the truths
-- it may take or the span of words, or that its kind is open, as for procedures and bindings." Assumes nothing.
use Rattle.std.specs.Prelude.{ℕ, ◌+◌, ◌-◌, ◌*◌, min, max, Bool, true, false, ◌&&◌, List, [], ◌∷◌, eqb, leb, length, get_or}
use Rattle.std.proofs.lemmas.List.Edits.{sets}
use Rattle.notation.specs.Notation.{with, when◌then◌else◌, if◌equals◌then◌else◌, if◌below◌then◌else◌, unless◌then◌else◌}
use Rattle.words.specs.Words.{width, last_word, sum_of, difference_of}
use Rattle.operators.specs.Operators.{gives_truth_of}
use Rattle.semantics.specs.declared.Term.{Term}
use Rattle.semantics.specs.declared.Input.{Input}
use Rattle.semantics.specs.declared.Session.{Session}
use Rattle.semantics.specs.declared.Report.{Report}
use Rattle.semantics.specs.Numbers.{truth_term, word_term, free_truth_term, free_word_term, operator_term, choice_term, add_code, subtract_code, less_code, negation_code, conjunction_code, disjunction_code, free_truth, free_word, misfit, work_short, bad_span}
use Rattle.semantics.specs.Terms.{term_word, terms_in}
use Rattle.semantics.specs.Fits.{fits_of}
use Rattle.semantics.specs.Fold.{numbered, fold_terms}

-- ---- a report: what a term may read as, from the least number to the greatest. A truth is 0 or 1, so that the truths that it may take are a span too.
abbrev pub report_of : ℕ → ℕ → ℕ → Report
report_of k l h = record { sort = k; low = l; high = h }

abbrev pub truth_report : ℕ → ℕ → Report
truth_report l h = report_of truth_term l h

abbrev pub word_report : ℕ → ℕ → Report
word_report l h = report_of word_term l h

-- "its kind is open"
abbrev pub open_report : Report
open_report = report_of 0 0 0

-- false and true
abbrev pub both_truths : Report
both_truths = truth_report 0 1

-- "0 to 65,535"
abbrev pub all_words : Report
all_words = word_report 0 last_word

-- it can only be true; it can only be false
unfoldable pub only_true : Report → Bool
only_true x = if x.sort equals truth_term then eqb x.low 1 else false

unfoldable pub only_false : Report → Bool
only_false x = if x.sort equals truth_term then eqb x.high 0 else false

-- both are spans of words; both are truths
unfoldable pub are_spans : Report → Report → Bool
are_spans x y = if x.sort equals word_term then eqb y.sort word_term else false

unfoldable pub are_truths : Report → Report → Bool
are_truths x y = if x.sort equals truth_term then eqb y.sort truth_term else false

-- ---- operator terms

-- "A sum [...] of two spans that cannot wrap reports exactly what their ends give"; it cannot where the highs' sum is a word
unfoldable pub sum_report : Report → Report → Report
sum_report x y =
    with (are_spans x y) λ b. when b then (if last_word below x.high + y.high then all_words else
    with (sum_of width x.low y.low) λ l. with (sum_of width x.high y.high) λ h. word_report l h) else all_words

-- "A [...] difference of two spans that cannot wrap reports exactly what their ends give": the low less the other's high, the high less the other's
-- low; it cannot where the first starts at or above the second's high
unfoldable pub difference_report : Report → Report → Report
difference_report x y =
    with (are_spans x y) λ b. when b then (if x.low below y.high then all_words else
    with (difference_of width x.low y.high) λ l. with (difference_of width x.high y.low) λ h. word_report l h) else all_words

-- "Less is true if the first span ends below the second's low, false if it starts at or above the second's high"
unfoldable pub less_report : Report → Report → Report
less_report x y =
    with (are_spans x y) λ b. when b then (
    if x.high below y.low then truth_report 1 1 else
    if x.low below y.high then both_truths else
    truth_report 0 0) else both_truths

-- "not, and, or go by the operands' truths": not of the greatest is the least
unfoldable pub not_report : Report → Report
not_report x = if x.sort equals truth_term then (with (1 - x.high) λ l. with (1 - x.low) λ h. truth_report l h) else both_truths

-- and is the smaller of two truths: it may be true if both may, false if one may
unfoldable pub and_report : Report → Report → Report
and_report x y = with (are_truths x y) λ b. when b then (with (min x.low y.low) λ l. with (min x.high y.high) λ h. truth_report l h) else both_truths

-- or is the larger
unfoldable pub or_report : Report → Report → Report
or_report x y = with (are_truths x y) λ b. when b then (with (max x.low y.low) λ l. with (max x.high y.high) λ h. truth_report l h) else both_truths

-- "any other word operator reports 0 to 65,535"; "every other truth reports both"
unfoldable pub other_report : ℕ → Report
other_report op = with (gives_truth_of op) λ b. when b then both_truths else all_words

unfoldable pub operator_report : ℕ → Report → Report → Report
operator_report op x y =
    if op equals add_code then sum_report x y else
    if op equals subtract_code then difference_report x y else
    if op equals less_code then less_report x y else
    if op equals negation_code then not_report x else
    if op equals conjunction_code then and_report x y else
    if op equals disjunction_code then or_report x y else
    other_report op

-- ---- choices

-- "the smallest report that covers both": two truths or two words from the lower low to the higher high, and open where they differ in sort
unfoldable pub cover_of : Report → Report → Report
cover_of x y = if x.sort equals y.sort then (with (min x.low y.low) λ l. with (max x.high y.high) λ h. report_of x.sort l h) else open_report

-- "a choice reports the decided side, else the smallest report that covers both"
unfoldable pub choice_report : Report → Report → Report → Report
choice_report x y z = with (only_true x) λ b. when b then y else with (only_false x) λ d. when d then z else cover_of y z

-- ---- a term, of the reports of a, b and c; each free input has a least and a greatest number. "a constant reports itself alone and a free word its own
-- span"
unfoldable pub term_report : List ℕ → List ℕ → Term → Report → Report → Report → Report
term_report lows highs t x y z =
    if t.kind equals truth_term then truth_report t.a t.a else
    if t.kind equals word_term then (with (term_word t) λ w. word_report w w) else
    if t.kind equals free_truth_term then (with (get_or lows t.a 0) λ l. with (get_or highs t.a 0) λ h. truth_report l h) else
    if t.kind equals free_word_term then (with (get_or lows t.a 0) λ l. with (get_or highs t.a 0) λ h. word_report l h) else
    if t.kind equals operator_term then operator_report t.op x y else
    if t.kind equals choice_term then choice_report x y z else
    open_report

-- the report with number k, of reports newest first; open where there is none
abbrev pub report_at : List Report → ℕ → Report
report_at rs k = numbered open_report rs k

-- "for each term", from lower ones
unfoldable pub reports : List ℕ → List ℕ → List Term → List Report
reports lows highs ts = fold_terms (term_report lows highs) open_report ts

-- ---- the ends of each input: a free word has the low and the high that are given, a free truth both truths; what is given for another is ignored

-- one end: the truth is 0 for the lows and 1 for the highs
unfoldable pub end_of : ℕ → Input → ℕ → ℕ
end_of truth x n = if x.kind equals free_word then n else if x.kind equals free_truth then truth else 0

unfoldable pub ends_of : ℕ → List Input → List ℕ → List ℕ
ends_of truth [] ns = []
ends_of truth (x ∷ xs) [] = []
ends_of truth (x ∷ xs) (n ∷ ns) = end_of truth x n ∷ ends_of truth xs ns

-- the reports of a session's terms
abbrev pub reports_in : Session → List ℕ → List ℕ → List ℕ → List Report
reports_in x s lows highs = reports (ends_of 0 x.inputs lows) (ends_of 1 x.inputs highs) (terms_in s x.count)

-- ---- the list that is lent: three places for each term

-- a report as it stands there
abbrev pub report_size : ℕ
report_size = 3

abbrev pub places_of : Report → List ℕ
places_of r = r.sort ∷ r.low ∷ r.high ∷ []

-- the report of term n there
abbrev pub report_in : List ℕ → ℕ → Report
report_in list n = report_of (get_or list (report_size * n) 0) (get_or list (report_size * n + 1) 0) (get_or list (report_size * n + 2) 0)

-- the reports, newest first, each at its term's places: "success [leaves] the places past the count"
unfoldable pub laid : List Report → List ℕ → List ℕ
laid [] list = list
laid (r ∷ rs) list = sets (laid rs list) (report_size * length rs) (places_of r)

-- ---- the operation

-- 17: "a free word's low exceeds its high"
unfoldable pub span_taken : Input → ℕ → ℕ → Bool
span_taken x l h = if x.kind equals free_word then leb l h else true

unfoldable pub spans_taken : List Input → List ℕ → List ℕ → Bool
spans_taken [] ls hs = true
spans_taken (x ∷ xs) [] hs = true
spans_taken (x ∷ xs) (l ∷ ls) [] = true
spans_taken (x ∷ xs) (l ∷ ls) (h ∷ hs) = span_taken x l h && spans_taken xs ls hs

-- "It refuses by 3, then by 17 [...], then by 15 if its list is shorter than the count"; "a refusal leaves what is lent for answers as it was"
unfoldable pub spans_of : Session → List ℕ → List ℕ → List ℕ → List ℕ → ℕ × List ℕ
spans_of x s lows highs list =
    unless fits_of x s then (misfit, list) else
    unless spans_taken x.inputs lows highs then (bad_span, list) else
    if length list below report_size * x.count then (work_short, list) else
    (0, laid (reports_in x s lows highs) list)
