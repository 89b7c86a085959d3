-- What the code promises of its list: the reports of the first terms are laid into it, and each reads back as it is. Assumes nothing.
use Rattle.std.specs.Prelude.{◌≡◌, List, ℕ, ◌+◌, ◌*◌, ◌%◌, length, get_or}
use Rattle.std.proofs.lemmas.List.Edits.{sets}
use Rattle.words.specs.Words.{word_limit}
use Rattle.semantics.specs.declared.Report.{Report}
use Rattle.semantics.specs.Terms.{terms_in}
use Rattle.semantics.specs.Spans.{report_of, open_report, term_report, reports, report_size, places_of, laid}
use Rattle.reader.specs.Work.{held_of, Holds}

-- the report at the places of term k, cut to the sizes of its parts
unfoldable pub held_report : List ℕ → ℕ → Report
held_report list k = report_of (get_or list (report_size * k) 0 % 256) (get_or list (report_size * k + 1) 0 % word_limit) (get_or list (report_size * k + 2) 0 % word_limit)

-- the report of term k, of the first i in the list
abbrev pub lower_of : List ℕ → ℕ → ℕ → Report
lower_of list i k = held_of held_report open_report list i k

-- the list m is w with the reports of the first i terms of the table s laid into it, and holds them
pub record Laid (lows highs s w : List ℕ) (i : ℕ) (m : List ℕ) : Type 0 where
  pub is : m ≡ laid (reports lows highs (terms_in s i)) w
  pub holds : Holds held_report (term_report lows highs) open_report s i m

-- the list n is m with a report put at the places of term i; the report is cut to the sizes of its parts already
pub record Puts (r : Report) (i : ℕ) (m n : List ℕ) : Type 0 where
  pub is : n ≡ sets m (report_size * i) (places_of r)
  pub long : length n ≡ length m
  pub cut : report_of (r.sort % 256) (r.low % word_limit) (r.high % word_limit) ≡ r
