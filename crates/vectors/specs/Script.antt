-- A session as the vectors write it: an opening, then evaluations, readings, plain runs, spans and other questions; what it answers, as numbers.
-- Assumes nothing.
use Rattle.std.specs.Prelude.{ℕ, zero, suc, ◌*◌, List, [], ◌∷◌, ◌++◌, take, replicate}
use Rattle.notation.specs.Notation.{with, if◌equals◌then◌else◌}
use Rattle.semantics.specs.declared.Input.{Input}
use Rattle.semantics.specs.declared.Opened.{Opened}
use Rattle.semantics.specs.Terms.{term_at}
use Rattle.semantics.specs.Opening.{open_of}
use Rattle.semantics.specs.Spans.{report_size, spans_of}
use Rattle.semantics.specs.PlainRun.{run_plainly_of}
use Rattle.semantics.specs.History.{History, begun, called}
use Rattle.semantics.specs.Print.{Line, out, halt, refusal, numbers}
use Rattle.forms.specs.Answers.{outcome_values}
use Rattle.cases.specs.Table.{answer, reading, call}

-- A plain run has the opening's inputs and a store of so many bytes, and spans have a list for so many reports. With `ask` a crate above
-- this one asks something else of what the evaluations so far left. The last one tells all terms.
pub data Step : Type 0 where
  evaluate : (allowance : ℕ) → (rule : List ℕ) → Step
  read : (under : List ℕ) → Step
  run : (allowance store : ℕ) → (rule : List ℕ) → (under : List ℕ) → Step
  span : (list : ℕ) → (lows highs : List ℕ) → Step
  ask : (question : History → List ℕ) → Step
  terms : Step

-- n terms from number i on
unfoldable pub term_numbers : List ℕ → ℕ → ℕ → List ℕ
term_numbers s i zero = []
term_numbers s i (suc n) = with (term_at s i) λ t. t.kind ∷ t.op ∷ t.a ∷ t.b ∷ t.c ∷ term_numbers s (suc i) n

-- 0 and the reports of so many terms, or a refusal
unfoldable pub report_numbers : ℕ → ℕ × List ℕ → List ℕ
report_numbers count r = if r.0 equals 0 then 0 ∷ take (report_size * count) r.1 else r.0 ∷ []

-- the answers in order, each evaluation's with the count and the accepted rules then
unfoldable pub played : List Input → History → List Step → List ℕ
played xs h [] = []
played xs h (evaluate d bs ∷ ks) =
    with (called h (call bs d)) λ n. answer h (call bs d) ++ (n.session.count ∷ n.session.accepted ∷ played xs n ks)
played xs h (read ns ∷ ks) = reading h ns ++ played xs h ks
played xs h (run d l bs ns ∷ ks) = outcome_values (run_plainly_of xs ns bs d (replicate l 1)).0 ++ played xs h ks
played xs h (span l lows highs ∷ ks) = report_numbers h.session.count (spans_of h.session h.table lows highs (replicate (report_size * l) 9)) ++ played xs h ks
played xs h (ask f ∷ ks) = f h ++ played xs h ks
played xs h (terms ∷ ks) = term_numbers h.table 0 h.session.count ++ played xs h ks

-- from an opening on a table of l bytes: the refusal, or the count and what follows
unfoldable pub opened_with : List Input → List Step → Opened × List ℕ → List ℕ
opened_with xs ks o =
    with ks (if o.0.refusal equals 0 then (λ (k : List Step). o.0.session.count ∷ played xs (begun o) k) else (λ (k : List Step). o.0.refusal ∷ []))

unfoldable pub script : ℕ → List Input → List Step → List ℕ
script l xs ks = opened_with xs ks (open_of xs (replicate l 0))

-- printed lines as numbers, each with its word first: 1 out, 2 halt, 3 refused, 0 none
unfoldable pub line_numbers : List Line → List ℕ
line_numbers [] = []
line_numbers (out ns ∷ ls) = 1 ∷ (ns ++ line_numbers ls)
line_numbers (halt ns ∷ ls) = 2 ∷ (ns ++ line_numbers ls)
line_numbers (refusal k ∷ ls) = 3 ∷ k ∷ line_numbers ls
line_numbers (numbers ns ∷ ls) = 0 ∷ (ns ++ line_numbers ls)
