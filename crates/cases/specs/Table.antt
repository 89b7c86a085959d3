-- A table of cases: what the definitions give, and what is wanted, as numbers. Assumes nothing.
use Rattle.std.specs.Prelude.{ℕ, ◌/◌, ◌%◌, Bool, true, false, ◌&&◌, List, [], ◌∷◌, eqb, replicate}
use Rattle.semantics.specs.declared.Input.{Input}
use Rattle.semantics.specs.Opening.{open_of}
use Rattle.semantics.specs.Evaluate.{evaluate_of}
use Rattle.semantics.specs.Reading.{read_of}
use Rattle.semantics.specs.PlainRun.{run_plainly_of}
use Rattle.semantics.specs.History.{Call, History, begun, called_all}
use Rattle.forms.specs.Answers.{answer_values, outcome_values}

pub record Case : Type 0 where
  pub given : List ℕ
  pub wanted : List ℕ

abbrev pub case : List ℕ → List ℕ → Case
case x y = record { given = x; wanted = y }

-- two lists have the same numbers in the same order
unfoldable pub alike : List ℕ → List ℕ → Bool
alike [] [] = true
alike [] (y ∷ ys) = false
alike (x ∷ xs) [] = false
alike (x ∷ xs) (y ∷ ys) = elim (eqb x y) [ true ↦ alike xs ys | false ↦ false ]

-- every case gives what is wanted
unfoldable pub all_hold : List Case → Bool
all_hold [] = true
all_hold (k ∷ ks) = alike k.given k.wanted && all_hold ks

-- ---- rules and inputs

abbrev pub input : ℕ → ℕ → Input
input k v = record { kind = k; value = v }

-- the 8 bytes of a record
abbrev pub bytes : ℕ → ℕ → ℕ → ℕ → ℕ → List ℕ → List ℕ
bytes k o p q r rest = k ∷ o ∷ p % 256 ∷ p / 256 ∷ q % 256 ∷ q / 256 ∷ r % 256 ∷ r / 256 ∷ rest

abbrev pub call : List ℕ → ℕ → Call
call bs d = record { rule = bs; allowance = d }

-- ---- a desk with a table of l bytes

unfoldable pub desk : List Input → ℕ → List Call → History
desk xs l ks = called_all (begun (open_of xs (replicate l 0))) ks

-- the answer to one call more
unfoldable pub answer : History → Call → List ℕ
answer h k = answer_values (evaluate_of k.rule k.allowance h.session h.table).0.answer

-- the last accepted result, read under these numbers with a work list as long as the count
unfoldable pub reading : History → List ℕ → List ℕ
reading h ns = outcome_values (read_of h.session h.table ns h.result (replicate h.session.count 1)).0

-- a rule run plainly, over these inputs and numbers, with a store for the inputs' places alone
unfoldable pub running : List Input → List ℕ → Call → List ℕ
running xs ns k = outcome_values (run_plainly_of xs ns k.rule k.allowance (replicate 128 1)).0
