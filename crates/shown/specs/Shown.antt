-- What document 02's request Seven promises of its answers. It is said of `witness_of`, `read_of` and the runs, which the operations are proved equal to,
-- on what can be lent: sixteen inputs, lows and highs. Assumes nothing.
use Rattle.std.specs.Prelude.{◌≡◌, Bool, true, List, ℕ, ◌<◌, ◌≤◌, length, get_or}
use Rattle.semantics.specs.declared.Input.{Input}
use Rattle.semantics.specs.declared.Session.{Session}
use Rattle.semantics.specs.declared.Result.{Result}
use Rattle.semantics.specs.declared.Goal.{Goal}
use Rattle.semantics.specs.declared.Goal.TheVariants.{Errs}
use Rattle.semantics.specs.declared.Witness.{Witness}
use Rattle.semantics.specs.Numbers.{free_truth, free_word, input_count}
use Rattle.semantics.specs.Opening.{open_of}
use Rattle.semantics.specs.Reading.{numbers_taken, read_of}
use Rattle.semantics.specs.Goals.{goal_outcome}
use Rattle.semantics.specs.PlainRun.{ended_outcome}
use Rattle.firsts.specs.Witness.{no_hit, witness_of}
use Rattle.semantics.specs.History.{Call, History, begun, called_all, run_of_rules}
use Rattle.certainty.specs.Certain.{Words, no_input, NeverErrs}
use Rattle.firsts.specs.Firsts.{Before}

-- the answers: this reading, and none
abbrev pub found : List ℕ → Witness
found ns = record { refusal = 0; hit = record { found = true; numbers = ns } }

abbrev pub none_found : Witness
none_found = record { refusal = 0; hit = no_hit }

-- a reading that counts: sixteen words that 13 does not refuse; "then only readings inside them count"
pub record Counts (xs : List Input) (spanned : Bool) (lows highs ns : List ℕ) : Type 0 where
  pub sixteen : length ns ≡ input_count
  pub words : Words ns
  pub taken : numbers_taken xs ns ≡ true
  pub inside : spanned ≡ true → (i : ℕ) → i < input_count → (get_or xs i no_input).kind ≡ free_word → (get_or lows i 0 ≤ get_or ns i 0) × (get_or ns i 0 ≤ get_or highs i 0)

-- what a call lends
pub record Lent (x : Session) (lows highs : List ℕ) : Type 0 where
  pub inputs : length x.inputs ≡ input_count
  pub lows_sixteen : length lows ≡ input_count
  pub highs_sixteen : length highs ≡ input_count
  pub words : Words highs

-- ---- WITNESS REACHES: reading the result under it gives the goal. It counts, and "constant inputs stand in it as 0".
pub record Reached (x : Session) (s : List ℕ) (r : Result) (g : Goal) (spanned : Bool) (lows highs work ns : List ℕ) : Type 0 where
  pub counts : Counts x.inputs spanned lows highs ns
  pub reads : (read_of x s ns r work).0 ≡ goal_outcome g
  pub constants : (i : ℕ) → i < input_count → ((get_or x.inputs i no_input).kind ≡ free_truth → ⊥) → ((get_or x.inputs i no_input).kind ≡ free_word → ⊥) → get_or ns i 0 ≡ 0

abbrev pub WitnessReaches : Type 0
WitnessReaches =
    (x : Session) (s : List ℕ) (r : Result) (g : Goal) (spanned : Bool) (lows highs work ns : List ℕ) → Lent x lows highs
    → (witness_of x s r g spanned lows highs work).0 ≡ found ns → Reached x s r g spanned lows highs work ns

-- ---- WITNESS FIRST: no reading that counts and comes before it, "comparing inputs from 0 up as plain numbers", gives the goal
abbrev pub WitnessFirst : Type 0
WitnessFirst =
    (x : Session) (s : List ℕ) (r : Result) (g : Goal) (spanned : Bool) (lows highs work ns : List ℕ) → Lent x lows highs
    → (witness_of x s r g spanned lows highs work).0 ≡ found ns
    → (ms : List ℕ) → Counts x.inputs spanned lows highs ms → Before ms ns → (read_of x s ms r work).0 ≡ goal_outcome g → ⊥

-- ---- NONE MEANS NONE: no reading that counts gives the goal
abbrev pub NoneMeansNone : Type 0
NoneMeansNone =
    (x : Session) (s : List ℕ) (r : Result) (g : Goal) (spanned : Bool) (lows highs work : List ℕ) → Lent x lows highs
    → (witness_of x s r g spanned lows highs work).0 ≡ none_found
    → (ms : List ℕ) → Counts x.inputs spanned lows highs ms → (read_of x s ms r work).0 ≡ goal_outcome g → ⊥

-- ---- with demand 3: of the history h that any list of calls of evaluate left, refused ones included, from an accepted opening, and of the last accepted
-- rule's result

-- an accepted opening, the calls and the spans
pub record Kept (xs : List Input) (table : List ℕ) (calls : List Call) (h : History) (lows highs : List ℕ) : Type 0 where
  pub inputs : length xs ≡ input_count
  pub opened : (open_of xs table).0.refusal ≡ 0
  pub left : h ≡ called_all (begun (open_of xs table)) calls
  pub lows_sixteen : length lows ≡ input_count
  pub highs_sixteen : length highs ≡ input_count
  pub words : Words highs

-- the run of the accepted rules under the reading that is found comes to the goal
abbrev pub WitnessRuns : Type 0
WitnessRuns =
    (xs : List Input) (table : List ℕ) (calls : List Call) (h : History) (g : Goal) (spanned : Bool) (lows highs work ns : List ℕ) → Kept xs table calls h lows highs → 0 < length h.rules
    → (witness_of h.session h.table h.result g spanned lows highs work).0 ≡ found ns → ended_outcome (run_of_rules xs ns h.rules) ≡ goal_outcome g

-- where none is found, no run under a reading that counts does
abbrev pub NoneRuns : Type 0
NoneRuns =
    (xs : List Input) (table : List ℕ) (calls : List Call) (h : History) (g : Goal) (spanned : Bool) (lows highs work : List ℕ) → Kept xs table calls h lows highs → 0 < length h.rules
    → (witness_of h.session h.table h.result g spanned lows highs work).0 ≡ none_found
    → (ms : List ℕ) → Counts xs spanned lows highs ms → ended_outcome (run_of_rules xs ms h.rules) ≡ goal_outcome g → ⊥

-- "none" for the error means that no run errs
abbrev pub NoneNeverErrs : Type 0
NoneNeverErrs =
    (xs : List Input) (table : List ℕ) (calls : List Call) (h : History) (spanned : Bool) (lows highs work : List ℕ) → Kept xs table calls h lows highs
    → (witness_of h.session h.table h.result Errs spanned lows highs work).0 ≡ none_found
    → (ms : List ℕ) → Counts xs spanned lows highs ms → NeverErrs xs h ms
