-- The concrete run (document 01, "The concrete run"; the paper's figure 3). Nothing in it comes from table or formulas. Assumes nothing.
use Rattle.std.specs.Prelude.{ℕ, zero, suc, Bool, true, false, not, List, [], ◌∷◌, eqb}
use Rattle.notation.specs.Notation.{when◌then◌else◌, if◌equals◌then◌else◌, if◌below◌then◌else◌}
use Rattle.operators.specs.Operators.{operands_of, gives_truth_of, operate_of}
use Rattle.semantics.specs.declared.Record.{Record}
use Rattle.semantics.specs.declared.Input.{Input}
use Rattle.semantics.specs.Numbers.{datum_record, variable_record, procedure_record, call_record, operator_record, let_record, if_record, abort_record, true_datum, word_datum, not_code, is_word_code, constant_truth, constant_word, free_truth}
use Rattle.semantics.specs.Records.{record_at, datum_word}

-- A value is a truth, a word or a procedure's record with the bindings there. Bindings are a chain of values, which `none` ends.
pub data Value : Type 0 where
  truth : Bool → Value
  word : ℕ → Value
  procedure : (record' : ℕ) → (bindings : Value) → Value
  binding : (value : Value) → (next : Value) → Value
  none : Value

-- How a run ends: with a value, or stopped.
pub data Ended : Type 0 where
  gives : Value → Ended
  aborts : Ended
  errs : Ended
  spends : Ended

-- a run, of the bindings
abbrev pub Running : Type 0
Running = Value → Ended

-- what goes on with a value, unless the run stopped
unfoldable pub after : Ended → (Value → Ended) → Ended
after (gives v) f = f v
after aborts f = aborts
after errs f = errs
after spends f = spends

-- how a place of the bindings is looked up
abbrev pub Look : Type 0
Look = ℕ → Value → Value

-- "Place 0 is the nearest binding"; u past the end of the bindings
unfoldable pub placed_or : Value → Look
placed_or u p (truth b) = u
placed_or u p (word w) = u
placed_or u p (procedure i e) = u
placed_or u zero (binding v e) = v
placed_or u (suc p) (binding v e) = placed_or u p e
placed_or u p none = u

-- nothing past the end, where no rule that passes the tests looks
abbrev pub placed : Look
placed p e = placed_or none p e

-- "Only false fails a test."
unfoldable pub is_false : Value → Bool
is_false (truth b) = not b
is_false (word w) = false
is_false (procedure i e) = false
is_false (binding v e) = false
is_false none = false

unfoldable pub is_aword : Value → Bool
is_aword (truth b) = false
is_aword (word w) = true
is_aword (procedure i e) = false
is_aword (binding v e) = false
is_aword none = false

unfoldable pub is_aprocedure : Value → Bool
is_aprocedure (truth b) = false
is_aprocedure (word w) = false
is_aprocedure (procedure i e) = true
is_aprocedure (binding v e) = false
is_aprocedure none = false

unfoldable pub word_in : Value → ℕ
word_in (truth b) = 0
word_in (word w) = w
word_in (procedure i e) = 0
word_in (binding v e) = 0
word_in none = 0

-- ---- "Operator: as above; 1 to 12 on what is no word, error."

-- what a code from 1 to 12 gives on words
unfoldable pub operation_value : ℕ → ℕ → ℕ → Value
operation_value op x y = when gives_truth_of op then truth (eqb (operate_of op x y) 1) else word (operate_of op x y)

unfoldable pub words_run : ℕ → Value → Value → Bool
words_run op x y = when is_aword x then (if operands_of op equals 1 then true else is_aword y) else false

unfoldable pub operator_run : ℕ → Value → Value → Ended
operator_run op x y =
    if op below not_code then (when words_run op x y then gives (operation_value op (word_in x) (word_in y)) else errs) else
    if op equals not_code then gives (truth (is_false x)) else
    if op equals is_word_code then gives (truth (is_aword x)) else
    gives (truth (is_aprocedure x))

-- "Datum, variable: that value."
unfoldable pub datum_value : ℕ → ℕ → Value
datum_value op w = if op equals word_datum then word w else truth (eqb op true_datum)

-- ---- one expression, record i, which is x; `look` looks places up, and `run` runs its parts

-- "Call: the procedure's body under its bindings and the argument; of anything else, error."
unfoldable pub call_run : (ℕ → Running) → List ℕ → Value → Value → Ended
call_run run rule (truth b) v = errs
call_run run rule (word w) v = errs
call_run run rule (procedure i e) v = run (record_at rule i).p (binding v e)
call_run run rule (binding u e) v = errs
call_run run rule none v = errs

-- "Procedure: its record with the bindings there."; "Let: p, then q with p's value bound. If: r on false, else q."; "Abort, error: the run stops"
unfoldable pub expression_run : Look → List ℕ → (ℕ → Running) → Record → ℕ → Running
expression_run look rule run x i =
    if x.kind equals datum_record then (λ e. gives (datum_value x.op (datum_word x))) else
    if x.kind equals variable_record then (λ e. gives (look x.p e)) else
    if x.kind equals procedure_record then (λ e. gives (procedure i e)) else
    if x.kind equals call_record then (λ e. call_run run rule (look x.p e) (look x.q e)) else
    if x.kind equals operator_record then (λ e. operator_run x.op (look x.p e) (look x.q e)) else
    if x.kind equals let_record then (λ e. after (run x.p e) λ v. run x.q (binding v e)) else
    if x.kind equals if_record then (λ e. (when is_false (look x.p e) then run x.r else run x.q) e) else
    if x.kind equals abort_record then (λ e. aborts) else
    (λ e. errs)

-- "An expression at depth 0: the depth is spent and the run stops. This is tested first. Parts, a called body too, get one less."
unfoldable pub run_by : Look → List ℕ → ℕ → ℕ → Running
run_by look rule zero i e = spends
run_by look rule (suc d) i e = expression_run look rule (run_by look rule d) (record_at rule i) i e

-- the concrete run
abbrev pub run_of : List ℕ → ℕ → ℕ → Running
run_of rule d i e = run_by placed rule d i e

-- ---- "A constant is its value, a free truth true for 1, a free word its number."
unfoldable pub input_value : Input → ℕ → Value
input_value x n =
    if x.kind equals constant_truth then truth (eqb x.value 1) else
    if x.kind equals constant_word then word x.value else
    if x.kind equals free_truth then truth (eqb n 1) else
    word n

-- "input 0 as nearest binding"
unfoldable pub inputs_bound : List Input → List ℕ → Value
inputs_bound [] ns = none
inputs_bound (x ∷ xs) [] = none
inputs_bound (x ∷ xs) (n ∷ ns) = binding (input_value x n) (inputs_bound xs ns)
