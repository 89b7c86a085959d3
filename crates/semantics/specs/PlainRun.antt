-- The plain run: the concrete rules with a store of places (document 01, "Run plainly"). Assumes nothing.
use Rattle.std.specs.Prelude.{ℕ, zero, suc, ◌/◌, min, List, length, replicate}
use Rattle.notation.specs.Notation.{with, when◌then◌else◌, if◌equals◌then◌else◌, if◌below◌then◌else◌, unless◌then◌else◌, every}
use Rattle.semantics.specs.declared.Record.{Record}
use Rattle.semantics.specs.declared.Input.{Input}
use Rattle.semantics.specs.declared.Outcome.{Outcome}
use Rattle.semantics.specs.declared.Outcome.TheVariants.{Truth, Word, Procedure, Abort, Error, Refused}
use Rattle.semantics.specs.Numbers.{datum_record, variable_record, procedure_record, call_record, operator_record, let_record, if_record, abort_record, input_count, place_limit, bad_input, bad_number, bad_allowance, depth_spent, store_full, no_value}
use Rattle.semantics.specs.Records.{record_at, datum_word}
use Rattle.semantics.specs.Rules.{rule_refusal_of}
use Rattle.semantics.specs.Opening.{input_taken}
use Rattle.semantics.specs.Evaluate.{bad_depth}
use Rattle.semantics.specs.Reading.{numbers_taken}
use Rattle.semantics.specs.Run.{Value, truth, word, procedure, binding, none, Ended, gives, aborts, errs, spends, placed, is_false, operator_run, datum_value, inputs_bound}

-- How it ends, with the places taken then; or the store is full.
pub data Stored : Type 0 where
  ended : Ended → (taken : ℕ) → Stored
  full : Stored

-- a run, of the bindings and the places taken before
abbrev pub Storing : Type 0
Storing = Value → ℕ → Stored

-- what goes on with a value
unfoldable pub onward : Stored → (Value → ℕ → Stored) → Stored
onward full f = full
onward (ended (gives v) k) f = f v k
onward (ended aborts k) f = ended aborts k
onward (ended errs k) f = ended errs k
onward (ended spends k) f = ended spends k

-- "16 is given when a place is needed and none is left"
unfoldable pub taking : ℕ → Storing → Storing
taking room run e k = with k (if k below room then (λ n. run e (suc n)) else (λ n. full))

-- "each call of a procedure takes one as it binds"
unfoldable pub call_stored : ℕ → (ℕ → Storing) → List ℕ → Value → Value → ℕ → Stored
call_stored room run rule (truth b) v k = ended errs k
call_stored room run rule (word w) v k = ended errs k
call_stored room run rule (procedure i e) v k = taking room (run (record_at rule i).p) (binding v e) k
call_stored room run rule (binding u e) v k = ended errs k
call_stored room run rule none v k = ended errs k

-- one expression, as in the concrete run; "each let [...] takes one as it binds"
unfoldable pub expression_stored : ℕ → List ℕ → (ℕ → Storing) → Record → ℕ → Storing
expression_stored room rule run x i =
    if x.kind equals datum_record then (λ e. ended (gives (datum_value x.op (datum_word x)))) else
    if x.kind equals variable_record then (λ e. ended (gives (placed x.p e))) else
    if x.kind equals procedure_record then (λ e. ended (gives (procedure i e))) else
    if x.kind equals call_record then (λ e. call_stored room run rule (placed x.p e) (placed x.q e)) else
    if x.kind equals operator_record then (λ e. ended (operator_run x.op (placed x.p e) (placed x.q e))) else
    if x.kind equals let_record then (λ e k. onward (run x.p e k) λ v. taking room (run x.q) (binding v e)) else
    if x.kind equals if_record then (λ e. (when is_false (placed x.p e) then run x.r else run x.q) e) else
    if x.kind equals abort_record then (λ e. ended aborts) else
    (λ e. ended errs)

unfoldable pub stored_of : ℕ → List ℕ → ℕ → ℕ → Storing
stored_of room rule zero i e k = ended spends k
stored_of room rule (suc d) i e k = expression_stored room rule (stored_of room rule d) (record_at rule i) i e k

-- "The inputs take 16 places first"
unfoldable pub started_of : ℕ → List ℕ → ℕ → Value → Stored
started_of room rule allowance e = with input_count (if room below input_count then (λ k. full) else stored_of room rule allowance 0 e)

-- "A procedure answers with its record number, as reading does." Bindings and a missing place are no values: theirs is a number that no operation
-- answers, so that an answer shows that the run met neither.
unfoldable pub value_given : Value → Outcome
value_given (truth b) = Truth b
value_given (word w) = Word w
value_given (procedure i e) = Procedure i
value_given (binding v e) = Refused no_value
value_given none = Refused no_value

unfoldable pub ended_outcome : Ended → Outcome
ended_outcome (gives v) = value_given v
ended_outcome aborts = Abort
ended_outcome errs = Error
ended_outcome spends = Refused depth_spent

unfoldable pub stored_outcome : Stored → Outcome
stored_outcome (ended o k) = ended_outcome o
stored_outcome full = Refused store_full

-- "The store has a place for each whole 8 bytes, at most 8,192."
abbrev pub places_in : ℕ → ℕ
places_in l = min place_limit (l / 8)

-- no run
abbrev pub stopped_by : ℕ → Value → Outcome
stopped_by k e = Refused k

-- "2, 13, 4 to 8 in that order, then whichever first: 16, its store is full; 12"; the store has l bytes
unfoldable pub run_outcome : List Input → List ℕ → List ℕ → ℕ → ℕ → Outcome
run_outcome xs numbers rule allowance l =
    with (inputs_bound xs numbers) (
    unless every input_taken xs then stopped_by bad_input else
    unless numbers_taken xs numbers then stopped_by bad_number else
    with (rule_refusal_of rule) λ k. if 0 below k then stopped_by k else
    when bad_depth allowance then stopped_by bad_allowance else
    (λ e. stored_outcome (started_of (places_in l) rule allowance e)))

-- Run plainly: the answer, and the store then: "On every return the store is zero."
unfoldable pub run_plainly_of : List Input → List ℕ → List ℕ → ℕ → List ℕ → Outcome × List ℕ
run_plainly_of xs numbers rule allowance store = (run_outcome xs numbers rule allowance (length store), replicate (length store) 0)
