-- How many bindings the concrete run makes until it ends (document 01, "Run plainly": "each let and each call of a procedure takes one as it
-- binds"). It is said of the run alone: no store is in it. Assumes nothing.
use Rattle.std.specs.Prelude.{ℕ, zero, suc, ◌+◌, List}
use Rattle.notation.specs.Notation.{when◌then◌else◌, if◌equals◌then◌else◌}
use Rattle.semantics.specs.declared.Record.{Record}
use Rattle.semantics.specs.Numbers.{datum_record, variable_record, procedure_record, call_record, operator_record, let_record, if_record, abort_record}
use Rattle.semantics.specs.Records.{record_at}
use Rattle.semantics.specs.Run.{Value, truth, word, procedure, binding, none, Ended, gives, aborts, errs, spends, Running, placed, is_false, run_of}

-- how many bindings a run makes, of the bindings that it starts in
abbrev pub Making : Type 0
Making = Value → ℕ

-- a call: one, of a procedure, and those that its body makes
unfoldable pub call_makes : (ℕ → Making) → List ℕ → Value → Value → ℕ
call_makes makes rule (truth b) v = 0
call_makes makes rule (word w) v = 0
call_makes makes rule (procedure i e) v = suc (makes (record_at rule i).p (binding v e))
call_makes makes rule (binding u e) v = 0
call_makes makes rule none v = 0

-- a let: those of the first part, n; once that has a value, one more and those of the second part
unfoldable pub let_makes : ℕ → Ended → (Value → ℕ) → ℕ
let_makes n (gives v) second = n + suc (second v)
let_makes n aborts second = n
let_makes n errs second = n
let_makes n spends second = n

-- one expression, which is x; `run` runs its parts, and `makes` counts what they make
unfoldable pub expression_makes : List ℕ → (ℕ → Running) → (ℕ → Making) → Record → Making
expression_makes rule run makes x =
    if x.kind equals datum_record then (λ e. 0) else
    if x.kind equals variable_record then (λ e. 0) else
    if x.kind equals procedure_record then (λ e. 0) else
    if x.kind equals call_record then (λ e. call_makes makes rule (placed x.p e) (placed x.q e)) else
    if x.kind equals operator_record then (λ e. 0) else
    if x.kind equals let_record then (λ e. let_makes (makes x.p e) (run x.p e) λ v. makes x.q (binding v e)) else
    if x.kind equals if_record then (λ e. (when is_false (placed x.p e) then makes x.r else makes x.q) e) else
    if x.kind equals abort_record then (λ e. 0) else
    (λ e. 0)

-- the run of record i at a depth, as in `run_of`
unfoldable pub bindings_made : List ℕ → ℕ → ℕ → Making
bindings_made rule zero i e = 0
bindings_made rule (suc d) i e = expression_makes rule (run_of rule d) (bindings_made rule d) (record_at rule i) e
