-- What the store of a plain run holds. Each place is 8 bytes, cut as a rule's record is: kind the sort of the bound value, p the truth, q nothing;
-- p and q the word; or p the procedure's record, q the chain of its bindings; r the chain that the binding goes on with. Chain n + 1 begins at
-- place n; chain 0 is empty. Assumes nothing.
use Rattle.std.specs.Prelude.{ℕ, zero, suc, List, eqb}
use Rattle.std.specs.declared.result.Result.{Result}
use Rattle.std.specs.declared.result.Result.TheVariants.{Ok, Err}
use Rattle.notation.specs.Notation.{if◌equals◌then◌else◌, if◌below◌then◌else◌}
use Rattle.words.specs.Words.{join_of, low_of, high_of}
use Rattle.operators.specs.Operators.{bit_of}
use Rattle.semantics.specs.declared.Record.{Record}
use Rattle.semantics.specs.Numbers.{truth_term, word_term, procedure_term}
use Rattle.semantics.specs.Records.{record_at}
use Rattle.semantics.specs.Run.{Value, truth, word, procedure, binding, none, gives, aborts, errs, spends}
use Rattle.semantics.specs.PlainRun.{Stored, ended, full}
use Rattle.interpreter.specs.declared.Held.{Held}
use Rattle.interpreter.specs.declared.Held.TheVariants.{Truth, Word, Procedure, Nothing}
use Rattle.interpreter.specs.declared.Stop.{Stop}
use Rattle.interpreter.specs.declared.Stop.TheVariants.{Abort, Error, DepthSpent, StoreFull}

-- a value by its sort and its two fields, and its bindings if it is a procedure; any other sort is no value
unfoldable pub value_of : ℕ → ℕ → ℕ → Value → Value
value_of sort x y e =
    if sort equals truth_term then truth (eqb x 1) else
    if sort equals word_term then word (join_of x y) else
    if sort equals procedure_term then procedure x e else
    none

-- the binding that a place holds, by the chains below it
abbrev pub binding_of : Record → (ℕ → Value) → Value
binding_of x chain = binding (value_of x.kind x.p x.q (chain x.q)) (chain x.r)

-- the chain e of the places below b; of any other place, none
unfoldable pub chain_below : List ℕ → ℕ → ℕ → Value
chain_below s zero e = none
chain_below s (suc b) e = if e equals suc b then binding_of (record_at s b) (chain_below s b) else chain_below s b e

-- the chain e
unfoldable pub chain_in : List ℕ → ℕ → Value
chain_in s e = chain_below s e e

-- a chain that place n names: only a lower one, so that every chain ends
unfoldable pub lower_of : ℕ → ℕ → ℕ
lower_of n e = if n below e then 0 else e

-- the chain of a procedure's bindings; the empty one of any other value
abbrev pub link_of : Held → ℕ
link_of (Truth b) = 0
link_of (Word w) = 0
link_of (Procedure i e) = e
link_of Nothing = 0

-- a value that the code holds
abbrev pub value_in : List ℕ → Held → Value
value_in s (Truth b) = truth b
value_in s (Word w) = word w
value_in s (Procedure i e) = procedure i (chain_in s e)
value_in s Nothing = none

-- the value, but for a procedure's bindings
abbrev pub shown : Held → Value
shown (Truth b) = truth b
shown (Word w) = word w
shown (Procedure i e) = procedure i none
shown Nothing = none

-- the record of a place that holds the value above the chain
abbrev pub bound : Held → ℕ → Record
bound (Truth b) next = record { kind = truth_term; op = 0; p = bit_of b; q = 0; r = next }
bound (Word w) next = record { kind = word_term; op = 0; p = low_of w; q = high_of w; r = next }
bound (Procedure i e) next = record { kind = procedure_term; op = 0; p = i; q = e; r = next }
bound Nothing next = record { kind = 0; op = 0; p = 0; q = 0; r = next }

-- the value in place n's record: the chain of a procedure is one that place n names
unfoldable pub held_in : ℕ → Record → Held
held_in n x =
    if x.kind equals truth_term then Truth (eqb x.p 1) else
    if x.kind equals word_term then Word (join_of x.p x.q) else
    if x.kind equals procedure_term then Procedure x.p (lower_of n x.q) else
    Nothing

-- the end of a run that the code answers with, by how its value is read, with the places taken then
abbrev pub stored_by : (Held → Value) → Result Held Stop → ℕ → Stored
stored_by read (Ok v) k = ended (gives (read v)) k
stored_by read (Err Abort) k = ended aborts k
stored_by read (Err Error) k = ended errs k
stored_by read (Err DepthSpent) k = ended spends k
stored_by read (Err StoreFull) k = full
