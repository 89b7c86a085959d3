-- Evaluating an expression and applying a procedure (document 01, "Evaluation"). An expression is a record's number; `run` evaluates its parts. In this
-- file x is a state and y the one after it, g a guard and h its negation or another, v a value, p, q and r are a record's fields. Assumes nothing.
use Rattle.std.specs.Prelude.{ℕ, zero, suc, List, [], ◌∷◌, ◌++◌}
use Rattle.notation.specs.Notation.{with, when◌then◌else◌, if◌equals◌then◌else◌, if◌below◌then◌else◌}
use Rattle.operators.specs.Operators.{operands_of}
use Rattle.semantics.specs.declared.Record.{Record}
use Rattle.semantics.specs.declared.Term.{Term}
use Rattle.semantics.specs.declared.State.{State}
use Rattle.semantics.specs.declared.Result.{Result}
use Rattle.semantics.specs.declared.Leaf.{Leaf}
use Rattle.semantics.specs.declared.Branch.{Branch}
use Rattle.semantics.specs.Numbers.{datum_record, variable_record, procedure_record, call_record, operator_record, let_record, if_record, abort_record, word_datum, not_code, is_word_code, procedure_term, false_number, depth_spent}
use Rattle.semantics.specs.Records.{record_at, datum_word}
use Rattle.semantics.specs.Terms.{at}
use Rattle.semantics.specs.Steps.{Make, ◌>>=◌, ◌▹◌, give, refuse, each, reads, seen, up}
use Rattle.semantics.specs.Factory.{make_word_of, make_procedure_of, make_binding_of, not_of, and_of, truth_of, is_word_of, is_procedure_of, operator_term_of}
use Rattle.semantics.specs.States.{assume_of, assert_of, halts, out_of, halt_of}
use Rattle.semantics.specs.Walk.{aim_of}
use Rattle.semantics.specs.Merge.{branch_of, merge_of}

-- an evaluator, of a record's number, bindings and a state
abbrev pub Evaluator : Type 0
Evaluator = ℕ → ℕ → State → Make Result

-- ---- expressions that have no parts

-- "Place 0 is the nearest binding": the value at a place of a chain of bindings
unfoldable pub place_of : ℕ → ℕ → List Term → ℕ
place_of zero env ts = (at ts env).a
place_of (suc p) env ts = place_of p (at ts env).b ts

-- "Datum, variable, procedure: that value." The terms false and true have the ops' numbers.
unfoldable pub datum_of : ℕ → ℕ → State → Make Result
datum_of op w x = if op equals word_datum then (make_word_of w ▹ λ v. out_of x v) else give (out_of x op)

unfoldable pub procedure_of : ℕ → ℕ → ℕ → State → Make Result
procedure_of i env before x = make_procedure_of i env before ▹ λ v. out_of x v

-- "Abort and error halt after assuming or asserting false."
unfoldable pub abort_of : State → Make Result
abort_of x = assume_of x false_number ▹ λ y. halt_of y

unfoldable pub error_of : State → Make Result
error_of x = assert_of x false_number ▹ λ y. halt_of y

-- "Operator: codes 1 to 12 make one assertion, the and of 'is a word' for p and for q (with one operand, only its own)"
unfoldable pub words_of : ℕ → ℕ → ℕ → Make ℕ
words_of op a b = is_word_of a >>= λ g. with (operands_of op) λ n. if n equals 1 then give g else (is_word_of b >>= λ h. and_of g h)

-- "halt if S or T is then false; else the term"
unfoldable pub operation_of : ℕ → ℕ → ℕ → State → Make Result
operation_of op a b x =
    words_of op a b >>= λ g. assert_of x g >>= λ y. halts y λ stops. when stops then give (halt_of y) else (operator_term_of op a b ▹ λ v. out_of y v)

-- "Operator 13 is not of truth."
unfoldable pub test_of : ℕ → ℕ → Make ℕ
test_of op a = if op equals not_code then (truth_of a >>= λ g. not_of g) else if op equals is_word_code then is_word_of a else is_procedure_of a

-- "Codes 13 to 15 assert nothing."
unfoldable pub operator_of : ℕ → ℕ → ℕ → State → Make Result
operator_of op a b x = if op below not_code then operation_of op a b x else (test_of op a ▹ λ v. out_of x v)

-- the second operand's value; 0 for one operand
unfoldable pub second_of : ℕ → ℕ → ℕ → List Term → ℕ
second_of op q env ts = with (operands_of op) λ n. if n equals 1 then 0 else place_of q env ts

-- ---- let: "p is evaluated, q is evaluated with one more binding"

-- a part under one more binding
unfoldable pub under_of : Evaluator → ℕ → ℕ → ℕ → State → Make Result
under_of run q v env x = make_binding_of v env >>= λ inner. run q inner x

-- "Let: a halt of the first part is the answer."
unfoldable pub let_of : Evaluator → ℕ → ℕ → ℕ → State → Make Result
let_of run p q env x = run p env x >>= λ first. when first.halted then give first else under_of run q first.value env first.state

-- ---- "If: take g, truth of the test. Constant: one branch only. Else not g, both assumed states, then branches, merged over the state before."
pub record Fork : Type 0 where
  pub guard : ℕ
  pub yes : State
  pub no : State

-- not g, and both assumed states
unfoldable pub fork_of : ℕ → State → Make Fork
fork_of g x = not_of g >>= λ h. assume_of x g >>= λ yes. assume_of x h ▹ λ no. record { guard = h; yes = yes; no = no }

-- both branches
unfoldable pub branches_of : Evaluator → ℕ → ℕ → ℕ → ℕ → Fork → Make (List Branch)
branches_of run g q r env fork =
    run q env fork.yes >>= λ first. run r env fork.no ▹ λ second. branch_of g first ∷ branch_of fork.guard second ∷ []

unfoldable pub both_of : Evaluator → ℕ → ℕ → ℕ → ℕ → State → Make Result
both_of run g q r env x = fork_of g x >>= λ fork. branches_of run g q r env fork >>= λ bs. merge_of x bs

unfoldable pub if_of : Evaluator → ℕ → ℕ → ℕ → ℕ → State → Make Result
if_of run p q r env x =
    reads (place_of p env) λ v. truth_of v >>= λ g. seen g λ k.
    if k equals 1 then run q env x else if k equals 0 then run r env x else both_of run g q r env x

-- ---- call

-- "Each target runs in turn, its guard assumed, then its argument bound."
unfoldable pub apply_of : Evaluator → List ℕ → ℕ → State → Leaf → Make Result
apply_of run rule arg x leaf =
    assume_of x leaf.guard >>= λ y. with (record_at rule leaf.term.a) λ here. under_of run here.p arg leaf.term.b y

-- a target's result after those before it; any other leaf gives none
unfoldable pub target_of : Evaluator → List ℕ → ℕ → State → List Branch → Leaf → Make (List Branch)
target_of run rule arg x bs leaf =
    if leaf.term.kind equals procedure_term then (apply_of run rule arg x leaf ▹ λ result. bs ++ (branch_of leaf.guard result ∷ [])) else give bs

-- "Merge over the asserted state."
unfoldable pub targets_of : Evaluator → List ℕ → ℕ → State → List Leaf → Make Result
targets_of run rule arg x leaves = each (target_of run rule arg x) [] leaves >>= λ bs. merge_of x bs

-- "halt if S or T is then false"
unfoldable pub call_of : Evaluator → List ℕ → ℕ → ℕ → State → Make Result
call_of run rule called arg x =
    aim_of called x >>= λ aim. halts aim.state λ stops.
    when stops then give (halt_of aim.state) else targets_of run rule arg aim.state aim.leaves

-- ---- any expression: the record here, whose number is i
unfoldable pub expression_of : List ℕ → ℕ → Evaluator → Record → Evaluator
expression_of rule before run here i env x =
    if here.kind equals datum_record then datum_of here.op (datum_word here) x else
    if here.kind equals variable_record then (reads (place_of here.p env) λ v. give (out_of x v)) else
    if here.kind equals procedure_record then procedure_of i env before x else
    if here.kind equals call_record then (reads (place_of here.p env) λ called. reads (place_of here.q env) λ arg. call_of run rule called arg x) else
    if here.kind equals operator_record then (reads (place_of here.p env) λ a. reads (second_of here.op here.q env) λ b. operator_of here.op a b x) else
    if here.kind equals let_record then let_of run here.p here.q env x else
    if here.kind equals if_record then if_of run here.p here.q here.r env x else
    if here.kind equals abort_record then abort_of x else
    error_of x

-- "A state with false on either side halts."
unfoldable pub live_of : List ℕ → ℕ → Evaluator → Evaluator
live_of rule before run i env x =
    halts x λ stops. when stops then give (halt_of x) else with (record_at rule i) λ here. expression_of rule before run here i env x

-- "Every expression needs depth 1 or more and gives its parts one less. The body a call runs is such a part. This is tested first."
-- 12: "depth zero". `before` is the count of rules accepted before this one.
unfoldable pub eval_of : List ℕ → ℕ → ℕ → Evaluator
eval_of rule before zero i env x = refuse depth_spent
eval_of rule before (suc d) i env x = up (live_of rule before (eval_of rule before d) i env x)
