-- Demand 1, of every call of evaluate, on any bytes: "Every well-formed rule, input list and table is taken, and the evaluation ends with a result
-- or with the refusal for table, depth or a call too wide that the rules themselves reach. All else is refused by its number, with table and session
-- as they were." It is said of `evaluate_of`, which the operation is proved equal to. Assumes nothing.
use Rattle.std.specs.Prelude.{◌≡◌, true, false, List, ℕ, ◌<◌, leb, length}
use Rattle.notation.specs.Notation.{when◌then◌else◌, if◌below◌then◌else◌, unless◌then◌else◌, with}
use Rattle.semantics.specs.declared.Term.{Term}
use Rattle.semantics.specs.declared.Result.{Result}
use Rattle.semantics.specs.declared.Session.{Session}
use Rattle.semantics.specs.declared.Answer.{Answer}
use Rattle.semantics.specs.declared.Answer.TheVariants.{Out, Halt, Refused}
use Rattle.semantics.specs.Numbers.{misfit, bad_allowance, rules_spent, call_too_wide, table_full, depth_spent, rule_limit}
use Rattle.semantics.specs.Rules.{rule_refusal_of}
use Rattle.semantics.specs.Terms.{terms_in}
use Rattle.semantics.specs.Steps.{setting_of, Got, gave, refused}
use Rattle.semantics.specs.Opening.{opening}
use Rattle.semantics.specs.Evaluation.{eval_of}
use Rattle.semantics.specs.Fits.{fits_of}
use Rattle.semantics.specs.Evaluate.{bad_depth, evaluate_of}

-- the number of the first of the tests 3 to 9 that fails; 0 where all pass
unfoldable pub first_failed : List ℕ → ℕ → Session → List ℕ → ℕ
first_failed rule allowance x s =
    unless fits_of x s then misfit else
    with (rule_refusal_of rule) λ k. if 0 below k then k else
    when bad_depth allowance then bad_allowance else
    when leb rule_limit x.accepted then rules_spent else
    0

-- what the symbolic rules give, from record 0 in the environment that opening left, with document 01's search for an equal term
abbrev pub ruling : List ℕ → ℕ → Session → List ℕ → Got Result
ruling rule allowance x s =
    eval_of rule x.accepted allowance 0 (opening x.inputs).environment x.state (setting_of (length s)) (terms_in s x.count)

-- "a result or [...] the refusal for table, depth or a call too wide that the rules themselves reach", each with the evidence that they reach it; of a
-- halted session "the same halt"
pub data Ends (rule : List ℕ) (allowance : ℕ) (x : Session) (s : List ℕ) : Answer → Type 0 where
  value : {ts : List Term} {r : Result} {d : ℕ} → x.halted ≡ false → ruling rule allowance x s ≡ gave ts r d → r.halted ≡ false → Ends rule allowance x s (Out r.state r.value d)
  halt : {ts : List Term} {r : Result} {d : ℕ} → x.halted ≡ false → ruling rule allowance x s ≡ gave ts r d → r.halted ≡ true → Ends rule allowance x s (Halt r.state d)
  again : x.halted ≡ true → Ends rule allowance x s (Halt x.state 1)
  too_wide : x.halted ≡ false → ruling rule allowance x s ≡ refused call_too_wide → Ends rule allowance x s (Refused call_too_wide)
  full : x.halted ≡ false → ruling rule allowance x s ≡ refused table_full → Ends rule allowance x s (Refused table_full)
  spent : x.halted ≡ false → ruling rule allowance x s ≡ refused depth_spent → Ends rule allowance x s (Refused depth_spent)

pub record Demand1 (rule : List ℕ) (allowance : ℕ) (x : Session) (s : List ℕ) : Type 0 where
  -- where the tests 3 to 9 pass
  pub taken : first_failed rule allowance x s ≡ 0 → Ends rule allowance x s (evaluate_of rule allowance x s).0.answer
  -- "All else is refused by its number": by that of the first test that fails
  pub refused_by_lem : (n : ℕ) → first_failed rule allowance x s ≡ n → 0 < n → (evaluate_of rule allowance x s).0.answer ≡ Refused n
  -- "with table and session as they were": whatever the number, 10, 11 and 12 among them
  pub untouched : (n : ℕ) → (evaluate_of rule allowance x s).0.answer ≡ Refused n → evaluate_of rule allowance x s ≡ (record { answer = Refused n; session = x }, s)
