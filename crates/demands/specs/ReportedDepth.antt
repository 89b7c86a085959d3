-- The depth that an accepted rule reports (document 01, "Evaluation": "An accepted rule reports a depth, at most the allowance, with which the same
-- result is given."), of every call of evaluate, halted sessions included. It is the smallest such depth. Assumes nothing.
use Rattle.std.specs.Prelude.{◌≡◌, List, ℕ, ◌-◌, ◌<◌, ◌≤◌}
use Rattle.semantics.specs.declared.State.{State}
use Rattle.semantics.specs.declared.Session.{Session}
use Rattle.semantics.specs.declared.Answer.{Answer}
use Rattle.semantics.specs.declared.Answer.TheVariants.{Out, Halt, Refused}
use Rattle.semantics.specs.Numbers.{depth_spent}
use Rattle.semantics.specs.Evaluate.{evaluate_of}

-- an accepted rule's answer, and the depth in it
pub data Reports : Answer → ℕ → Type 0 where
  of_value : {y : State} {v d : ℕ} → Reports (Out y v d) d
  of_halt : {y : State} {d : ℕ} → Reports (Halt y d) d

-- Of a call at an allowance that reports the depth d.
pub record Smallest (rule : List ℕ) (allowance : ℕ) (x : Session) (s : List ℕ) (d : ℕ) : Type 0 where
  pub some : 1 ≤ d
  -- "at most the allowance"
  pub within : d ≤ allowance
  -- "with which the same result is given": answer, session and table
  pub enough : evaluate_of rule d x s ≡ evaluate_of rule allowance x s
  -- one less is refused by 12
  pub no_less : 1 < d → evaluate_of rule (d - 1) x s ≡ (record { answer = Refused depth_spent; session = x }, s)

abbrev pub ReportedDepth : Type 0
ReportedDepth = (rule : List ℕ) (allowance : ℕ) (x : Session) (s : List ℕ) (d : ℕ) → Reports (evaluate_of rule allowance x s).0.answer d → Smallest rule allowance x s d
