-- Evaluating a rule in a session (document 01, "Evaluate"): what the operation answers, and what it leaves. Assumes nothing.
use Rattle.std.specs.Prelude.{ℕ, ◌+◌, Bool, ◌||◌, List, eqb, ltb, leb, length}
use Rattle.notation.specs.Notation.{with, when◌then◌else◌, if◌below◌then◌else◌, unless◌then◌else◌}
use Rattle.semantics.specs.declared.Result.{Result}
use Rattle.semantics.specs.declared.Session.{Session}
use Rattle.semantics.specs.declared.Answer.TheVariants.{Halt, Refused}
use Rattle.semantics.specs.declared.Evaluated.{Evaluated}
use Rattle.semantics.specs.Numbers.{misfit, bad_allowance, rules_spent, allowance_limit, rule_limit}
use Rattle.semantics.specs.Rules.{rule_refusal_of}
use Rattle.semantics.specs.Terms.{terms_in, image_of}
use Rattle.semantics.specs.Steps.{setting_of, Got, gave, refused}
use Rattle.semantics.specs.Opening.{opening}
use Rattle.semantics.specs.States.{halt_of}
use Rattle.semantics.specs.Evaluation.{eval_of}
use Rattle.semantics.specs.Fits.{fits_of}
use Rattle.semantics.specs.Answers.{answer_of}

-- what an operation leaves of a session and a table, and its answer
abbrev pub Operation : Type 0
Operation = Session → List ℕ → Evaluated × List ℕ

-- "Session and table are left as they were"
unfoldable pub refused_by : ℕ → Operation
refused_by k x s = (record { answer = Refused k; session = x }, s)

-- the session with a result of a rule that is accepted: "Its S, T and halt become the session's."
abbrev pub advanced : Session → ℕ → Result → Session
advanced x n r = record { inputs = x.inputs; count = n; state = r.state; halted = r.halted; accepted = x.accepted + 1 }

-- "A halted session then answers the same halt, and the rule counts as accepted."
unfoldable pub halted_again : Operation
halted_again x s = (record { answer = Halt x.state 1; session = advanced x x.count (halt_of x.state) }, s)

-- what an evaluation by the rules leaves
abbrev pub left : Session → List ℕ → Got Result → Evaluated × List ℕ
left x s (gave ts r d) = (record { answer = answer_of r d; session = advanced x (length ts) r }, image_of (length s) ts)
left x s (refused k) = refused_by k x s

-- the evaluation itself, from record 0 in the environment that opening left
unfoldable pub evaluated : List ℕ → ℕ → Operation
evaluated rule allowance x s =
    left x s (eval_of rule x.accepted allowance 0 (opening x.inputs).environment x.state (setting_of (length s)) (terms_in s x.count))

-- 8: "allowance outside 1 to 256"
unfoldable pub bad_depth : ℕ → Bool
bad_depth allowance = eqb allowance 0 || ltb allowance_limit allowance

-- "Tests are made in the order written": 3, 4 to 7, 8, 9, the halted session, then 10, 11 and 12 as the rules reach them
unfoldable pub evaluate_of : List ℕ → ℕ → Operation
evaluate_of rule allowance x s =
    (unless fits_of x s then refused_by misfit else
    with (rule_refusal_of rule) λ k. if 0 below k then refused_by k else
    when bad_depth allowance then refused_by bad_allowance else
    when leb rule_limit x.accepted then refused_by rules_spent else
    when x.halted then halted_again else
    evaluated rule allowance) x s
