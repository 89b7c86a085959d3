-- A list of evaluations from an opening on, and the run of the rules that were accepted (document 01, "The concrete run"). Assumes nothing.
use Rattle.std.specs.Prelude.{ℕ, false, List, [], ◌∷◌, ◌++◌}
use Rattle.semantics.specs.declared.Input.{Input}
use Rattle.semantics.specs.declared.Result.{Result}
use Rattle.semantics.specs.declared.Session.{Session}
use Rattle.semantics.specs.declared.Answer.{Answer}
use Rattle.semantics.specs.declared.Answer.TheVariants.{Out, Halt, Refused}
use Rattle.semantics.specs.declared.Opened.{Opened}
use Rattle.semantics.specs.declared.Evaluated.{Evaluated}
use Rattle.semantics.specs.Numbers.{true_number}
use Rattle.semantics.specs.States.{state_of, halt_of}
use Rattle.semantics.specs.Answers.{result_in}
use Rattle.semantics.specs.Evaluate.{evaluate_of}
use Rattle.semantics.specs.Run.{Value, truth, Ended, gives, after, run_of, inputs_bound}

-- A call of evaluate: the rule's bytes and the allowance.
pub record Call : Type 0 where
  pub rule : List ℕ
  pub allowance : ℕ

-- A rule that was accepted, with the depth that was reported.
pub record Accepted : Type 0 where
  pub rule : List ℕ
  pub depth : ℕ

-- What a list of calls leaves: session and table, the rules accepted, oldest first, and the last accepted result.
pub record History : Type 0 where
  pub session : Session
  pub table : List ℕ
  pub rules : List Accepted
  pub result : Result

-- what an opening leaves
abbrev pub begun : Opened × List ℕ → History
begun o = record { session = o.0.session; table = o.1; rules = []; result = halt_of (state_of true_number true_number) }

-- the rules accepted after one more answer: "A refused rule is no step."
abbrev pub accepted_after : List Accepted → Call → Answer → List Accepted
accepted_after rs k (Out x v d) = rs ++ (record { rule = k.rule; depth = d } ∷ [])
accepted_after rs k (Halt x d) = rs ++ (record { rule = k.rule; depth = d } ∷ [])
accepted_after rs k (Refused n) = rs

-- one call more, given the session and table as they were left
unfoldable pub called : History → Call → History
called h k =
    let e : Evaluated × List ℕ = evaluate_of k.rule k.allowance h.session h.table in
    record {
      session = e.0.session;
      table = e.1;
      rules = accepted_after h.rules k e.0.answer;
      result = result_in e.0.answer h.result;
    }

unfoldable pub called_all : History → List Call → History
called_all h [] = h
called_all h (k ∷ ks) = called_all (called h k) ks

-- "Until it stops, each accepted rule in turn starts at record 0 with its reported depth and input 0 as nearest binding.": one rule more
unfoldable pub ran_on : Value → Ended → List ℕ → ℕ → Ended
ran_on inputs o rule depth = after o λ v. run_of rule depth 0 inputs

-- "It gives the last rule's value, or how it stopped."
unfoldable pub ran_all : Value → Ended → List Accepted → Ended
ran_all inputs o [] = o
ran_all inputs o (r ∷ rs) = ran_all inputs (ran_on inputs o r.rule r.depth) rs

-- the run of the accepted rules under sixteen numbers; before the first rule it has stopped nowhere
unfoldable pub run_of_rules : List Input → List ℕ → List Accepted → Ended
run_of_rules xs numbers rs = ran_all (inputs_bound xs numbers) (gives (truth false)) rs
