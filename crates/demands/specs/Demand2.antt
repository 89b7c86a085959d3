-- Demand 2: "Terms and result are those of the paper's symbolic rules with document 01's factory, record by record; the plain runner gives what the
-- paper's concrete rules give, while its store lasts." It is said of `evaluate_of` and `run_plainly_of`, which the operations are proved equal to.
-- Assumes nothing.
use Rattle.std.specs.Prelude.{◌≡◌, false, List, ℕ, ◌+◌, ◌<◌, ◌≤◌, length, replicate}
use Rattle.notation.specs.Notation.{when◌then◌else◌, if◌below◌then◌else◌, unless◌then◌else◌, with, every}
use Rattle.semantics.specs.declared.Term.{Term}
use Rattle.semantics.specs.declared.Input.{Input}
use Rattle.semantics.specs.declared.Result.{Result}
use Rattle.semantics.specs.declared.Session.{Session}
use Rattle.semantics.specs.declared.Answer.TheVariants.{Refused}
use Rattle.semantics.specs.declared.Outcome.TheVariants.{Refused as NoOutcome}
use Rattle.semantics.specs.Numbers.{input_count, bad_input, bad_number, bad_allowance, store_full, no_value}
use Rattle.semantics.specs.Rules.{rule_refusal_of}
use Rattle.semantics.specs.Terms.{terms_in, image_of}
use Rattle.semantics.specs.Steps.{gave, refused}
use Rattle.semantics.specs.Opening.{input_taken}
use Rattle.semantics.specs.Answers.{answer_of}
use Rattle.semantics.specs.Evaluate.{bad_depth, evaluate_of}
use Rattle.semantics.specs.Reading.{numbers_taken}
use Rattle.semantics.specs.Run.{run_of, inputs_bound}
use Rattle.semantics.specs.PlainRun.{ended_outcome, places_in, run_plainly_of}
use Rattle.semantics.specs.Bindings.{bindings_made}
use Rattle.demands.specs.Demand1.{first_failed, ruling}

-- ---- the symbolic rules

-- What a call leaves where the rules give the terms ts and the result r, with the depth d.
pub record Leaves (rule : List ℕ) (allowance : ℕ) (x : Session) (s : List ℕ) (ts : List Term) (r : Result) (d : ℕ) : Type 0 where
  pub answer : (evaluate_of rule allowance x s).0.answer ≡ answer_of r d
  -- "Its S, T and halt become the session's."
  pub session : (evaluate_of rule allowance x s).0.session ≡ record { inputs = x.inputs; count = length ts; state = r.state; halted = r.halted; accepted = x.accepted + 1 }
  -- "record by record"
  pub terms : terms_in (evaluate_of rule allowance x s).1 (length ts) ≡ ts
  -- and every byte of the table: "bytes past the count are zero"
  pub table : (evaluate_of rule allowance x s).1 ≡ image_of (length s) ts

-- Of a call that the tests 3 to 9 pass, on a session that is not halted.
pub record Symbolic (rule : List ℕ) (allowance : ℕ) (x : Session) (s : List ℕ) : Type 0 where
  pub result : first_failed rule allowance x s ≡ 0 → x.halted ≡ false → {ts : List Term} {r : Result} {d : ℕ} → ruling rule allowance x s ≡ gave ts r d → Leaves rule allowance x s ts r d
  pub refusal : first_failed rule allowance x s ≡ 0 → x.halted ≡ false → {n : ℕ} → ruling rule allowance x s ≡ refused n
      → evaluate_of rule allowance x s ≡ (record { answer = Refused n; session = x }, s)

-- ---- the concrete rules

-- the number of the first of the tests 2, 13 and 4 to 8 that fails; 0 where all pass
unfoldable pub plain_failed : List Input → List ℕ → List ℕ → ℕ → ℕ
plain_failed xs numbers rule allowance =
    unless every input_taken xs then bad_input else
    unless numbers_taken xs numbers then bad_number else
    with (rule_refusal_of rule) λ k. if 0 below k then k else
    when bad_depth allowance then bad_allowance else
    0

-- "The inputs take 16 places first, then each let and each call of a procedure takes one as it binds": how many the concrete run needs until it ends
abbrev pub places_needed : List Input → List ℕ → List ℕ → ℕ → ℕ
places_needed xs numbers rule allowance = input_count + bindings_made rule allowance 0 (inputs_bound xs numbers)

-- Of a plain run of a rule on sixteen inputs under sixteen numbers. "On every return the store is zero."
pub record Concrete (xs : List Input) (numbers rule : List ℕ) (allowance : ℕ) (store : List ℕ) : Type 0 where
  pub refused_by_lem : (n : ℕ) → plain_failed xs numbers rule allowance ≡ n → 0 < n → run_plainly_of xs numbers rule allowance store ≡ (NoOutcome n, replicate (length store) 0)
  -- "what the paper's concrete rules give, while its store lasts"
  pub lasts : plain_failed xs numbers rule allowance ≡ 0 → places_needed xs numbers rule allowance ≤ places_in (length store)
      → run_plainly_of xs numbers rule allowance store ≡ (ended_outcome (run_of rule allowance 0 (inputs_bound xs numbers)), replicate (length store) 0)
  -- "16 is given when a place is needed and none is left":
  pub full : plain_failed xs numbers rule allowance ≡ 0 → places_in (length store) < places_needed xs numbers rule allowance
      → run_plainly_of xs numbers rule allowance store ≡ (NoOutcome store_full, replicate (length store) 0)
  -- and only then
  pub full_only : plain_failed xs numbers rule allowance ≡ 0 → (run_plainly_of xs numbers rule allowance store).0 ≡ NoOutcome store_full
      → places_in (length store) < places_needed xs numbers rule allowance
  -- the run ends with no bindings and meets no place that is missing
  pub value : plain_failed xs numbers rule allowance ≡ 0 → (run_plainly_of xs numbers rule allowance store).0 ≡ NoOutcome no_value → ⊥

-- ---- both halves
pub record Demand2 : Type 0 where
  pub symbolic : (rule : List ℕ) (allowance : ℕ) (x : Session) (s : List ℕ) → Symbolic rule allowance x s
  pub concrete : (xs : List Input) (numbers rule : List ℕ) (allowance : ℕ) (store : List ℕ) → length xs ≡ input_count → length numbers ≡ input_count → Concrete xs numbers rule allowance store
