-- Demand 3, in one piece: "For every list of evaluations from an accepted opening, refused ones included, only what the papers refuse is refused; for
-- all values of the free inputs, the last accepted rule's result, read under them, is what running the accepted rules in turn gives, each within its
-- reported depth; S and T are never both false; no such run spends its depth; with constant inputs a further rule that no other number refuses is
-- refused for depth exactly when the run spends that depth." It is said of `open_of`, `evaluate_of` and `read_of`, which the operations are proved equal
-- to, on bytes. Assumes nothing.
use Rattle.std.specs.Prelude.{◌≡◌, Bool, true, ◌||◌, List, ℕ, ◌<◌, ◌≤◌, ltb, length, replicate}
use Rattle.notation.specs.Notation.{every}
use Rattle.semantics.specs.declared.Input.{Input}
use Rattle.semantics.specs.declared.Outcome.TheVariants.{Refused as NoOutcome}
use Rattle.semantics.specs.declared.Answer.{Answer}
use Rattle.semantics.specs.declared.Answer.TheVariants.{Refused}
use Rattle.semantics.specs.Numbers.{free_truth, input_count, misfit, depth_spent}
use Rattle.semantics.specs.Terms.{terms_in}
use Rattle.semantics.specs.Opening.{open_of}
use Rattle.semantics.specs.Evaluate.{evaluate_of}
use Rattle.semantics.specs.Reading.{is_true, nth, readings, numbers_taken, read_of}
use Rattle.semantics.specs.Run.{spends, inputs_bound}
use Rattle.semantics.specs.PlainRun.{ended_outcome}
use Rattle.semantics.specs.History.{Call, History, begun, called, called_all, ran_on, run_of_rules}
use Rattle.demands.specs.Demand1.{Demand1}

-- what a further call answers
abbrev pub answer_to : History → Call → Answer
answer_to h k = (evaluate_of k.rule k.allowance h.session h.table).0.answer

-- whether one of the session's formulas is read as true
abbrev pub one_true : History → List ℕ → Bool
one_true h numbers =
    is_true (nth (readings numbers (terms_in h.table h.session.count)) h.session.state.assumed)
    || is_true (nth (readings numbers (terms_in h.table h.session.count)) h.session.state.asserted)

-- no input is free
abbrev pub all_constants : List Input → Bool
all_constants xs = every (λ x. ltb x.kind free_truth) xs

-- Of the history h that a list of calls left, from an opening with the inputs xs.
pub record Stands (xs : List Input) (h : History) : Type 0 where
  -- "only what the papers refuse is refused": a further call keeps demand 1,
  pub further : (k : Call) → Demand1 k.rule k.allowance h.session h.table
  -- and it is not refused by 3: the session and the table that the list left fit
  pub taken : (k : Call) → answer_to h k ≡ Refused misfit → ⊥
  -- a refused call is no step: session, table, accepted rules and last result stay
  pub untouched : (k : Call) (n : ℕ) → answer_to h k ≡ Refused n → called h k ≡ h
  -- "for all values of the free inputs, the last accepted rule's result, read under them, is what running the accepted rules in turn gives, each within
  -- its reported depth"; "With no rule accepted there is no result to read."
  pub reads : 0 < length h.rules → (numbers work : List ℕ) → length numbers ≡ input_count → numbers_taken xs numbers ≡ true → h.session.count ≤ length work
      → read_of h.session h.table numbers h.result work ≡ (ended_outcome (run_of_rules xs numbers h.rules), replicate (length work) 0)
  -- it is a value, an abort or an error: no refusal, and not what is no value
  pub answered : (numbers : List ℕ) → length numbers ≡ input_count → (n : ℕ) → ended_outcome (run_of_rules xs numbers h.rules) ≡ NoOutcome n → ⊥
  -- "S and T are never both false"
  pub legal : (numbers : List ℕ) → length numbers ≡ input_count → numbers_taken xs numbers ≡ true → one_true h numbers ≡ true
  -- "no such run spends its depth"
  pub unspent : (numbers : List ℕ) → length numbers ≡ input_count → run_of_rules xs numbers h.rules ≡ spends → ⊥
  -- "with constant inputs a further rule that no other number refuses is refused for depth [...] when the run spends that depth": the run goes on
  -- with it from where the accepted rules left it, at its allowance
  pub refused_deep : all_constants xs ≡ true → (k : Call) → ((n : ℕ) → answer_to h k ≡ Refused n → n ≡ depth_spent) → (numbers : List ℕ) → length numbers ≡ input_count
      → ran_on (inputs_bound xs numbers) (run_of_rules xs numbers h.rules) k.rule k.allowance ≡ spends → answer_to h k ≡ Refused depth_spent
  -- and only then: "exactly when"
  pub runs_deep : all_constants xs ≡ true → (k : Call) → answer_to h k ≡ Refused depth_spent → (numbers : List ℕ) → length numbers ≡ input_count
      → ran_on (inputs_bound xs numbers) (run_of_rules xs numbers h.rules) k.rule k.allowance ≡ spends

-- "For every list of evaluations from an accepted opening, refused ones included": of any rule bytes and any allowances, each given the session and
-- table as the opening or the call before left them
abbrev pub Demand3 : Type 0
Demand3 = (xs : List Input) (table : List ℕ) → length xs ≡ input_count → (open_of xs table).0.refusal ≡ 0 → (calls : List Call) → Stands xs (called_all (begun (open_of xs table)) calls)
