-- Each way out of reading and of running plainly, in the order of the tests. Assumes nothing.
use mathlib.Core.Path.{◌≡◌, ◌∙◌}
use mathlib.Core.Bool.{Bool, true, false}
use mathlib.Core.List.{List}
use Prim.Native.Nat.{ℕ}
use native.Mathlib.Omega.{arith}
use lib.Dec.{eqb, ltb}
use lib.ListN.{length, replicate}
use Rattle.std.specs.Prelude.{⊤, IsErr, IsErrAnd, IfErr}
use Rattle.std.specs.Result.{result_from_control_flow}
use Rattle.std.specs.declared.ops.ControlFlow.{ControlFlow}
use Rattle.std.specs.declared.ops.ControlFlow.TheVariants.{Continue, Break}
use Rattle.std.specs.declared.result.Result.TheVariants.{Ok, Err}
use Rattle.std.specs.declared.result.Result as outcome
use Rattle.std.proofs.lemmas.Result.{err_from_is_err_and}
use Rattle.notation.specs.Notation.{with, when◌then◌else◌, if◌below◌then◌else◌, unless◌then◌else◌, every}
use Rattle.semantics.specs.declared.Input.{Input}
use Rattle.semantics.specs.declared.Result.{Result}
use Rattle.semantics.specs.declared.Session.{Session}
use Rattle.semantics.specs.declared.Outcome.{Outcome}
use Rattle.semantics.specs.declared.Outcome.TheVariants.{Refused}
use Rattle.semantics.specs.declared.refusal.Refusal.{Refusal}
use Rattle.semantics.specs.Refusals.{number_of, answer_number}
use Rattle.semantics.specs.Numbers.{misfit, bad_input, bad_number, bad_result, bad_allowance}
use Rattle.semantics.specs.Terms.{terms_in}
use Rattle.semantics.specs.Rules.{rule_refusal_of}
use Rattle.semantics.specs.Opening.{input_taken}
use Rattle.semantics.specs.Fits.{fits_of}
use Rattle.semantics.specs.Evaluate.{bad_depth}
use Rattle.semantics.specs.Reading.{numbers_taken, result_taken, read_outcome, read_of}
use Rattle.semantics.specs.Run.{inputs_bound}
use Rattle.semantics.specs.PlainRun.{stored_outcome, started_of, places_in, run_outcome, run_plainly_of}
use Rattle.samples.specs.Answers.{outcome_in}
use Rattle.slices.specs.Wiped.{wiped}
use Rattle.slices.proofs.Wiped.{wiped_all}

-- a slice that is wiped from its first place on
pub all_wiped : (s : List ℕ) {y : List ℕ} → y ≡ wiped s 0 → y ≡ replicate (length s) 0
all_wiped s h = h ∙ wiped_all s

-- no refusal has the number 0
pub numbered : (k : Refusal) → eqb (number_of k) 0 ≡ false
numbered k = grind arith

above_zero : (k : Refusal) → ltb 0 (number_of k) ≡ true
above_zero k = grind arith

-- ---- reading
module _ (x : Session) (s numbers : List ℕ) (r : Result) {b : Bool} (eb : b ≡ fits_of x s) where
  pub read_misfit : b ≡ false → (l : ℕ) → read_outcome x s numbers r l ≡ Refused misfit
  unfolding read_outcome unless◌then◌else◌
  read_misfit h l = rw (← eb, h)

  module _ (h : b ≡ true) {d : Bool} (ed : d ≡ numbers_taken x.inputs numbers) where
    pub read_number : d ≡ false → (l : ℕ) → read_outcome x s numbers r l ≡ Refused bad_number
    unfolding read_outcome unless◌then◌else◌
    read_number k l = rw (← eb, h, ← ed, k)

    module _ (k : d ≡ true) {e : Bool} (ee : e ≡ result_taken (terms_in s x.count) r) where
      pub read_badly : e ≡ false → (l : ℕ) → read_outcome x s numbers r l ≡ Refused bad_result
      unfolding read_outcome unless◌then◌else◌
      read_badly m l = rw (← eb, h, ← ed, k, ← ee, m)

      pub read_taken : e ≡ true → (l : ℕ) → read_outcome x s numbers r l ≡ outcome_in s x.count numbers r l
      unfolding read_outcome unless◌then◌else◌ outcome_in
      read_taken m l = rw (← eb, h, ← ed, k, ← ee, m)

pub ruleset reading_tests = (read_misfit, read_number, read_badly, read_taken)

-- what is answered, with the work list
module _ (x : Session) (s numbers : List ℕ) (r : Result) (work : List ℕ) {y : List ℕ} (ey : y ≡ replicate (length work) 0) where
  pub read_as : {o : Outcome} {p : ℕ → Outcome} → ((l : ℕ) → read_outcome x s numbers r l ≡ p l) → o ≡ p (length work) → (o, y) ≡ read_of x s numbers r work
  unfolding read_of
  read_as h eo = rw (eo, ey, h (length work))

-- ---- running plainly
module _ (xs : List Input) (numbers rule : List ℕ) (allowance : ℕ) {b : Bool} (eb : b ≡ every input_taken xs) where
  pub run_input : b ≡ false → (l : ℕ) → run_outcome xs numbers rule allowance l ≡ Refused bad_input
  unfolding run_outcome unless◌then◌else◌ with
  run_input h l = rw (← eb, h)

  module _ (h : b ≡ true) {d : Bool} (ed : d ≡ numbers_taken xs numbers) where
    pub run_number : d ≡ false → (l : ℕ) → run_outcome xs numbers rule allowance l ≡ Refused bad_number
    unfolding run_outcome unless◌then◌else◌ with
    run_number k l = rw (← eb, h, ← ed, k)

    module _ (k : d ≡ true) {q : outcome.Result ⊤ Refusal} (eq : answer_number q ≡ rule_refusal_of rule) where
      rule_refused : (e : Refusal) → q ≡ Err e → (l : ℕ) → run_outcome xs numbers rule allowance l ≡ Refused (number_of e)
      unfolding run_outcome unless◌then◌else◌ with if◌below◌then◌else◌
      rule_refused e i l = let n : number_of e ≡ rule_refusal_of rule = rw i at eq in rw (← eb, h, ← ed, k, ← n, above_zero e)

      module _ {f : ControlFlow _ ⊤} (ef : q ≡ result_from_control_flow f) where
        pub run_rule : {e : _} → f ≡ Break e → (r : outcome.Result ⊤ Refusal) → IsErr r × IsErrAnd r (λ m. m ≡ e.0)
            → IfErr r (λ m. (l : ℕ) → run_outcome xs numbers rule allowance l ≡ Refused (number_of m))
        run_rule {e} i r j = let p = err_from_is_err_and r j.1 in rw (p.1, p.2) (rule_refused e.0 (rw i at ef))

        module _ {o : ⊤} (z : f ≡ Continue o) {e : Bool} (ee : e ≡ bad_depth allowance) where
          none : 0 ≡ rule_refusal_of rule
          none = let i : q ≡ Ok o = rw z at ef in rw i at eq

          pub run_depth : e ≡ true → (l : ℕ) → run_outcome xs numbers rule allowance l ≡ Refused bad_allowance
          unfolding run_outcome unless◌then◌else◌ with if◌below◌then◌else◌ when◌then◌else◌
          run_depth t l = rw (← eb, h, ← ed, k, ← none, ← ee, t)

          pub run_taken : e ≡ false → (l : ℕ) → run_outcome xs numbers rule allowance l ≡ stored_outcome (started_of (places_in l) rule allowance (inputs_bound xs numbers))
          unfolding run_outcome unless◌then◌else◌ with if◌below◌then◌else◌ when◌then◌else◌
          run_taken t l = rw (← eb, h, ← ed, k, ← none, ← ee, t)

pub ruleset run_tests = (run_input, run_number, run_rule, run_depth, run_taken)

-- what is answered, with the store
module _ (xs : List Input) (numbers rule : List ℕ) (allowance : ℕ) (store : List ℕ) {y : List ℕ} (ey : y ≡ replicate (length store) 0) where
  pub run_as : {o : Outcome} {p : ℕ → Outcome} → ((l : ℕ) → run_outcome xs numbers rule allowance l ≡ p l) → o ≡ p (length store) → (o, y) ≡ run_plainly_of xs numbers rule allowance store
  unfolding run_plainly_of
  run_as h eo = rw (eo, ey, h (length store))
