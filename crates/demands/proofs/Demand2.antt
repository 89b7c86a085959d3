-- DEMAND 2: evaluate leaves what the symbolic rules give, and a plain run what the concrete rules give while its store lasts. Assumes nothing.
use mathlib.Core.Path.{◌≡◌, refl, sym, ap, ◌∙◌}
use mathlib.Core.Bool.{Bool, true, false}
use mathlib.Core.List.{List}
use Prim.Native.Nat.{ℕ, ◌<◌, ◌≤◌}
use native.Mathlib.Omega.{arith}
use lib.Dec.{ltb}
use lib.ListN.{length, replicate}
use borrow.Author.Tests.{ltb-true, ltb-false}
use Rattle.notation.specs.Notation.{pick, with, when◌then◌else◌, if◌below◌then◌else◌, unless◌then◌else◌, every}
use Rattle.semantics.specs.declared.Term.{Term}
use Rattle.semantics.specs.declared.Input.{Input}
use Rattle.semantics.specs.declared.Result.{Result}
use Rattle.semantics.specs.declared.Session.{Session}
use Rattle.semantics.specs.declared.Outcome.{Outcome}
use Rattle.semantics.specs.declared.Outcome.TheVariants.{Refused}
use Rattle.semantics.specs.Numbers.{input_count, bad_input, bad_number, bad_allowance, depth_spent, store_full, no_value}
use Rattle.semantics.specs.Rules.{rule_refusal_of}
use Rattle.semantics.specs.Terms.{terms_in}
use Rattle.semantics.specs.Steps.{gave, refused}
use Rattle.semantics.specs.Opening.{input_taken}
use Rattle.semantics.specs.Evaluate.{refused_by, left, bad_depth, evaluate_of}
use Rattle.semantics.specs.Reading.{numbers_taken}
use Rattle.semantics.specs.Run.{Value, truth, word, procedure, binding, none, Ended, gives, aborts, errs, spends, run_of, inputs_bound}
use Rattle.semantics.specs.PlainRun.{Stored, full, started_of, value_given, ended_outcome, stored_outcome, places_in, stopped_by, run_outcome, run_plainly_of}
use Rattle.semantics.proofs.Lasting.{Lasts, lasted, over, started_lasts}
use Rattle.typing.proofs.Formed.{never}
use Rattle.soundness.proofs.Means.{is_proper}
use Rattle.soundness.proofs.Onward.{rule_proper}
use Rattle.demands.specs.Demand1.{first_failed, ruling}
use Rattle.demands.specs.Demand2.{Leaves, Symbolic, plain_failed, places_needed, Concrete, Demand2}
use Rattle.demands.proofs.Stored.{stored_terms}
use Rattle.demands.proofs.Ruling.{first_fits, ruled_room, goes_at}

-- ---- the symbolic rules
module _ (rule : List ℕ) (allowance : ℕ) (x : Session) (s : List ℕ) (z : first_failed rule allowance x s ≡ 0) (h : x.halted ≡ false) where
  leaves : {ts : List Term} {r : Result} {d : ℕ} → ruling rule allowance x s ≡ gave ts r d → Leaves rule allowance x s ts r d
  leaves {ts} {r} {d} e =
      let w = goes_at rule x s allowance z h ∙ ap (left x s) e in
      record {
        answer = ap (λ o. o.0.answer) w;
        session = ap (λ o. o.0.session) w;
        terms = ap (λ o. terms_of o.1) w ∙ stored_terms (length s) ts (ruled_room rule allowance x s e (first_fits rule allowance x s z));
        table = ap (λ o. o.1) w;
      }
    where
      terms_of : List ℕ → List Term
      terms_of t = terms_in t (length ts)

  stops : {n : ℕ} → ruling rule allowance x s ≡ refused n → evaluate_of rule allowance x s ≡ refused_by n x s
  unfolding refused_by
  stops e = goes_at rule x s allowance z h ∙ ap (left x s) e

symbolic : (rule : List ℕ) (allowance : ℕ) (x : Session) (s : List ℕ) → Symbolic rule allowance x s
unfolding refused_by
symbolic rule allowance x s = record { result = λ z h e. leaves rule allowance x s z h e; refusal = λ z h e. stops rule allowance x s z h e }

-- ---- the concrete rules

refusal_same : {n m : ℕ} → ◌≡◌ {A = Outcome} (Refused n) (Refused m) → n ≡ m
refusal_same e = cc

-- the concrete run never ends with 16,
ended_full : (o : Ended) → ended_outcome o ≡ Refused store_full → ⊥
unfolding ended_outcome value_given
ended_full (gives (truth b)) e = let z : ◌≡◌ {A = ℕ} 0 1 = cc in omega arith
ended_full (gives (word w)) e = let z : ◌≡◌ {A = ℕ} 0 1 = cc in omega arith
ended_full (gives (procedure i v)) e = let z : ◌≡◌ {A = ℕ} 0 1 = cc in omega arith
ended_full (gives (binding v w)) e = let z : no_value ≡ store_full = refusal_same e in omega arith
ended_full (gives none) e = let z : no_value ≡ store_full = refusal_same e in omega arith
ended_full aborts e = let z : ◌≡◌ {A = ℕ} 0 1 = cc in omega arith
ended_full errs e = let z : ◌≡◌ {A = ℕ} 0 1 = cc in omega arith
ended_full spends e = let z : depth_spent ≡ store_full = refusal_same e in omega arith

-- and not with what is no value, if it gives values alone
ended_proper : (o : Ended) → ((v : Value) → o ≡ gives v → is_proper v ≡ true) → ended_outcome o ≡ Refused no_value → ⊥
unfolding ended_outcome value_given
ended_proper (gives (truth b)) h e = let z : ◌≡◌ {A = ℕ} 0 1 = cc in omega arith
ended_proper (gives (word w)) h e = let z : ◌≡◌ {A = ℕ} 0 1 = cc in omega arith
ended_proper (gives (procedure i v)) h e = let z : ◌≡◌ {A = ℕ} 0 1 = cc in omega arith
ended_proper (gives (binding v w)) h e = never (h (binding v w) refl)
ended_proper (gives none) h e = never (h none refl)
ended_proper aborts h e = let z : ◌≡◌ {A = ℕ} 0 1 = cc in omega arith
ended_proper errs h e = let z : ◌≡◌ {A = ℕ} 0 1 = cc in omega arith
ended_proper spends h e = let z : depth_spent ≡ no_value = refusal_same e in omega arith

module _ (xs : List Input) (numbers rule : List ℕ) (allowance : ℕ) (store : List ℕ) where
  abbrev run : Ended
  run = run_of rule allowance 0 (inputs_bound xs numbers)

  abbrev places : ℕ
  places = places_in (length store)

  abbrev needed : ℕ
  needed = places_needed xs numbers rule allowance

  -- the answer o, where n is the number of the first test that fails
  data Answered (n : ℕ) (o : Outcome) : Type 0 where
    failed : 0 < n → o ≡ Refused n → Answered n o
    ran : n ≡ 0 → rule_refusal_of rule ≡ 0 → o ≡ stored_outcome (started_of places rule allowance (inputs_bound xs numbers)) → Answered n o

  answered : Answered (plain_failed xs numbers rule allowance) (run_outcome xs numbers rule allowance (length store))
  unfolding plain_failed run_outcome when◌then◌else◌ if◌below◌then◌else◌ unless◌then◌else◌ with
  answered = go (every input_taken xs) (numbers_taken xs numbers) (rule_refusal_of rule) (ltb 0 (rule_refusal_of rule)) (bad_depth allowance) refl refl
    where
      go : (i n : Bool) (k : ℕ) (p b : Bool) → rule_refusal_of rule ≡ k → ltb 0 k ≡ p → Answered (pick i (pick n (pick p k (pick b bad_allowance 0)) bad_number) bad_input)
          (pick {A = Value → Outcome} i (pick n (pick p (stopped_by k) (pick b (stopped_by bad_allowance) (λ e. stored_outcome (started_of places rule allowance e)))) (stopped_by bad_number)) (stopped_by bad_input)
          (inputs_bound xs numbers))
      go false n k p b e q = failed (omega arith) refl
      go true false k p b e q = failed (omega arith) refl
      go true true k true b e q = failed (omega (arith, ltb-true 0 k q)) refl
      go true true k false true e q = failed (omega arith) refl
      go true true k false false e q = ran refl (zero_is (ltb-false 0 k q)) refl
        where
          zero_is : k ≤ 0 → rule_refusal_of rule ≡ 0
          zero_is l = omega arith

  -- the run's answer, by the places that it needs
  lasts_so : (m : Stored) → Lasts places run needed m → needed ≤ places → stored_outcome m ≡ ended_outcome run
  unfolding stored_outcome
  lasts_so m (lasted l) h = refl
  lasts_so m (over l) h = absurd (omega arith)

  full_so : (m : Stored) → Lasts places run needed m → places < needed → stored_outcome m ≡ Refused store_full
  unfolding stored_outcome
  full_so m (lasted l) h = absurd (omega arith)
  full_so m (over l) h = refl

  full_back : (m : Stored) → Lasts places run needed m → stored_outcome m ≡ Refused store_full → places < needed
  unfolding stored_outcome
  full_back m (lasted l) e = absurd (ended_full run e)
  full_back m (over l) e = l

  value_so : (m : Stored) → Lasts places run needed m → ((v : Value) → run ≡ gives v → is_proper v ≡ true) → stored_outcome m ≡ Refused no_value → ⊥
  unfolding stored_outcome
  value_so m (lasted l) h e = ended_proper run h e
  value_so m (over l) h e = let z : store_full ≡ no_value = refusal_same e in omega arith

  started : Lasts places run needed (started_of places rule allowance (inputs_bound xs numbers))
  started = started_lasts places rule allowance (inputs_bound xs numbers)

  abbrev outcome : Outcome
  outcome = run_outcome xs numbers rule allowance (length store)

  record Ran (o : Outcome) : Type 0 where
    taken : rule_refusal_of rule ≡ 0
    is : o ≡ stored_outcome (started_of places rule allowance (inputs_bound xs numbers))

  -- where no test fails
  module _ (z : plain_failed xs numbers rule allowance ≡ 0) where
    has_run : Ran outcome
    has_run = go _ _ z answered
      where
        go : (n : ℕ) (o : Outcome) → n ≡ 0 → Answered n o → Ran o
        go n o z (failed l e) = absurd (omega arith)
        go n o z (ran i t e) = record { taken = t; is = e }

  refused_so : (n : ℕ) → plain_failed xs numbers rule allowance ≡ n → 0 < n → outcome ≡ Refused n
  refused_so n e l = go _ _ e answered
    where
      go : (m : ℕ) (o : Outcome) → m ≡ n → Answered m o → o ≡ Refused n
      go m o e (failed l q) = q ∙ ap Refused e
      go m o e (ran i t q) = absurd (omega arith)

  concrete : length xs ≡ input_count → length numbers ≡ input_count → Concrete xs numbers rule allowance store
  unfolding run_plainly_of
  concrete sixteen many =
      record {
        refused_by_lem = λ n e l. ap zeroed (refused_so n e l);
        lasts = λ z h. ap zeroed ((has_run z).is ∙ lasts_so _ started h);
        full = λ z h. ap zeroed ((has_run z).is ∙ full_so _ started h);
        full_only = λ z e. full_back _ started (sym (has_run z).is ∙ e);
        value = λ z e. value_so _ started (rule_proper rule (has_run z).taken xs numbers sixteen (omega arith) allowance) (sym (has_run z).is ∙ e);
      }
    where
      zeroed : Outcome → Outcome × List ℕ
      zeroed o = (o, replicate (length store) 0)

pub demand_2 : Demand2
demand_2 = record { symbolic = symbolic; concrete = concrete }
