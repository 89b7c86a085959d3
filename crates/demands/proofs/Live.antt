-- The invariant of a list of calls under sixteen numbers: what is read of the last result is what the run of the accepted rules gives. A call keeps
-- it, whatever it answers. Assumes nothing.
use mathlib.Core.Path.{◌≡◌, refl, sym, ap, subst, ◌∙◌}
use mathlib.Core.Bool.{Bool, true, false}
use mathlib.Core.List.{List, [], ◌∷◌, ◌++◌}
use Prim.Native.Nat.{ℕ, suc, ◌<◌, ◌≤◌}
use native.Mathlib.Omega.{arith}
use lib.ListN.{length}
use lib.Dec.{ltb}
use borrow.Author.Tests.{ltb-true}
use Rattle.notation.specs.Notation.{pick, when◌then◌else◌, every}
use Rattle.semantics.specs.declared.Term.{Term}
use Rattle.semantics.specs.declared.Input.{Input}
use Rattle.semantics.specs.declared.Result.{Result}
use Rattle.semantics.specs.declared.Session.{Session}
use Rattle.semantics.specs.declared.Answer.TheVariants.{Out, Halt}
use Rattle.semantics.specs.declared.Evaluated.{Evaluated}
use Rattle.semantics.specs.Numbers.{input_count, true_number, free_truth, most_table}
use Rattle.semantics.specs.Terms.{image_of}
use Rattle.semantics.specs.Steps.{setting_of, Got, gave, refused}
use Rattle.semantics.specs.States.{state_of, out_of, halt_of}
use Rattle.semantics.specs.Opening.{bad_table_size, input_taken, opening, session_of}
use Rattle.semantics.specs.Evaluation.{eval_of}
use Rattle.semantics.specs.Answers.{answer_of, result_in}
use Rattle.semantics.specs.Evaluate.{advanced, refused_by, halted_again, left, evaluated, evaluate_of}
use Rattle.semantics.specs.Run.{Value, Ended, gives, inputs_bound}
use Rattle.semantics.specs.History.{Call, Accepted, History, accepted_after, called, ran_on, ran_all, run_of_rules}
use Rattle.typing.proofs.Formed.{never, by_test}
use Rattle.typing.proofs.Does.{Fit}
use Rattle.typing.proofs.Later.{fit_later}
use Rattle.typing.proofs.Ruled.{ruled}
use Rattle.soundness.proofs.Constants.{Const}
use Rattle.soundness.proofs.Held.{MeansBindings, bindings_step}
use Rattle.soundness.proofs.Sim.{ends, on_off, Sim, sim_out, sim_halt, sim_as}
use Rattle.soundness.proofs.Outcomes.{starts}
use Rattle.soundness.proofs.Onward.{ran_on_lem, halted_on}
use Rattle.soundness.proofs.Begun.{opening_means}
use Rattle.soundness.proofs.Inputs.{EachIn, opening_constant}
use Rattle.demands.specs.Demand1.{first_failed}
use Rattle.demands.specs.Demand3.{all_constants}
use Rattle.demands.proofs.Longer.{none, adds_on, eval_adds}
use Rattle.demands.proofs.Answers.{Answered, failed, again, goes, answered, Passed, passed}
use Rattle.demands.proofs.Holds.{begun, Holds, holds_length, holds_terms}

-- ---- one rule more
pub ran_more : (inputs : Value) (o : Ended) (rs : List Accepted) (k : Accepted) → ran_all inputs o (rs ++ (k ∷ [])) ≡ ran_on inputs (ran_all inputs o rs) k.rule k.depth
unfolding ran_all
ran_more inputs o [] k = refl
ran_more inputs o (r ∷ rs) k = ran_more inputs (ran_on inputs o r.rule r.depth) rs k

rules_more : (xs : List Input) (ns : List ℕ) (rs : List Accepted) (k : Accepted)
    → run_of_rules xs ns (rs ++ (k ∷ [])) ≡ ran_on (inputs_bound xs ns) (run_of_rules xs ns rs) k.rule k.depth
unfolding run_of_rules
rules_more xs ns rs k = ran_more (inputs_bound xs ns) _ rs k

-- ---- the result that an accepted rule's answer holds
module _ (w : Result) (u : ℕ) (q : Result) where
  answered_state : (result_in (answer_of w u) q).state ≡ w.state
  unfolding when◌then◌else◌
  answered_state = go w.halted
    where
      go : (b : Bool) → (result_in (pick b (Halt w.state u) (Out w.state w.value u)) q).state ≡ w.state
      go true = refl
      go false = refl

  answered_halted : (result_in (answer_of w u) q).halted ≡ w.halted
  unfolding when◌then◌else◌
  answered_halted = go w.halted refl
    where
      go : (b : Bool) → w.halted ≡ b → (result_in (pick b (Halt w.state u) (Out w.state w.value u)) q).halted ≡ w.halted
      go true e = sym e
      go false e = sym e

  -- a halt's value is not read
  answered_sim : {ns : List ℕ} {n : ℕ} {us : List Term} {o : Ended} → Fit n us → Sim ns (ends o) us w → Sim ns (ends o) us (result_in (answer_of w u) q)
  unfolding when◌then◌else◌
  answered_sim {ns} {n} {us} {o} f h = go w.halted refl
    where
      go : (b : Bool) → w.halted ≡ b → Sim ns (ends o) us (result_in (pick b (Halt w.state u) (Out w.state w.value u)) q)
      go true e =
          let d = h.dead e in sim_halt f h.state d (λ v. on_off h.s h.t (gives v) (gives h.v) d ∙ h.sees)
      go false e = sim_out h.state h.value (h.live e) h.sees

accepted_one : (rs : List Accepted) (k : Call) (w : Result) (u : ℕ) → accepted_after rs k (answer_of w u) ≡ rs ++ (record { rule = k.rule; depth = u } ∷ [])
unfolding when◌then◌else◌
accepted_one rs k w u = go w.halted
  where
    go : (b : Bool) → accepted_after rs k (pick b (Halt w.state u) (Out w.state w.value u)) ≡ rs ++ (record { rule = k.rule; depth = u } ∷ [])
    go true = refl
    go false = refl

-- ---- the history after a call, by its answer
module _ (h : History) (k : Call) where
  abbrev pub answer : Evaluated × List ℕ
  answer = evaluate_of k.rule k.allowance h.session h.table

  pub called_refused : (n : ℕ) → answer ≡ refused_by n h.session h.table → called h k ≡ h
  unfolding called refused_by
  called_refused n e = rw e

  called_again : answer ≡ halted_again h.session h.table → called h k ≡ record {
    session = advanced h.session h.session.count (halt_of h.session.state);
    table = h.table;
    rules = h.rules ++ (record { rule = k.rule; depth = 1 } ∷ []);
    result = halt_of h.session.state;
  }
  unfolding called halted_again
  called_again e = rw e

  called_out : (us : List Term) (w : Result) (u : ℕ) → answer ≡ left h.session h.table (gave us w u) → called h k ≡ record {
    session = advanced h.session (length us) w;
    table = image_of (length h.table) us;
    rules = h.rules ++ (record { rule = k.rule; depth = u } ∷ []);
    result = result_in (answer_of w u) h.result;
  }
  unfolding called
  called_out us w u e = rw (e, ← accepted_one h.rules k w u)

more_rules : (rs : List Accepted) (k : Accepted) → 0 < length (rs ++ (k ∷ []))
more_rules [] k = omega arith
more_rules (r ∷ rs) k = omega arith

constants_each : (i : ℕ) (xs : List Input) → all_constants xs ≡ true → EachIn (λ j x. x.kind < free_truth) i xs
unfolding every when◌then◌else◌
constants_each i [] h = tt
constants_each i (x ∷ xs) h =
    by_test (ltb x.kind free_truth) (all_constants xs) false h (λ p q. (ltb-true _ _ p, constants_each (suc i) xs q)) (λ p q. never q)

module _ (xs : List Input) (sixteen : length xs ≡ input_count) (good : every input_taken xs ≡ true) (l : ℕ) (size : bad_table_size l ≡ false) (ns : List ℕ) (many : input_count ≤ length ns) where
  pub record Live (h : History) : Type 0 where
    pub terms : List Term
    pub read : Result
    pub holds : Holds xs l h.session h.table terms
    pub environment : MeansBindings ns (inputs_bound xs ns) terms (opening xs).environment
    pub sim : Sim ns (ends (run_of_rules xs ns h.rules)) terms read
    pub state : read.state ≡ h.session.state
    pub halts : read.halted ≡ h.session.halted
    pub last : 0 < length h.rules → read ≡ h.result
    pub constant : all_constants xs ≡ true → Const terms

  -- both formulas start true
  pub live_begun : (q : Result) → Live (record { session = session_of xs (length (opening xs).terms); table = image_of l (opening xs).terms; rules = []; result = q })
  unfolding run_of_rules ran_all
  live_begun q =
      let b = begun xs sixteen in let o = opening_means {n = 0} ns xs sixteen many b.gives in
      let s = starts {ns = ns} o.fit in
      record {
        terms = (opening xs).terms;
        read = out_of (state_of true_number true_number) 0;
        holds = record {
          inputs = refl;
          count = refl;
          table = refl;
          adds = none;
          fit = o.fit;
          state = record { assumed = s.state.S.sort; asserted = s.state.T.sort };
          few = omega arith;
        };
        environment = o.environment;
        sim = s;
        state = refl;
        halts = refl;
        last = λ i. absurd (omega arith);
        constant = λ c. opening_constant xs (constants_each 0 xs c) (setting_of most_table) b.gives;
      }

  module _ (h : History) (live : Live h) (k : Call) where
    abbrev x : Session
    x = h.session

    -- the evaluation, on the terms
    abbrev pub evaluation : Got Result
    evaluation = eval_of k.rule x.accepted k.allowance 0 (opening xs).environment live.read.state (setting_of l) live.terms

    pub evaluated_so : evaluated k.rule k.allowance x h.table ≡ left x h.table evaluation
    unfolding evaluated
    evaluated_so =
        rw (live.holds.inputs, holds_length xs sixteen good l size live.holds, holds_terms xs sixteen good l size live.holds, live.state)

    -- what the call says, and why
    pub data Said : Type 0 where
      test : (n : ℕ) → first_failed k.rule k.allowance x h.table ≡ n → 0 < n → answer h k ≡ refused_by n x h.table → Said
      still : Passed k.rule k.allowance x h.table → x.halted ≡ true → answer h k ≡ halted_again x h.table → Said
      out : Passed k.rule k.allowance x h.table → (us : List Term) (w : Result) (u : ℕ) → evaluation ≡ gave us w u → answer h k ≡ left x h.table (gave us w u) → Said
      stop : Passed k.rule k.allowance x h.table → x.halted ≡ false → (n : ℕ) → evaluation ≡ refused n → answer h k ≡ refused_by n x h.table → Said

    pub said : Said
    said = go _ _ refl refl (answered k.rule k.allowance x h.table)
      where
        by_result : x.halted ≡ false → (g : Got Result) → evaluation ≡ g → first_failed k.rule k.allowance x h.table ≡ 0 → answer h k ≡ left x h.table g → Said
        by_result j (gave us w u) e z q = out (passed _ _ _ _ z) us w u e q
        by_result j (refused n) e z q = stop (passed _ _ _ _ z) j n e q

        go : (n : ℕ) (o : Evaluated × List ℕ) → first_failed k.rule k.allowance x h.table ≡ n → answer h k ≡ o → Answered k.rule k.allowance x h.table n o → Said
        go n o z e (failed i q) = test n z i (e ∙ q)
        go n o z e (again i j q) = still (passed _ _ _ _ (z ∙ i)) j (e ∙ q)
        go n o z e (goes i j q) = by_result j evaluation refl (z ∙ i) (e ∙ (q ∙ evaluated_so))

    module _ (p : Passed k.rule k.allowance x h.table) where
      live_out : {us : List Term} {w : Result} {u : ℕ} → evaluation ≡ gave us w u → Live (record {
        session = advanced x (length us) w;
        table = image_of (length h.table) us;
        rules = h.rules ++ (record { rule = k.rule; depth = u } ∷ []);
        result = result_in (answer_of w u) h.result;
      })
      live_out {us} {w} {u} e =
          let d = ran_on_lem xs sixteen many k.rule p.rule_taken (ruled k.rule p.rule_taken) live.sim x.accepted (opening xs).environment
          (fit_later live.holds.fit) live.environment l k.allowance e in
          let c = p.few in
          record {
            terms = us;
            read = result_in (answer_of w u) h.result;
            holds = record {
              inputs = live.holds.inputs;
              count = refl;
              table = ap (λ m. image_of m us) (holds_length xs sixteen good l size live.holds);
              adds = adds_on live.holds.adds (eval_adds k.rule x.accepted k.allowance 0 (opening xs).environment live.read.state _ live.terms e);
              fit = d.step.fit;
              state = record { assumed = d.holds.state.S.sort; asserted = d.holds.state.T.sort };
              few = omega arith;
            };
            environment = bindings_step d.step live.environment;
            sim = answered_sim w u h.result d.step.fit (sim_as (ap ends (sym (rules_more xs ns h.rules (record { rule = k.rule; depth = u })))) d.holds);
            state = answered_state w u h.result;
            halts = answered_halted w u h.result;
            last = λ i. refl;
            constant = λ i. d.step.keeps (live.constant i);
          }

      live_again : x.halted ≡ true → Live (record {
        session = advanced x x.count (halt_of x.state);
        table = h.table;
        rules = h.rules ++ (record { rule = k.rule; depth = 1 } ∷ []);
        result = halt_of x.state;
      })
      live_again e =
          let c = p.few in
          let i : halt_of live.read.state ≡ halt_of x.state = ap halt_of live.state in
          let s = halted_on xs sixteen many k.rule p.rule_taken (ruled k.rule p.rule_taken) live.sim 1 live.holds.fit (live.halts ∙ e) in
          record {
            terms = live.terms;
            read = halt_of x.state;
            holds = record {
              inputs = live.holds.inputs;
              count = live.holds.count;
              table = live.holds.table;
              adds = live.holds.adds;
              fit = fit_later live.holds.fit;
              state = live.holds.state;
              few = omega arith;
            };
            environment = live.environment;
            sim = subst (λ q. Sim ns (ends (run_of_rules xs ns (h.rules ++ (record { rule = k.rule; depth = 1 } ∷ [])))) live.terms q) i
                (sim_as (ap ends (sym (rules_more xs ns h.rules (record { rule = k.rule; depth = 1 })))) s);
            state = refl;
            halts = refl;
            last = λ i. refl;
            constant = live.constant;
          }

    -- A call keeps it.
    pub live_called : Live (called h k)
    live_called = go said
      where
        go : Said → Live (called h k)
        go (test n z i q) = subst Live (sym (called_refused h k n q)) live
        go (still p j q) = subst Live (sym (called_again h k q)) (live_again p j)
        go (out p us w u e q) = subst Live (sym (called_out h k us w u q)) (live_out p e)
        go (stop p j n e q) = subst Live (sym (called_refused h k n q)) live
