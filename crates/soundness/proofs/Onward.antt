-- One rule more: if what is read of the last result is what the run of the rules before gave, then what is read of the next one is what the run
-- goes on to give; a halted session stays as it was. Assumes nothing.
use mathlib.Core.Path.{◌≡◌, refl, sym, ap, ◌∙◌}
use mathlib.Core.Bool.{Bool, true, false, ◌&&◌}
use mathlib.Core.List.{List, [], ◌∷◌}
use Prim.Native.Nat.{ℕ, suc, ◌+◌, ◌≤◌}
use native.Mathlib.Omega.{arith}
use lib.ListN.{length}
use lib.Dec.{eqb}
use Rattle.notation.specs.Notation.{pick, if◌equals◌then◌else◌}
use Rattle.semantics.specs.declared.Term.{Term}
use Rattle.semantics.specs.declared.Input.{Input}
use Rattle.semantics.specs.declared.Result.{Result}
use Rattle.semantics.specs.Numbers.{input_count, depth_spent, constant_truth, constant_word, free_truth}
use Rattle.semantics.specs.Records.{records_in}
use Rattle.semantics.specs.Rules.{in_scope_at, rule_refusal_of}
use Rattle.semantics.specs.Steps.{setting_of, gave, refused}
use Rattle.semantics.specs.States.{halt_of}
use Rattle.semantics.specs.Evaluation.{eval_of}
use Rattle.semantics.specs.Run.{Value, truth, word, Ended, gives, aborts, errs, spends, after, run_of, input_value, inputs_bound}
use Rattle.semantics.specs.History.{ran_on}
use Rattle.semantics.proofs.Scopes.{root_scope}
use Rattle.typing.proofs.Formed.{never}
use Rattle.typing.proofs.Does.{Fit}
use Rattle.typing.proofs.Ruled.{tested, Ruled}
use Rattle.depth.proofs.Depth.{depth_enough}
use Rattle.soundness.proofs.Means.{is_proper}
use Rattle.soundness.proofs.Constants.{Const}
use Rattle.soundness.proofs.Held.{MeansBindings}
use Rattle.soundness.proofs.Sim.{ends, on, after_seen, on_after, on_off, on_live, ends_same, total_of, Sim, sim_halt, sim_as}
use Rattle.soundness.proofs.Readout.{Done, evaluation_at, evaluation_spent}
use Rattle.soundness.proofs.Scope.{bound, Good, GoodValue, GoodEnd, Agree, run_agrees}
use Rattle.soundness.proofs.Scoping.{scoped}

-- ---- the inputs are truths and words, sixteen of them
module _ (rule : List ℕ) (n : ℕ) (need : ℕ → ℕ) where
  input_good : (x : Input) (k : ℕ) → GoodValue rule n need (input_value x k)
  unfolding input_value if◌equals◌then◌else◌
  input_good x k = go (eqb x.kind constant_truth) (eqb x.kind constant_word) (eqb x.kind free_truth)
    where
      go : (a b c : Bool) → GoodValue rule n need (pick a (truth (eqb x.value 1)) (pick b (word x.value) (pick c (truth (eqb k 1)) (word k))))
      go true b c = record { proper = refl; good = tt }
      go false true c = record { proper = refl; good = tt }
      go false false true = record { proper = refl; good = tt }
      go false false false = record { proper = refl; good = tt }

  inputs_good : (xs : List Input) (ns : List ℕ) → Good rule n need (inputs_bound xs ns)
  unfolding inputs_bound
  inputs_good [] ns = tt
  inputs_good (x ∷ xs) [] = tt
  inputs_good (x ∷ xs) (k ∷ ns) = let v = input_good x k in (v.proper, v.good, inputs_good xs ns)

inputs_bound_lem : (xs : List Input) (ns : List ℕ) → length xs ≤ length ns → bound (inputs_bound xs ns) ≡ length xs
unfolding inputs_bound
inputs_bound_lem [] ns h = refl
inputs_bound_lem (x ∷ xs) [] h = absurd (omega arith)
inputs_bound_lem (x ∷ xs) (k ∷ ns) h = ap suc (inputs_bound_lem xs ns (omega arith))

-- a rule that passes the tests, run from the inputs
module _ (s : List ℕ) (h : rule_refusal_of s ≡ 0) (xs : List Input) (ns : List ℕ) (l : length xs ≡ input_count) (m : input_count ≤ length ns) (d : ℕ) where
  rule_agrees : Agree s (records_in s) (in_scope_at s) (total_of s d 0 (inputs_bound xs ns)) (run_of s d 0 (inputs_bound xs ns))
  rule_agrees =
      let z = root_scope s in let b = inputs_bound_lem xs ns (omega arith) in
      run_agrees s (records_in s) (in_scope_at s) (scoped s h) d 0 (inputs_bound xs ns) (tested s h).some (omega arith) (inputs_good s (records_in s) (in_scope_at s) xs ns)

  -- It runs as the concrete run does,
  pub rule_runs : total_of s d 0 (inputs_bound xs ns) ≡ run_of s d 0 (inputs_bound xs ns)
  rule_runs = rule_agrees.same

  -- and gives values alone.
  pub rule_proper : (v : Value) → run_of s d 0 (inputs_bound xs ns) ≡ gives v → is_proper v ≡ true
  rule_proper v e = go _ rule_agrees.good e
    where
      go : (o : Ended) → GoodEnd s (records_in s) (in_scope_at s) o → o ≡ gives v → is_proper v ≡ true
      go (gives w) g q = let i : w ≡ v = cc in ap is_proper (sym i) ∙ g.proper
      go aborts g q = let n : ◌≡◌ {A = ℕ} 0 1 = cc in absurd (omega arith)
      go errs g q = let n : ◌≡◌ {A = ℕ} 0 1 = cc in absurd (omega arith)
      go spends g q = let n : ◌≡◌ {A = ℕ} 0 1 = cc in absurd (omega arith)

-- ---- the run so far
stopped : (s t : Bool) (v : Value) (o : Ended) → (s && t) ≡ false → on s t (gives v) ≡ ends o → (K : Value → Ended) → after o K ≡ o
unfolding after
stopped true true v o d e K = never (sym d)
stopped true false v o d e K = let i : errs ≡ o = ends_same e in rw (sym i)
stopped false true v o d e K = let i : aborts ≡ o = ends_same e in rw (sym i)
stopped false false v o d e K = let z : ◌≡◌ {A = ℕ} 0 1 = cc in absurd (omega arith)

goes_on : (s t : Bool) (v : Value) (o p : Ended) → on s t (gives v) ≡ ends o → on s t p ≡ ends (after o (λ _. p))
unfolding after
goes_on s t v o p e = sym (on_after s t (gives v) (λ _. p)) ∙ ap (λ u. after_seen u (λ _. p)) e

module _ {ns : List ℕ} (xs : List Input) (l : length xs ≡ input_count) (m : input_count ≤ length ns) (rule : List ℕ) (h : rule_refusal_of rule ≡ 0) (ruled : Ruled rule)
    {ts : List Term} {r : Result} {o : Ended} (sim : Sim ns (ends o) ts r) where
  -- a halted session answers the same halt
  pub halted_on : {n : ℕ} (d : ℕ) → Fit n ts → r.halted ≡ true → Sim ns (ends (ran_on (inputs_bound xs ns) o rule d)) ts (halt_of r.state)
  unfolding ran_on
  halted_on d f q =
      let k = sim.dead q in
      sim_halt f sim.state k (λ w. on_off sim.s sim.t (gives w) (gives sim.v) k ∙
      (sim.sees ∙ ap ends (sym (stopped sim.s sim.t sim.v o k sim.sees (λ _. run_of rule d 0 (inputs_bound xs ns))))))

  module _ (b e : ℕ) (f : Fit (b + 1) ts) (env : MeansBindings ns (inputs_bound xs ns) ts e) (size : ℕ) where
    -- a rule that is evaluated: its result reads as the run goes on at the allowance,
    pub ran_at : (d : ℕ) {us : List Term} {w : Result} {u : ℕ} → eval_of rule b d 0 e r.state (setting_of size) ts ≡ gave us w u
        → Done (b + 1) ts (Sim ns (ends (ran_on (inputs_bound xs ns) o rule d))) us w
    unfolding ran_on
    ran_at d q =
        let x = evaluation_at ruled b size 0 e f env sim.state d q in
        record {
          step = x.step;
          holds = sim_as (ap (on sim.s sim.t) (rule_runs rule h xs ns l m d) ∙ goes_on sim.s sim.t sim.v o (run_of rule d 0 (inputs_bound xs ns)) sim.sees) x.holds;
        }

    -- and at the reported depth
    pub ran_on_lem : (d : ℕ) {us : List Term} {w : Result} {u : ℕ} → eval_of rule b d 0 e r.state (setting_of size) ts ≡ gave us w u
        → Done (b + 1) ts (Sim ns (ends (ran_on (inputs_bound xs ns) o rule u))) us w
    ran_on_lem d {u = u} q = ran_at u (depth_enough rule b 0 e r.state (setting_of size) ts d q)

    -- With constants alone, a refusal for depth is exact: the run with that depth spends it.
    pub ran_out : (d : ℕ) → r.halted ≡ false → Const ts → eval_of rule b d 0 e r.state (setting_of size) ts ≡ refused depth_spent → ran_on (inputs_bound xs ns) o rule d ≡ spends
    unfolding ran_on
    ran_out d q c z =
        let k = sim.live q c in
        let i : run_of rule d 0 (inputs_bound xs ns) ≡ spends = sym (rule_runs rule h xs ns l m d) ∙ evaluation_spent ruled b size 0 e f env sim.state d z c k in
        ends_same (sym (goes_on sim.s sim.t sim.v o (run_of rule d 0 (inputs_bound xs ns)) sim.sees) ∙ (on_live sim.s sim.t (run_of rule d 0 (inputs_bound xs ns)) k ∙ ap ends i))
