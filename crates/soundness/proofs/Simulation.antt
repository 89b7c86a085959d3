-- The simulation, by induction on the depth: under any numbers, what is read of a result is what the run at the same depth gives. Assumes nothing.
use mathlib.Core.Path.{◌≡◌, refl}
use mathlib.Core.Bool.{Bool, true, false}
use mathlib.Core.List.{List}
use Prim.Native.Nat.{ℕ, zero, suc, ◌+◌}
use native.Mathlib.Omega.{arith}
use lib.Dec.{eqb}
use borrow.Author.Tests.{eqb-true}
use Rattle.notation.specs.Notation.{pick, if◌equals◌then◌else◌}
use Rattle.semantics.specs.declared.Term.{Term}
use Rattle.semantics.specs.declared.State.{State}
use Rattle.semantics.specs.declared.Result.{Result}
use Rattle.semantics.specs.Numbers.{depth_spent}
use Rattle.semantics.specs.Records.{record_at}
use Rattle.semantics.specs.Steps.{Make}
use Rattle.semantics.specs.Evaluation.{Evaluator, expression_of, live_of, eval_of}
use Rattle.semantics.specs.Run.{Value, gives, Running, expression_run, run_by}
use Rattle.typing.proofs.Ruled.{Ruled}
use Rattle.typing.proofs.Does.{does_give, does_refuse, does_read, does_with, does_if, does_up}
use Rattle.soundness.proofs.Sim.{look_of, total_of, spent, Sound, Sims, on_off, place_is, stops_dead, runs_live, sim_halt}
use Rattle.soundness.proofs.Cases.{Entry, datum_sim, variable_sim, procedure_sim, abort_sim, error_sim, operator_sim, let_sim, if_sim}
use Rattle.soundness.proofs.Calling.{call_sim}

-- ---- evaluation and run take the same way at a record's kind
record SoundAt (l n : ℕ) (ns : List ℕ) (ts : List Term) (s t : Bool) (E : Value) (f : Running) (m : Make Result) : Type 0 where
  is : Sound l n ns ts s t (f E) m

sound_eq : {l n : ℕ} {ns : List ℕ} {ts : List Term} {s t : Bool} {E : Value} {f g : Running} {m o : Make Result} (i j : ℕ)
    → (i ≡ j → SoundAt l n ns ts s t E f m) → SoundAt l n ns ts s t E g o → SoundAt l n ns ts s t E (if i equals j then f else g) (if i equals j then m else o)
unfolding if◌equals◌then◌else◌
sound_eq {l} {n} {ns} {ts} {s} {t} {E} {f} {g} {m} {o} i j a b = go (eqb i j) refl
  where
    go : (c : Bool) → eqb i j ≡ c → SoundAt l n ns ts s t E (pick c f g) (pick c m o)
    go true e = a (eqb-true i j e)
    go false e = b

module _ (l b : ℕ) (ns : List ℕ) (rule : List ℕ) (ruled : Ruled rule) where
  module _ (run : Evaluator) (rn : ℕ → Running) (ih : Sims l (b + 1) ns run rn) where
    expression_sim : {ts : List Term} {e : ℕ} {y : State} {s t : Bool} {E : Value} (i : ℕ) → Entry (b + 1) ns ts e y s t E
        → SoundAt l (b + 1) ns ts s t E (expression_run look_of rule rn (record_at rule i) i) (expression_of rule b run (record_at rule i) i e y)
    unfolding expression_of expression_run
    expression_sim {e = e} i entry =
        sound_eq _ _ (λ k. record { is = datum_sim entry _ _ (ruled.datum i k) }) (
        sound_eq _ _ (λ k. record { is = variable_sim entry _ }) (
        sound_eq _ _ (λ k. record { is = procedure_sim entry i b (ruled.procedure i k) (omega arith) }) (
        sound_eq _ _ (λ k. record {
          is = does_read _ _ (does_read _ _
              (call_sim rule ih entry.fit entry.state entry.open_const (place_is (record_at rule i).p e entry.fit entry.env) (place_is (record_at rule i).q e entry.fit entry.env)));
        }) (
        sound_eq _ _ (λ k. record { is = operator_sim entry _ _ _ (ruled.operator i k) }) (
        sound_eq _ _ (λ k. record { is = let_sim entry ih _ _ }) (
        sound_eq _ _ (λ k. record { is = if_sim entry ih _ _ _ }) (
        sound_eq _ _ (λ k. record { is = abort_sim entry }) (record { is = error_sim entry }))))))))

    live_sim : Sims l (b + 1) ns (live_of rule b run) (λ i. expression_run look_of rule rn (record_at rule i) i)
    unfolding live_of
    live_sim i e y ts s t E f h state =
        does_read _ _ (does_if _
        (λ q. let d = stops_dead f state q in does_give _ f (sim_halt f state d (λ v. on_off s t (gives v) (expression_run look_of rule rn (record_at rule i) i E) d)))
        (λ q. does_with _ _ (expression_sim i (record { fit = f; env = h; state = state; open_const = runs_live f state q })).is))

  pub simulation : (d : ℕ) → Sims l (b + 1) ns (eval_of rule b d) (total_of rule d)
  unfolding eval_of run_by
  simulation zero i e y ts s t E f h state = does_refuse depth_spent spent
  simulation (suc d) i e y ts s t E f h state = does_up (live_sim (eval_of rule b d) (total_of rule d) (simulation d) i e y ts s t E f h state)
