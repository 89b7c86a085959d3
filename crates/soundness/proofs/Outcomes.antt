-- What a result says that reads as a run's outcome: reading gives what the run gives, both formulas are never false, and the run spends no depth.
-- Assumes nothing.
use mathlib.Core.Path.{◌≡◌, refl, sym, ap, ◌∙◌}
use mathlib.Core.Bool.{Bool, true, false, ◌||◌}
use mathlib.Core.List.{List}
use Prim.Native.Nat.{ℕ}
use native.Mathlib.Omega.{arith}
use Rattle.semantics.specs.declared.Term.{Term}
use Rattle.semantics.specs.declared.Result.{Result}
use Rattle.semantics.specs.Numbers.{true_number}
use Rattle.semantics.specs.States.{state_of, out_of}
use Rattle.semantics.specs.Run.{Value, truth, Ended, gives, spends}
use Rattle.semantics.specs.PlainRun.{ended_outcome}
use Rattle.semantics.specs.Reading.{readings, read_in}
use Rattle.typing.proofs.Does.{Fit}
use Rattle.soundness.proofs.Means.{is_proper}
use Rattle.soundness.proofs.Held.{truth_is_value, false_means, true_means, is_proper_lem}
use Rattle.soundness.proofs.Sim.{ends, on, Sim, sim_out}
use Rattle.soundness.proofs.Merging.{on_unspent}
use Rattle.soundness.proofs.Link.{Small}
use Rattle.soundness.proofs.Readout.{seen_outcome, sim_read}

module _ {ns : List ℕ} {ts : List Term} {r : Result} {o : Ended} (sim : Sim ns (ends o) ts r) where
  -- Reading gives what the run gives.
  pub reads_as : {n : ℕ} → Fit n ts → Small ns ts → read_in (readings ns ts) r ≡ ended_outcome o
  unfolding seen_outcome
  reads_as f s = sim_read f s sim

  -- Both formulas are never false.
  pub never_both : (sim.s || sim.t) ≡ true
  never_both = go sim.s sim.t sim.v sim.sees
    where
      go : (s t : Bool) (v : Value) → on s t (gives v) ≡ ends o → (s || t) ≡ true
      go true t v e = refl
      go false true v e = refl
      go false false v e = let z : ◌≡◌ {A = ℕ} 0 1 = cc in absurd (omega arith)

  -- No run spends its depth.
  pub not_spent : o ≡ spends → ⊥
  not_spent z = on_unspent sim.s sim.t sim.v (sim.sees ∙ ap ends z)

  -- The run gives no value but a truth, a word or a procedure.
  pub gives_proper : {n : ℕ} → Fit n ts → (w : Value) → o ≡ gives w → is_proper w ≡ true
  gives_proper f w q = go sim.s sim.t sim.v (is_proper_lem f sim.value) (sim.sees ∙ ap ends q)
    where
      go : (s t : Bool) (v : Value) → is_proper v ≡ true → on s t (gives v) ≡ ends (gives w) → is_proper w ≡ true
      go true true v p e = let i : v ≡ w = cc in ap is_proper (sym i) ∙ p
      go true false v p e = let z : ◌≡◌ {A = ℕ} 0 1 = cc in absurd (omega arith)
      go false true v p e = let z : ◌≡◌ {A = ℕ} 0 1 = cc in absurd (omega arith)
      go false false v p e = let z : ◌≡◌ {A = ℕ} 0 1 = cc in absurd (omega arith)

-- At the start both formulas are true, and nothing has run.
pub starts : {n : ℕ} {ns : List ℕ} {ts : List Term} → Fit n ts → Sim ns (ends (gives (truth false))) ts (out_of (state_of true_number true_number) 0)
starts f = sim_out (record { S = true_means f; T = true_means f }) (truth_is_value (false_means f)) (λ _. refl) refl
