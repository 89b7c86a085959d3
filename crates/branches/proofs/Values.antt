-- A refused step of a value, as the code says it, and a value that is known to be there or not. Assumes nothing.
use mathlib.Core.Path.{◌≡◌}
use Prim.Native.Nat.{ℕ}
use Rattle.std.specs.Prelude.{IsErr, IsErrAnd}
use Rattle.std.specs.Result.{result_from_control_flow}
use Rattle.std.proofs.lemmas.Result.{err_from_is_err_and}
use Rattle.std.specs.declared.option.Option.{Option}
use Rattle.std.specs.declared.ops.ControlFlow.{ControlFlow}
use Rattle.std.specs.declared.ops.ControlFlow.TheVariants.{Break}
use Rattle.std.specs.declared.result.Result.{Result}
use Rattle.semantics.specs.declared.Folded.{Folded}
use Rattle.semantics.specs.declared.refusal.Refusal.{Refusal}
use Rattle.semantics.specs.Steps.{Make, ◌▹◌}
use Rattle.terms.specs.Gives.{Gives}
use Rattle.terms.specs.declared.table.Table.{Table}
use Rattle.terms.proofs.Gives.{map_stop}
use Rattle.branches.specs.Values.{folded_result}

module _ {A : Type 0} {m : Make A} (h : A → Folded) {s : Table} {q : Result A Refusal} {y : Table} {b : ControlFlow _ A} (i : q ≡ result_from_control_flow b)
    (g : Gives m s 0 q y) where
  pub value_stop : {e : _} → b ≡ Break e → (r : Result (Option ℕ) Refusal) → IsErr r × IsErrAnd r (λ k. k ≡ e.0) → Gives (m ▹ h) s 0 (folded_result r) y
  value_stop j r k = let p = err_from_is_err_and r k.1 in rw (p.1, p.2) (map_stop h g (rw j at i) {w = 0})
