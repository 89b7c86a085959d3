-- An evaluation from a fitting table leaves one, with a state and a value of their kinds, and gives the same with the code's search as with document
-- 01's. The simulation under any numbers says so: this is what it says of the tables. Assumes nothing.
use mathlib.Core.Path.{refl}
use mathlib.Core.List.{List, []}
use Prim.Native.Nat.{ℕ, ◌+◌}
use Rattle.semantics.specs.declared.Term.{Term}
use Rattle.semantics.specs.declared.State.{State}
use Rattle.semantics.specs.Numbers.{binding_term}
use Rattle.semantics.specs.Evaluation.{eval_of}
use Rattle.typing.proofs.Grown.{Sort}
use Rattle.typing.proofs.Does.{Fit, does_weaken, does_refused}
use Rattle.typing.proofs.States.{Stated, Resulted}
use Rattle.typing.proofs.Ruled.{Ruled}
use Rattle.soundness.proofs.Constants.{Does}
use Rattle.soundness.proofs.Held.{some_truth}
use Rattle.soundness.proofs.Simulation.{simulation}

pub eval_does : (l b : ℕ) (rule : List ℕ) → Ruled rule → (d : ℕ) (ts : List Term) (i e : ℕ) (x : State) → Fit (b + 1) ts → Sort binding_term ts e → Stated ts x
    → Does l (b + 1) (eval_of rule b d i e x) ts Resulted (λ k. Unit {0})
eval_does l b rule ruled d ts i e x f h k =
    does_refused f (λ j _. tt) (does_weaken f
    (λ us r p q. record { state = record { assumed = q.state.S.sort; asserted = q.state.T.sort }; value = q.value.named })
    (simulation l b [] rule ruled d i e x ts _ _ _ f (record { sort = h; is = refl }) (record { S = some_truth f k.assumed; T = some_truth f k.asserted })))
