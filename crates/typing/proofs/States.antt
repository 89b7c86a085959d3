-- States and results of their kinds. Assumes nothing.
use mathlib.Core.List.{List}
use Rattle.semantics.specs.declared.Term.{Term}
use Rattle.semantics.specs.declared.State.{State}
use Rattle.semantics.specs.declared.Result.{Result}
use Rattle.typing.proofs.Grown.{Value}
use Rattle.typing.proofs.Factory.{Truth}

-- both formulas of the state are truths
pub record Stated (ts : List Term) (x : State) : Type 0 where
  pub assumed : Truth ts x.assumed
  pub asserted : Truth ts x.asserted

-- both formulas of the result are truths, and its value is no binding
pub record Resulted (ts : List Term) (r : Result) : Type 0 where
  pub state : Stated ts r.state
  pub value : Value ts r.value
