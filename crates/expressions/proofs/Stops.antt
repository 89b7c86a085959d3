-- An evaluation that a `?` ends: it is refused as the step was. Assumes nothing.
use mathlib.Core.Path.{◌≡◌}
use Prim.Native.Nat.{ℕ, zero-le}
use Rattle.std.specs.declared.result.Result.{Result}
use Rattle.std.specs.declared.result.Result.TheVariants.{Ok, Err}
use Rattle.std.specs.Prelude.{IsErr, IsErrAnd}
use Rattle.std.proofs.lemmas.Result.{err_from_is_err_and}
use Rattle.semantics.specs.declared.Result.{Result as Ending}
use Rattle.semantics.specs.declared.refusal.Refusal.{Refusal}
use Rattle.semantics.specs.Steps.{Make}
use Rattle.terms.specs.Gives.{Gives}
use Rattle.terms.specs.declared.table.Table.{Table}
use Rattle.expressions.specs.declared.Out.{Out}
use Rattle.expressions.specs.Evaluates.{Evaluates}

pub stopped : {m : Make Ending} {s y : Table} {d : ℕ} (r : Result Out Refusal) {e : Refusal} → IsErr r × IsErrAnd r (λ k. k ≡ e) → Gives m s 0 (Err e) y → Evaluates d m s r y
stopped r j g = let p = err_from_is_err_and r j.1 in rw (p.1, p.2) (record { gives = g; low = zero-le })
