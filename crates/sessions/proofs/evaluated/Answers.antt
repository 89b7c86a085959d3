-- `sessions::evaluated` meets its contract. Assumes nothing.
use mathlib.Core.Path.{refl, sym}
use native.Mathlib.Omega.{arith}
use Rattle.sessions.proofs.ByRules.{evaluated_out, evaluated_refused}
use Rattle.sessions.proofs.evaluated.Goals as goal

pub returns-in-Ok : goal.returns-in-Ok
returns-in-Ok c =
    evaluated_out _ _ _ refl _ _ c.requires.taken.0 c.requires.taken.1 c.requires.enters (λ k. omega (arith, c.slice_known-1.given k)) c.in-Ok.ensures.gives
    c.answer.ensures c.advanced.ensures (c.table-1.given.1.1 (sym c.in-Ok.ensures.gives.kept.same))

pub returns-in-Err : goal.returns-in-Err
returns-in-Err c =
    evaluated_refused _ _ _ refl _ _ c.requires.taken.0 c.requires.taken.1 c.requires.enters (λ k. omega (arith, c.slice_known-1.given k)) c.in-Err.ensures.gives
    (c.table-1.given.1.1 (sym c.in-Err.ensures.gives.kept.same)) c.wipe.ensures c.refused.ensures
