-- `expressions::place` meets its contract. Assumes nothing.
use mathlib.Core.Path.{refl}
use native.Mathlib.Omega.{arith}
use native.Mathlib.Nat.{sub-zero}
use Rattle.expressions.proofs.Places.{place_next, place_end}
use Rattle.expressions.proofs.place.Goals as goal

pub loop-init : goal.loop-init
loop-init c = rw sub-zero refl

pub loop-preserved : goal.loop-preserved
loop-preserved c = place_next _ _ _ c.term-chain.ensures (omega arith) c.loop.invariant

pub returns : goal.returns
returns c = place_end _ _ _ c.term.ensures (omega arith) c.loop.invariant
