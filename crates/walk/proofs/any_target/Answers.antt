-- `walk::any_target` meets its contract: it follows the text of its definition. Assumes nothing.
use mathlib.Core.Path.{refl}
use Rattle.walk.proofs.Walks.{target_met, target_other, targets_end, targets_stop, targets_next}
use Rattle.walk.proofs.any_target.Goals as goal
use Rattle.walk.proofs.any_target.Goals.{then-leaf-eq-PROCEDURE_TERM+in_ok-any, else-leaf-eq-PROCEDURE_TERM}

pub returns-in_err-any : goal.returns-in_err-any
returns-in_err-any c = targets_stop _ _ _ c.loop-leaf.invariant _ c.loop-leaf-test.true (target_met _ _ c.if-leaf-eq-PROCEDURE_TERM.true c.or_of.ensures) c.branch-any.ensures c.in_err-any.is c.from_residual.ensures

pub loop-leaf-preserved : goal.loop-leaf-preserved
loop-leaf-preserved c = elim c.if-leaf-eq-PROCEDURE_TERM.branch [ then-leaf-eq-PROCEDURE_TERM+in_ok-any w ↦ rw (w.table-is, w.any-is) (targets_next _ _ _ c.loop-leaf.invariant _ c.loop-leaf-test.true (target_met _ _ w.if-leaf-eq-PROCEDURE_TERM.true w.or_of.ensures) (rw w.in_ok-any.is at w.branch-any.ensures)) | else-leaf-eq-PROCEDURE_TERM w ↦ rw (w.table-is, w.any-is) (targets_next _ _ _ c.loop-leaf.invariant _ c.loop-leaf-test.true (target_other _ _ w.if-leaf-eq-PROCEDURE_TERM.false) refl) ]

pub returns : goal.returns
returns c = targets_end _ _ _ c.loop-leaf.invariant c.loop-leaf-test.false
