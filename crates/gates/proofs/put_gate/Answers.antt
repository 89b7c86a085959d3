-- `gates::put_gate` meets its contract: slot after slot. Assumes nothing.
use Rattle.std.proofs.Common.{refl}
use mathlib.Core.Path.{◌∙◌}
use Rattle.cursor.proofs.Writing.{leads_from, leads_step, leads_end}
use Rattle.gates.proofs.InTurn.{slots_start, slots_more, slots_end}
use Rattle.gates.proofs.put_gate.Goals as goal

pub loop-i-init : goal.loop-i-init
loop-i-init c = leads_from (slots_start _ _ _ _ _ refl (c.from-last.ensures ∙ c.slot_start-2.ensures) (c.from-first.ensures ∙ c.slot_start.ensures))

pub loop-i-preserved : goal.loop-i-preserved
loop-i-preserved c = leads_step (slots_more _ _ _ _ _ c.loop-i-test.true c.slot.ensures) c.loop-i.invariant c.put_slot.ensures

pub returns : goal.returns
returns c = leads_end (slots_end _ _ _ _ c.loop-i-test.false) c.loop-i.invariant
