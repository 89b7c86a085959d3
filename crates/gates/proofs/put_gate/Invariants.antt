use Prim.Native.Nat.{◌-◌}
use Rattle.cursor.proofs.Writing.{Leads}
use Rattle.gates.specs.Slots.{gate_text, slots_text}
use Rattle.gates.proofs.put_gate.Given as goal

abbrev pub invariant-loop-i : goal.invariant-loop-i
invariant-loop-i l = Leads (gate_text l.p l.g) l.fn.out l.out (slots_text l.p l.g l.i (l.last - l.i))
