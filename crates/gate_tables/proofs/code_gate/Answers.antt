-- `gate_tables::code_gate` meets its contract: the gate at its place in the table. Assumes nothing.
use mathlib.Core.Path.{◌∙◌}
use Rattle.gate_tables.proofs.Right.{code_gate}
use Rattle.gate_tables.proofs.code_gate.Goals as goal

pub returns-then-i-gate_count : goal.returns-then-i-gate_count
returns-then-i-gate_count c =
    (rw (c.from.ensures, c.from-then-i-gate_count.ensures) at c.gate_number.ensures) ∙ code_gate _ _ _ _ c.gate_count.ensures c.if-i-gate_count.true c.gate_start.ensures
