-- `term_gates::operation_gate_count` meets its contract: a shift by a constant, or the code. Assumes nothing.
use Rattle.notation.proofs.Follow.{values}
use lib.ListN.{length}
use Rattle.term_gates.proofs.Moving.{shift_gates_lem, by_count}
use Rattle.term_gates.proofs.operation_gate_count.Goals as goal

pub returns-then-by_constant : goal.returns-then-by_constant
returns-then-by_constant c = by_count length _ _ 19 (λ up. shift_gates_lem up _) c.by_constant.ensures (search values)

pub returns : goal.returns
returns c = by_count length _ _ 19 (λ up. shift_gates_lem up _) c.by_constant.ensures (search values)
