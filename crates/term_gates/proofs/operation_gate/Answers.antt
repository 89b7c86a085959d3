-- `term_gates::operation_gate` meets its contract: a shift by a constant, or the code. Assumes nothing.
use mathlib.Core.List.{map}
use lib.ListN.{get_or}
use borrow.Author.Rules.{rules}
use Rattle.gate_tables.specs.Packed.{packed}
use Rattle.term_gates.proofs.Moving.{by_shift, by_code}
use Rattle.term_gates.proofs.operation_gate.Goals as goal

pub returns-then-by_constant : goal.returns-then-by_constant
returns-then-by_constant c = by_shift (λ gs. get_or (map packed gs) c.args.i 0) _ _ c.by_constant.ensures (search rules) c.join.ensures c.shift_gate.ensures

pub returns : goal.returns
returns c = by_code (λ gs. get_or (map packed gs) c.args.i 0) _ _ c.by_constant.ensures (search rules) c.code_gate.ensures
