-- No operator has more than three operands. Assumes nothing.
use Rattle.std.proofs.Common.{ℕ, ◌<◌, arith}
use Rattle.operators.specs.Operators.{operands_of}
use Rattle.record_tests.proofs.uses.Goals as goal

few : (op : ℕ) → operands_of op < 4
unfolding operands_of
few op = omega arith

pub returns-in_default-operands-clause-few : goal.returns-in_default-operands-clause-few
returns-in_default-operands-clause-few c = rw c.operands.ensures (few c.args.x.op)
