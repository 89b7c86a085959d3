-- A size that test 4 lets pass is at most 4,096 records, which is what the rest requires. Assumes nothing.
use Rattle.std.proofs.Common.{arith}
use Rattle.record_tests.proofs.Follow.{good_size}
use Rattle.rules.proofs.counted.Goals as goal

pub overflow_cast-n : goal.overflow_cast-n
overflow_cast-n c = omega (arith, good_size _ c.bad_size.ensures c.if-bad_size.false)

pub tree_and_scopes-requires-clause-in_limit : goal.tree_and_scopes-requires-clause-in_limit
tree_and_scopes-requires-clause-in_limit c = omega (arith, good_size _ c.bad_size.ensures c.if-bad_size.false)
