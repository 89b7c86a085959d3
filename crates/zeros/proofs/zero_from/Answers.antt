-- The four quarters, and what is left after them. Assumes nothing.
use Rattle.std.proofs.Common.{arith, length, ◌+◌, ◌-◌, ◌/◌}
use Rattle.zeros.proofs.Zeros.{past_end, parts_on, parts_miss}
use Rattle.zeros.proofs.zero_from.Goals as goal

pub returns-then-s-at : goal.returns-then-s-at
returns-then-s-at c = past_end _ _ c.if-s-at.true

pub returns-then-four_zero : goal.returns-then-four_zero
returns-then-four_zero c =
    let p = c.args.at in
    let q = (length c.args.s.now - p) / 4 in
    parts_on c.args.s.now p (p + q) (p + q + q) (p + q + q + q) (p + q + q + q + q) (omega arith) (omega arith) (omega arith) (omega arith)
    c.four_zero.ensures c.if-four_zero.true c.all_zero.ensures

pub returns-else-four_zero : goal.returns-else-four_zero
returns-else-four_zero c =
    let p = c.args.at in
    let q = (length c.args.s.now - p) / 4 in
    parts_miss c.args.s.now p (p + q) (p + q + q) (p + q + q + q) (p + q + q + q + q) (omega arith) (omega arith) (omega arith) (omega arith)
    c.four_zero.ensures c.if-four_zero.false
