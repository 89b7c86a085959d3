-- A term that is met on the way down marks those that it is read from, or is not marked. Assumes nothing.
use Rattle.std.proofs.Common.{rules}
use Rattle.under.proofs.Marks.{onward_marked, onward_unmarked, onward_end}
use Rattle.under.proofs.mark_down.Goals as goal

pub loop-i-preserved-then-is_marked : goal.loop-i-preserved-then-is_marked
loop-i-preserved-then-is_marked c =
    onward_marked c.loop-i.invariant c.loop-i-test.true c.is_marked.ensures c.if-is_marked.true c.term_at.ensures c.mark_lower.ensures

pub loop-i-preserved : goal.loop-i-preserved
loop-i-preserved c = onward_unmarked c.loop-i.invariant c.loop-i-test.true c.is_marked.ensures c.if-is_marked.false

pub returns : goal.returns
returns c = search (rules, onward_end)
