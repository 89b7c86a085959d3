-- A marked term is read, and another is passed over. Assumes nothing.
use Rattle.std.proofs.Common.{arith}
use Rattle.marked.proofs.Marked.{marked_next, unmarked_next}
use Rattle.marked.proofs.read_marked.Goals as goal
use Rattle.marked.proofs.read_marked.Goals.{then-is_marked, else-is_marked}

pub loop-i-preserved : goal.loop-i-preserved
loop-i-preserved c =
    let a = c.args in
    let inv = c.loop-i.invariant in
    let below = c.loop-i-test.true in
    elim c.if-is_marked.branch [
      | then-is_marked w ↦
          rw w.work-is (marked_next a.numbers a.table.now a.count _ c.requires.closed c.loop-i.i inv below (omega (arith, inv.long)) c.is_marked.ensures w.if-is_marked.true (omega (arith, inv.long)) w.term_at-t.ensures w.term_reading-v.ensures w.keep.ensures.reading w.keep.ensures.marked)
      | else-is_marked w ↦
          rw w.work-is (unmarked_next a.numbers a.table.now a.count _ c.requires.closed c.loop-i.i inv below (omega (arith, inv.long)) c.is_marked.ensures w.if-is_marked.false)
    ]
