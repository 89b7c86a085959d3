-- `boxes::fill`: one more term. Assumes nothing.
use borrow.Author.Rules.{rules}
use native.Mathlib.Omega.{arith}
use native.Mathlib.Numerals.{unary_clauses}
use lib.ListN.{length-set}
use Rattle.boxes.proofs.Ranged.{ranged_next, ranged_over}
use Rattle.boxes.proofs.fill.Goals.{then-is_marked, else-is_marked}
use Rattle.boxes.proofs.fill.Goals as goal

pub loop-i-preserved : goal.loop-i-preserved
loop-i-preserved c =
    let here = c.loop-i.invariant.1 in
    let long = here.long in
    let tops-long = c.loop-i.invariant.0 in
    let s = c.args.table.now in
    let low = c.loop-i-test.true in
    let enough = c.requires.marks_room in
    let enough-tops = c.requires.room in
    elim c.if-is_marked.branch [
      | then-is_marked w ↦ (
        rw w.tops-is (search (length-set, tops-long)),
        rw (w.work-is, w.tops-is) (ranged_next s c.args.bounds.lows c.args.bounds.highs c.args.count c.requires.ready c.loop-i.i here low (omega (arith, low, enough, long)) c.is_marked.ensures w.if-is_marked.true (omega (arith, low, enough, long)) (omega (arith, low, enough-tops, tops-long)) w.term_at.ensures (simp unary_clauses at w.range_of-r.ensures) (search rules) (omega arith)),
      )
      | else-is_marked w ↦ (
        rw w.tops-is tops-long,
        rw (w.work-is, w.tops-is) (ranged_over s c.args.bounds.lows c.args.bounds.highs c.args.count c.requires.ready c.loop-i.i here low (omega (arith, low, enough, long)) c.is_marked.ensures w.if-is_marked.false),
      )
    ]
