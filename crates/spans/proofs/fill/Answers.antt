-- A term's report is made of those below it. Assumes nothing.
use Rattle.std.proofs.Common.{arith}
use Rattle.spans.proofs.Lists.{laid_start, laid_next}
use Rattle.spans.proofs.fill.Goals as goal

pub loop-i-init : goal.loop-i-init
loop-i-init c = laid_start _ _ _ _

pub loop-i-preserved : goal.loop-i-preserved
loop-i-preserved c =
    laid_next _ c.loop-i.invariant (omega arith) c.term_at-t.ensures c.lower-x.ensures c.lower-y.ensures c.lower-z.ensures c.term_report-r.ensures c.put_report.ensures
