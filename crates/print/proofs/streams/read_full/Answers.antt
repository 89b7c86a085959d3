-- `streams::read_full` meets its contract. Assumes nothing.
use Rattle.print.proofs.Filled.{more_read}
use Rattle.print.proofs.streams.read_full.Goals as goal

pub loop-done-preserved : goal.loop-done-preserved
loop-done-preserved g c =
    more_read _ _ _ _ _ _ _ c.loop-done.invariant.0 c.loop-done.invariant.1 c.read.auto.buf c.in_ok-n.ensures.bound.0 c.in_ok-n.ensures.bytes.0
