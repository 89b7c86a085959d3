-- `Cursor::put_bytes` meets its contract. Assumes nothing.
use Rattle.cursor.proofs.Writing.{leads_step, bytes_more}
use Rattle.cursor.proofs.Cursor.put_bytes.Goals as goal

pub loop-b-preserved : goal.loop-b-preserved
loop-b-preserved c = leads_step (bytes_more _ _ c.loop-b-test.true) c.loop-b.invariant c.put.ensures
