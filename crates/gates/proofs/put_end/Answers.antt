-- `gates::put_end` meets its contract: 0 and a line feed. Assumes nothing.
use Rattle.cursor.proofs.Writing.{onward}
use Rattle.gates.proofs.put_end.Goals as goal

pub returns : goal.returns
returns c = onward c.put.ensures c.put-2.ensures
