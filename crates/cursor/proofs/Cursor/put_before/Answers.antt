-- `Cursor::put_before` meets its contract. Assumes nothing.
use Rattle.cursor.proofs.Writing.{onward}
use Rattle.cursor.proofs.Cursor.put_before.Goals as goal

pub returns : goal.returns
returns c = onward c.put_number.ensures c.put.ensures
