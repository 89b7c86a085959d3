-- A whole record is read from its 8 bytes alone. Assumes nothing.
use Rattle.records.proofs.Alone.{part_record}
use Rattle.records.proofs.record_at.Goals as goal

pub returns-in-Some : goal.returns-in-Some
returns-in-Some c =
    let bytes = c.in-Some.ensures.lookup.0.2 in
    let place = c.from-from.ensures in
    part_record c.args.s.now c.args.i (rw (← place, ← bytes) c.cut.ensures)
