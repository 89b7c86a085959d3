-- Past the end of the list nothing is held. Assumes nothing.
use Rattle.std.proofs.Common.{rules}
use Rattle.reader.proofs.Held.{reading_past}
use Rattle.reader.proofs.held_reading.Goals as goal

pub returns : goal.returns
returns c = search (rules, reading_past)
