-- The lists have a place for every mark. Assumes nothing.
use Rattle.repeats.proofs.Marks.{held}
use Rattle.repeats.proofs.formed_in.Goals as goal

pub formed_by-requires-clause-first_held : goal.formed_by-requires-clause-first_held
formed_by-requires-clause-first_held g c = held c.args.bits g.row.N c.requires.held

pub formed_by-requires-clause-second_held : goal.formed_by-requires-clause-second_held
formed_by-requires-clause-second_held g c = held c.args.bits g.row.N c.requires.held
