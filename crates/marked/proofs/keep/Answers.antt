-- A reading comes back from a marked place. Assumes nothing.
use Rattle.std.proofs.Common.{rules}
use Rattle.marked.proofs.Marked.{kept}
use Rattle.marked.proofs.keep.Goals as goal

pub returns-clause-reading : goal.returns-clause-reading
returns-clause-reading c = rw (c.from.ensures, c.from-2.ensures) (kept c.args.v.sort c.args.v.number (search rules) (search rules))
