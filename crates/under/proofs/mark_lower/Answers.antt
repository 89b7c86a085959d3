-- `mark_lower` sets the three marks in turn. Assumes nothing.
use Rattle.std.proofs.Common.{rules}
use Rattle.under.proofs.Marks.{mark_three}
use Rattle.under.proofs.mark_lower.Goals as goal

pub returns : goal.returns
returns c = search (rules, mark_three)
