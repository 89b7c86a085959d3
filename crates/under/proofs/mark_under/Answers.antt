-- `mark_under` marks what the result names, then what these are read from. Assumes nothing.
use Rattle.std.proofs.Common.{rules}
use Rattle.under.proofs.Marks.{under_marked, under_short}
use Rattle.under.proofs.mark_under.Goals as goal

pub returns-then-work-count : goal.returns-then-work-count
returns-then-work-count c = search (rules, under_short)

pub returns : goal.returns
returns c = search (rules, under_marked)
