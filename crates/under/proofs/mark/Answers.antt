-- Where a term is asked for, `mark` marks it, if it is below i; else all marks stay. Assumes nothing.
use Rattle.std.proofs.Common.{rules}
use Rattle.under.proofs.Marks.{one_mark}
use Rattle.under.proofs.mark.Goals as goal
use Rattle.under.proofs.mark.Goals.{else-asked-via-then-asked+else-k-i, else-asked-via-else-asked}

pub returns-then-k-i : goal.returns-then-k-i
returns-then-k-i c = search (rules, one_mark)

pub returns-else-asked : goal.returns-else-asked
returns-else-asked c =
    elim c.else-asked.branch [ else-asked-via-then-asked+else-k-i w ↦ search (rules, one_mark) | else-asked-via-else-asked w ↦ search (rules, one_mark) ]
