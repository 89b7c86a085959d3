-- `mark_result` sets the three marks in turn, in a list of zeros. Assumes nothing.
use Rattle.under.proofs.Marks.{mark_named}
use Rattle.under.proofs.mark_result.Goals as goal

pub returns : goal.returns
returns c = mark_named _ _ c.wipe.ensures c.mark.ensures c.mark-2.ensures c.mark-3.ensures
