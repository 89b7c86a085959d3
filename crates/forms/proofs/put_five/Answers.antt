-- Each turn of the loop, and its end. Assumes nothing.
use Rattle.std.proofs.Common.{rules}
use Rattle.forms.proofs.Written.{pairs_more, pairs_done}
use Rattle.forms.proofs.put_five.Goals as goal

pub loop-i-preserved : goal.loop-i-preserved
loop-i-preserved c = search (rules, pairs_more)

pub returns : goal.returns
returns c = search (rules, pairs_done)
