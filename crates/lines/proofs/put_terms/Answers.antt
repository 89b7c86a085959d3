-- `lines::put_terms` meets its contract: line after line. Assumes nothing.
use Rattle.lines.proofs.Lines.{none_shown, one_shown, all_shown}
use Rattle.lines.proofs.put_terms.Goals as goal

pub loop-i-init : goal.loop-i-init
loop-i-init c = none_shown

pub loop-i-preserved : goal.loop-i-preserved
loop-i-preserved c = one_shown c.loop-i.invariant c.loop-i-test.true c.term_at.ensures c.put_term-end.ensures

pub returns : goal.returns
returns c = all_shown c.loop-i.invariant c.loop-i-test.false
