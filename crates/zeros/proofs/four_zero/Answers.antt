-- Each turn looks at one byte of each slice; at the end no byte is left. Assumes nothing.
use Rattle.std.proofs.Common.{arith}
use Rattle.zeros.proofs.Zeros.{four_end, four_next}
use Rattle.zeros.proofs.four_zero.Goals as goal

pub loop-i-preserved : goal.loop-i-preserved
loop-i-preserved c = four_next _ _ _ _ c.requires.second c.requires.third c.requires.fourth _ _ c.loop-i.invariant c.loop-i-test.true

pub returns : goal.returns
returns c = four_end _ _ _ _ c.requires.second c.requires.third c.requires.fourth c.loop-i.i c.loop-i.seen c.loop-i.invariant (omega arith)
