-- `witness::free_bits`: one more input. Assumes nothing.
use native.Mathlib.Omega.{arith}
use Rattle.witness.proofs.Whole.{bits_next, bits_all}
use Rattle.witness.proofs.free_bits.Goals as goal

pub loop-x-preserved : goal.loop-x-preserved
loop-x-preserved c = (omega (arith, c.bits_in-n.ensures.few), bits_next c.args.inputs c.loop-x.x-index c.loop-x.n c.loop-x.invariant.1 _ (omega arith) c.bits_in-n.ensures.bits)

pub returns : goal.returns
returns c = bits_all c.args.inputs c.loop-x.x-index c.loop-x.n c.loop-x.invariant.1 (omega arith)
