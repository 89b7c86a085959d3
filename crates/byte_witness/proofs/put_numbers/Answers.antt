-- `byte_witness::put_numbers`: one more number. Assumes nothing.
use native.Mathlib.Omega.{arith}
use Rattle.byte_witness.proofs.Hits.{numbers_more, numbers_done}
use Rattle.byte_witness.proofs.put_numbers.Goals as goal

pub loop-i-preserved : goal.loop-i-preserved
loop-i-preserved c = numbers_more _ _ _ (omega arith) c.loop-i.invariant c.put_word.ensures

pub returns : goal.returns
returns c = numbers_done c.args.place.now c.args.numbers c.loop-i.i (omega arith) c.loop-i.invariant
