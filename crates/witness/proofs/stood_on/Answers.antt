-- `witness::stood_on`: one more term. Assumes nothing.
use native.Mathlib.Omega.{arith}
use Rattle.witness.proofs.Ends.{stood_more, stood_none}
use Rattle.witness.proofs.stood_on.Goals.{in-Some, in_default}
use Rattle.witness.proofs.stood_on.Goals as goal

pub loop-i-preserved : goal.loop-i-preserved
loop-i-preserved c =
    let here = c.loop-i.invariant in
    elim c.match-named_input.branch [
      | in-Some w ↦ rw w.highs-is (stood_more _ _ _ _ _ here c.term_at.ensures c.named_input.ensures w.in-Some.is (omega arith))
      | in_default w ↦ rw w.highs-is (stood_none _ _ _ _ _ here c.term_at.ensures c.named_input.ensures w.in_default.is)
    ]
