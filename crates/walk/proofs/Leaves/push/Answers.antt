-- One leaf more leaves blanks past it. Assumes nothing.
use Rattle.std.proofs.Common.{◌∙◌, arith, length-set}
use Rattle.walk.proofs.Blank.{padded_more}
use Rattle.walk.proofs.Leaves.push.Goals as goal

pub invariant_of-self : goal.invariant_of-self
invariant_of-self c =
    let i = c.self.invariant in
    (omega (arith, c.if-self-lt-LEAF_LIMIT.true), (length-set _ _ _ ∙ i.1), padded_more _ _ _ _ _ i.2)
