-- `gates::put_literal` meets its contract: with a minus where it is negated. Assumes nothing.
use Rattle.gates.proofs.Signs.{positive, negative}
use Rattle.gates.proofs.put_literal.Goals.{then-l-ne0, else-l-ne0}
use Rattle.gates.proofs.put_literal.Goals as goal

pub returns : goal.returns
returns c =
    elim c.if-l-ne0.branch [
      | then-l-ne0 w ↦ negative c.args.l c.put_before.ensures w.if-l-ne0.true w.put.ensures w.out-is
      | else-l-ne0 w ↦ positive c.args.l c.put_before.ensures w.if-l-ne0.false w.out-is
    ]
