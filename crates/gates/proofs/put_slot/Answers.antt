-- `gates::put_slot` meets its contract: the end, a literal or its opposite. Assumes nothing.
use Rattle.notation.proofs.Follow.{values}
use Rattle.cursor.proofs.Writing.{said}
use Rattle.gates.specs.Slots.{slot_text}
use Rattle.gates.proofs.put_slot.Goals.{then-s-eq0, else-s-eq0}
use Rattle.gates.proofs.put_slot.Goals as goal

pub returns-then-s-eq-END : goal.returns-then-s-eq-END
unfolding slot_text
returns-then-s-eq-END c = said c.put_end.ensures (search values)

pub returns : goal.returns
unfolding slot_text
returns c =
    elim c.if-s-eq0.branch [
      | then-s-eq0 w ↦ said c.put_literal.ensures (rw w.put_literal-is (search values))
      | else-s-eq0 w ↦ said c.put_literal.ensures (rw w.put_literal-is (search values))
    ]
