-- `witness::bounds`: given, or not. Assumes nothing.
use Rattle.witness.proofs.Ends.{least_given, least_none, greatest_given, greatest_none}
use Rattle.witness.proofs.bounds.Goals.{then-spanned, else-spanned}
use Rattle.witness.proofs.bounds.Goals as goal

pub returns-clause-least : goal.returns-clause-least
returns-clause-least c =
    elim c.if-spanned.branch [
      | then-spanned w ↦ least_given _ _ w.if-spanned.true (rw w.given-is at c.ends.ensures)
      | else-spanned w ↦ least_none _ _ w.if-spanned.false (rw w.given-is at c.ends.ensures)
    ]

pub returns-clause-greatest : goal.returns-clause-greatest
returns-clause-greatest c =
    elim c.if-spanned.branch [
      | then-spanned w ↦ greatest_given _ _ w.if-spanned.true (rw w.given-is at c.ends-2.ensures)
      | else-spanned w ↦ greatest_none _ _ w.if-spanned.false (rw w.given-is at c.ends-2.ensures)
    ]
