-- `opening::open_from` meets its contract. Assumes nothing.
use borrow.Author.Rules.{rules}
use Rattle.terms.proofs.Gives.{steps}
use Rattle.opening.proofs.Inputs.{open_end, open_next}
use Rattle.opening.proofs.+open_from.Goals as goal

pub returns-then-i-ge-INPUT_COUNT : goal.returns-then-i-ge-INPUT_COUNT
returns-then-i-ge-INPUT_COUNT t c = open_end _ _ c.if-i-ge-INPUT_COUNT.true (search steps)

pub returns-in_err-value : goal.returns-in_err-value
returns-in_err-value t c = open_next _ _ c.if-i-ge-INPUT_COUNT.false (search steps depth 12)

pub returns-in_err-later : goal.returns-in_err-later
returns-in_err-later t c = open_next _ _ c.if-i-ge-INPUT_COUNT.false (search steps depth 12)

pub returns : goal.returns
returns t c = open_next _ _ c.if-i-ge-INPUT_COUNT.false (search steps depth 12)
