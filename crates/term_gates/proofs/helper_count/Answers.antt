-- `term_gates::helper_count` meets its contract: only an operator has any. Assumes nothing.
use Rattle.notation.proofs.Follow.{values}
use borrow.Author.Rules.{rules}
use Rattle.clauses.specs.Clauses.{helpers}
use Rattle.term_gates.proofs.Moving.{shift_helpers, by_count}
use Rattle.term_gates.proofs.ByKind.{operator_helpers, other_helpers}
use Rattle.term_gates.proofs.helper_count.Goals as goal

pub returns-then-t-ne-OPERATOR_TERM : goal.returns-then-t-ne-OPERATOR_TERM
returns-then-t-ne-OPERATOR_TERM c = (other_helpers _ _ (search rules), search rules)

pub returns-then-by_constant : goal.returns-then-by_constant
returns-then-by_constant c = (operator_helpers _ _ (search rules) (by_count helpers _ _ 1 (λ up. shift_helpers up _) c.by_constant.ensures (search values)), search rules)

pub returns : goal.returns
returns c =
    (operator_helpers _ _ (search rules) (by_count helpers _ _ 1 (λ up. shift_helpers up _) c.by_constant.ensures (let e = c.helper_count.ensures.0 in search values)), c.helper_count.ensures.1)
