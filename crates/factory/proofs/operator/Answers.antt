-- `factory::operator` meets its contract: it follows the text of its definition. Assumes nothing.
use borrow.Author.Rules.{rules}
use Rattle.terms.proofs.Gives.{steps}
use Rattle.semantics.specs.Factory.{operator_term_of}
use Rattle.factory.proofs.operator.Goals as goal

pub returns-then-first-ne-WORD_TERM : goal.returns-then-first-ne-WORD_TERM
unfolding operator_term_of
returns-then-first-ne-WORD_TERM c = search steps depth 12

pub returns-then-operands-eq1 : goal.returns-then-operands-eq1
unfolding operator_term_of
returns-then-operands-eq1 c = search steps depth 12

pub returns-then-second-ne-WORD_TERM : goal.returns-then-second-ne-WORD_TERM
unfolding operator_term_of
returns-then-second-ne-WORD_TERM c = search steps depth 12

pub returns : goal.returns
unfolding operator_term_of
returns c = search steps depth 12
