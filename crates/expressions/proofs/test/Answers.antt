-- `expressions::test` meets its contract: it follows the text of its definition. Assumes nothing.
use borrow.Author.Rules.{rules}
use Rattle.terms.proofs.Gives.{steps}
use Rattle.semantics.specs.Evaluation.{test_of}
use Rattle.expressions.proofs.test.Goals as goal

pub returns-in_err-truth : goal.returns-in_err-truth
unfolding test_of
returns-in_err-truth c = search steps depth 12

pub returns-then-op-eq-NOT_CODE : goal.returns-then-op-eq-NOT_CODE
unfolding test_of
returns-then-op-eq-NOT_CODE c = search steps depth 12

pub returns-then-op-eq-IS_WORD_CODE : goal.returns-then-op-eq-IS_WORD_CODE
unfolding test_of
returns-then-op-eq-IS_WORD_CODE c = search steps depth 12

pub returns : goal.returns
unfolding test_of
returns c = search steps depth 12
