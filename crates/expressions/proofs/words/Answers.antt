-- `expressions::words` meets its contract: it follows the text of its definition. Assumes nothing.
use borrow.Author.Rules.{rules}
use Rattle.terms.proofs.Gives.{steps}
use Rattle.semantics.specs.Evaluation.{words_of}
use Rattle.expressions.proofs.words.Goals as goal

pub returns-in_err-first : goal.returns-in_err-first
unfolding words_of
returns-in_err-first c = search steps depth 12

pub returns-then-operands-eq1 : goal.returns-then-operands-eq1
unfolding words_of
returns-then-operands-eq1 c = search steps depth 12

pub returns-in_err-second : goal.returns-in_err-second
unfolding words_of
returns-in_err-second c = search steps depth 12

pub returns : goal.returns
unfolding words_of
returns c = search steps depth 12
