-- `put_evaluation` meets its contract. Assumes nothing.
use borrow.Author.Rules.{rules}
use Rattle.print.proofs.Told.{evaluation_told}
use Rattle.print.proofs.Written.{evaluated_lines}
use Rattle.print.proofs.put_evaluation.Goals as goal

pub put_answer-requires : goal.put_answer-requires
put_answer-requires c = evaluation_told _ _ _ _ (search rules) c.enter_once-e.ensures

pub returns : goal.returns
returns c = evaluated_lines _ _ _ c.enter_once-e.ensures c.put_answer.ensures
