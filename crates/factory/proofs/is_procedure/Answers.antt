-- `factory::is_procedure` meets its contract: it follows the text of its definition. Assumes nothing.
use borrow.Author.Rules.{rules}
use Rattle.terms.proofs.Gives.{steps}
use Rattle.semantics.specs.Factory.{is_procedure_of}
use Rattle.factory.proofs.is_procedure.Goals as goal

pub returns-in-6 : goal.returns-in-6
unfolding is_procedure_of
returns-in-6 c = search steps depth 12

pub returns-in-7 : goal.returns-in-7
unfolding is_procedure_of
returns-in-7 c = search steps depth 12

pub returns-in_default : goal.returns-in_default
unfolding is_procedure_of
returns-in_default c = search steps depth 12
