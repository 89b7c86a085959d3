-- `opening::make_input` meets its contract: a term for each kind of input. Assumes nothing.
use borrow.Author.Rules.{rules}
use Rattle.opening.proofs.Inputs.{inputs}
use Rattle.opening.proofs.make_input.Goals as goal

pub returns-in-0 : goal.returns-in-0
returns-in-0 c = search inputs

pub returns-in-1 : goal.returns-in-1
returns-in-1 c = search inputs

pub returns-in-2 : goal.returns-in-2
returns-in-2 c = search inputs

pub returns-in_default : goal.returns-in_default
returns-in_default c = search inputs
