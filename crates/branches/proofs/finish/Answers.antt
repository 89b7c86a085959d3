-- `branches::finish` meets its contract: it follows the text of its definition. Assumes nothing.
use Rattle.semantics.specs.Merge.{finish_of}
use Rattle.terms.proofs.Gives.{steps}
use Rattle.branches.proofs.finish.Goals as goal

pub returns-in-Some : goal.returns-in-Some
unfolding finish_of
returns-in-Some c = rw c.in-Some.is (search steps depth 12)

pub returns-in_default : goal.returns-in_default
unfolding finish_of
returns-in_default c = rw c.in-Some.is (search steps depth 12)

pub returns-in_default-2 : goal.returns-in_default-2
unfolding finish_of
returns-in_default-2 c = rw c.in_default.is (search steps depth 12)
