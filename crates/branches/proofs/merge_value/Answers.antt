-- `branches::merge_value` meets its contract: it follows the text of its definition. Assumes nothing.
use Rattle.semantics.specs.Merge.{value_step_of}
use Rattle.terms.proofs.Gives.{steps}
use Rattle.branches.proofs.Values.{value_stop}
use Rattle.branches.proofs.merge_value.Goals as goal

pub returns-then-b : goal.returns-then-b
unfolding value_step_of
returns-then-b c = search steps depth 12

pub returns-in-None : goal.returns-in-None
unfolding value_step_of
returns-in-None c = rw c.in-None.is (search steps depth 12)

pub returns-in_err-chosen-in-Some : goal.returns-in_err-chosen-in-Some
unfolding value_step_of
returns-in_err-chosen-in-Some c = rw c.in-Some.is (search (value_stop, steps) depth 12)

pub returns-in_ok-chosen-in-Some : goal.returns-in_ok-chosen-in-Some
unfolding value_step_of
returns-in_ok-chosen-in-Some c = rw c.in-Some.is (search steps depth 12)
