-- `terms::floor` meets its contract. Assumes nothing.
use Rattle.notation.proofs.Follow.{values}
use Rattle.terms.specs.Search.{floor_of}
use Rattle.terms.proofs.floor.Goals as goal

pub returns-in-5 : goal.returns-in-5
unfolding floor_of
returns-in-5 c = search values depth 12

pub returns-in-6 : goal.returns-in-6
unfolding floor_of
returns-in-6 c = search values depth 12

pub returns-in-7 : goal.returns-in-7
unfolding floor_of
returns-in-7 c = search values depth 12

pub returns-in-8 : goal.returns-in-8
unfolding floor_of
returns-in-8 c = search values depth 12

pub returns-in-8-2 : goal.returns-in-8-2
unfolding floor_of
returns-in-8-2 c = search values depth 12

pub returns-in_default : goal.returns-in_default
unfolding floor_of
returns-in_default c = search values depth 12
