-- Each child is tested, for none, one and two. Assumes nothing.
use Rattle.std.proofs.Common.{refl}
use Rattle.record_tests.proofs.Follow.{tests}
use Rattle.children.proofs.Held.{each_none, each_one, each_two}
use Rattle.children.proofs.ordered.Goals as goal

pub returns-in-Empty : goal.returns-in-Empty
returns-in-Empty c = rw c.in-Empty.is (each_none _ refl refl)

pub returns-in-One : goal.returns-in-One
returns-in-One c = rw c.in-One.is (each_one _ _ refl c.inside.ensures)

pub returns-then-inside : goal.returns-then-inside
returns-then-inside c = rw c.in-Two.is (each_two _ _ _ refl (search tests))

pub returns-else-inside : goal.returns-else-inside
returns-else-inside c = rw c.in-Two.is (each_two _ _ _ refl (search tests))
