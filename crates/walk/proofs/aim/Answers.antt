-- `walk::aim` meets its contract: it follows the text of its definition. Assumes nothing.
use Rattle.semantics.specs.Walk.{aim_of}
use Rattle.walk.proofs.Walks.{aims, walk_on}
use Rattle.walk.proofs.aim.Goals as goal

pub returns-in_err-walk : goal.returns-in_err-walk
unfolding aim_of
returns-in_err-walk c = rw (← c.new-leaves.ensures) (search aims depth 12)

pub returns-in_err-any : goal.returns-in_err-any
unfolding aim_of
returns-in_err-any c = rw (← c.new-leaves.ensures) (walk_on _ _ c.branch-walk.ensures c.walk.ensures c.in_ok-walk.is (rw (← c.as_slice.ensures.value) (search aims depth 12)))

pub returns-in_err-state : goal.returns-in_err-state
unfolding aim_of
returns-in_err-state c = rw (← c.new-leaves.ensures) (walk_on _ _ c.branch-walk.ensures c.walk.ensures c.in_ok-walk.is (rw (← c.as_slice.ensures.value) (search aims depth 12)))

pub returns : goal.returns
unfolding aim_of
returns c = rw (← c.new-leaves.ensures) (walk_on _ _ c.branch-walk.ensures c.walk.ensures c.in_ok-walk.is (rw (← c.as_slice.ensures.value) (search aims depth 12)))
