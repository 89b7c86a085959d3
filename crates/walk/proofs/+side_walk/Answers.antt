-- The walk: `walk::walk` and the side of a choice meet their contracts, following the text of their definitions. Assumes nothing.
use Rattle.semantics.specs.Walk.{left_side_of, right_side_of, side_of, sides_of, node_of}
use Rattle.terms.proofs.Gives.{gives_value, try_on}
use Rattle.walk.proofs.Walks.{walks, seen_false_guard, seen_other_guard}
use Rattle.walk.proofs.+side_walk.Goals as goal

pub side-returns-in_err-guard : goal.side-returns-in_err-guard
unfolding left_side_of side_of
side-returns-in_err-guard t c = search walks depth 12

pub side-returns-then-eq : goal.side-returns-then-eq
unfolding left_side_of side_of
side-returns-then-eq t c = try_on _ c.branch-guard.ensures c.and_of.ensures c.in_ok-guard.is (seen_false_guard _ _ _ _ c.known.ensures c.eq.ensures c.if-eq.true (gives_value _ _))

pub side-returns : goal.side-returns
unfolding left_side_of side_of
side-returns t c = try_on _ c.branch-guard.ensures c.and_of.ensures c.in_ok-guard.is (seen_other_guard _ _ _ _ c.known.ensures c.eq.ensures c.if-eq.false c.walk.ensures)

pub walk-returns-then-fuel-eq0 : goal.walk-returns-then-fuel-eq0
walk-returns-then-fuel-eq0 t c = search walks depth 12

pub walk-returns-then-term-ne-CHOICE_TERM : goal.walk-returns-then-term-ne-CHOICE_TERM
unfolding node_of
walk-returns-then-term-ne-CHOICE_TERM t c = search walks depth 12

pub walk-returns-in_err-side : goal.walk-returns-in_err-side
unfolding node_of sides_of
walk-returns-in_err-side t c = search walks depth 12

pub walk-returns-in_err-negated : goal.walk-returns-in_err-negated
unfolding node_of sides_of right_side_of left_side_of
walk-returns-in_err-negated t c = search walks depth 12

pub walk-returns : goal.walk-returns
unfolding node_of sides_of right_side_of left_side_of
walk-returns t c = search walks depth 12
