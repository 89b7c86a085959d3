-- A place further along the chain, the place that was asked for, and the chain's end. Assumes nothing.
use Rattle.std.proofs.Common.{arith, ◌≡◌, ◌+◌, ◌-◌}
use Rattle.interpreter.proofs.Chains.{find_here, find_next, find_lower, find_end}
use Rattle.interpreter.proofs.Run.find.Goals as goal

pub returns-then-at-eq0 : goal.returns-then-at-eq0
returns-then-at-eq0 c = find_end _ _ _ _ _ c.loop.invariant.0 c.loop.invariant.1 c.if-at-eq0.true

pub loop-preserved : goal.loop-preserved
loop-preserved c =
    let left : c.args.place - (c.loop.counter + 1) ≡ c.args.place - c.loop.counter - 1 = omega arith in (
      rw left (find_next _ _ _ _ _ c.loop.invariant.0 c.loop.invariant.1 c.if-at-eq0.false (omega arith) c.next_at-at.ensures),
      find_lower _ _ _ _ _ c.loop.invariant.0 c.loop.invariant.1 c.if-at-eq0.false c.next_at-at.ensures,
    )

pub returns-then-at-eq0-2 : goal.returns-then-at-eq0-2
returns-then-at-eq0-2 c = find_end _ _ _ _ _ c.loop.invariant.0 c.loop.invariant.1 c.if-at-eq0-2.true

pub returns : goal.returns
returns c = find_here _ _ _ _ _ c.loop.invariant.0 c.loop.invariant.1 c.if-at-eq0-2.false (omega arith) c.held_at.ensures
