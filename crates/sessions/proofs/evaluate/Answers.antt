-- `sessions::evaluate` meets its contract: each test in its order. Assumes nothing.
use mathlib.Core.Path.{refl, sym}
use Prim.Native.Nat.{zero-le}
use Rattle.sessions.proofs.Order.{number_above, refused_misfit, refused_rule, refused_allowance, refused_spent, answered_halt, answered}
use Rattle.sessions.proofs.evaluate.Goals as goal

pub returns-in-None : goal.returns-in-None
returns-in-None c = rw c.refused.ensures (refused_misfit _ _ _ _ c.in-None.ensures.fits refl)

pub returns-in-Err : goal.returns-in-Err
returns-in-Err c = rw c.refused-in-Err.ensures (refused_rule _ _ _ _ c.in-Some.ensures.fits refl c.in-Err.ensures (number_above _))

pub returns-then-bad_depth : goal.returns-then-bad_depth
returns-then-bad_depth c = rw c.refused-then-bad_depth.ensures (refused_allowance _ _ _ _ c.in-Some.ensures.fits refl c.in-Ok.ensures zero-le c.bad_depth.ensures c.if-bad_depth.true)

pub returns-then-session-ge-RULE_LIMIT : goal.returns-then-session-ge-RULE_LIMIT
returns-then-session-ge-RULE_LIMIT c =
    rw c.refused-then-session-ge-RULE_LIMIT.ensures (refused_spent _ _ _ _ c.in-Some.ensures.fits refl c.in-Ok.ensures zero-le c.bad_depth.ensures c.if-bad_depth.false c.if-session-ge-RULE_LIMIT.true)

pub returns-then-session : goal.returns-then-session
returns-then-session c =
    answered_halt _ _ _ _ c.in-Some.ensures.fits refl c.in-Ok.ensures zero-le c.bad_depth.ensures c.if-bad_depth.false c.if-session-ge-RULE_LIMIT.false c.if-session.true (c.halted_again.ensures c.args.table.now)

pub returns : goal.returns
returns c = answered _ _ _ _ c.in-Some.ensures.fits refl c.in-Ok.ensures zero-le c.bad_depth.ensures c.if-bad_depth.false c.if-session-ge-RULE_LIMIT.false c.if-session.false c.evaluated.ensures
