-- The pass: what it answers with at a record that does not stand and at the end, and what holds at the next record. Assumes nothing.
use Rattle.std.proofs.Common.{refl}
use Rattle.rules.proofs.Pass.{reached_start, fallen_order, fallen_once, reached_next, end_scoped, end_unscoped}
use Rattle.rules.proofs.tree_and_scopes_in.Goals as goal

pub loop-i-init : goal.loop-i-init
loop-i-init c = rw c.requires.start (reached_start _ _ c.requires.marks c.requires.bindings)

pub returns-then-not-ordered : goal.returns-then-not-ordered
returns-then-not-ordered c =
    let a =
    fallen_order _ _ c.loop-i.invariant c.loop-i-test.true c.record_at-x.ensures c.children_of-c.ensures.parts c.ordered.ensures
    c.if-not-ordered.true in
    record { refusal = a.0; turns = a.1.0; kept = a.1.1 }

pub returns-then-not-once : goal.returns-then-not-once
returns-then-not-once c =
    let a =
    fallen_once _ _ c.loop-i.invariant c.loop-i-test.true c.record_at-x.ensures c.children_of-c.ensures.parts c.ordered.ensures
    c.if-not-ordered.false c.once.ensures c.if-not-once.true in
    record { refusal = a.0; turns = a.1.0; kept = a.1.1 }

pub loop-i-preserved : goal.loop-i-preserved
loop-i-preserved c =
    reached_next _ _ c.loop-i.invariant c.loop-i-test.true c.record_at-x.ensures c.children_of-c.ensures.parts c.ordered.ensures
    c.if-not-ordered.false c.once.ensures c.if-not-once.false c.placed-scoped.ensures refl c.mark.ensures c.tell.ensures

pub returns-then-scoped : goal.returns-then-scoped
returns-then-scoped c =
    let a = end_scoped _ _ c.loop-i.invariant c.loop-i-test.false c.if-scoped.true in
    record { refusal = a.0; turns = a.1.0; kept = a.1.1 }

pub returns-else-scoped : goal.returns-else-scoped
returns-else-scoped c =
    let a = end_unscoped _ _ c.loop-i.invariant c.loop-i-test.false c.if-scoped.false in
    record { refusal = a.0; turns = a.1.0; kept = a.1.1 }
