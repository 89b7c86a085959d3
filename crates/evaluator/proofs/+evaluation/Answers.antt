-- Evaluating an expression and applying a procedure: `evaluator::eval` and the functions that it goes through meet their contracts, each by following
-- the text of its definition. Assumes nothing.
use borrow.Author.Rules.{rules}
use mathlib.Core.Path.{refl, ap}
use Prim.Native.Nat.{zero-le}
use native.Mathlib.Omega.{arith}
use lib.ListN.{length}
use Rattle.std.proofs.lemmas.List.{drop_more, drop_all, length_push}
use Rattle.semantics.specs.Evaluation.{under_of, let_of, branches_of, both_of, targets_of, call_of, expression_of, live_of}
use Rattle.terms.proofs.Gives.{steps, gives_value, gives_stop, then_on, try_on, run_on, run_end, if_true, if_false, on_read, up_on, map_on, map_stop}
use Rattle.expressions.proofs.Stops.{stopped}
use Rattle.parts.specs.Onward.{forked}
use Rattle.evaluator.proofs.Evaluation.{at_any, told_err, told_ok, ran_err, ran_ok, ran_low, ends_as, eval_spent, eval_go, target_passed, target_run, target_stop, turns_end, turns_stop, turns_next}
use Rattle.evaluator.proofs.+evaluation.Goals as goal

pub apply-returns-in_err-entered : goal.apply-returns-in_err-entered
apply-returns-in_err-entered t c = stopped _ c.from_residual.ensures (c.enter.ensures.stops _ c.in_err-entered.was 0)

pub apply-returns : goal.apply-returns
apply-returns t c = record { gives = c.enter.ensures.goes _ c.in_ok-entered.was c.eval.ensures.gives; low = c.eval.ensures.low }

pub bind-returns-in_err-first : goal.bind-returns-in_err-first
unfolding let_of
bind-returns-in_err-first t c = stopped _ c.from_residual.ensures (gives_stop _ (ran_err c.eval.ensures c.branch-first.ensures c.in_err-first.is 0) 0)

pub bind-returns-then-value : goal.bind-returns-then-value
unfolding let_of
bind-returns-then-value t c = record { gives = run_end _ (ran_ok c.eval.ensures c.branch-first.ensures c.in_ok-first.is) refl (if_true _ _ _ c.if-value.true (gives_value _ _)); low = ran_low c.eval.ensures c.branch-first.ensures c.in_ok-first.is }

pub bind-returns-in_err-second : goal.bind-returns-in_err-second
unfolding let_of
bind-returns-in_err-second t c = stopped _ c.from_residual-in_err-second.ensures (at_any (run_on _ (ran_ok c.eval.ensures c.branch-first.ensures c.in_ok-first.is) refl (if_false _ _ _ c.if-value.false (ran_err c.under.ensures c.branch-second.ensures c.in_err-second.is 0)) refl) 0)

pub bind-returns : goal.bind-returns
unfolding let_of
bind-returns t c = record { gives = run_on _ (ran_ok c.eval.ensures c.branch-first.ensures c.in_ok-first.is) refl (if_false _ _ _ c.if-value.false (ran_ok c.under.ensures c.branch-second.ensures c.in_ok-second.is)) c.max.ensures; low = omega (arith, c.max.ensures, ran_low c.eval.ensures c.branch-first.ensures c.in_ok-first.is, ran_low c.under.ensures c.branch-second.ensures c.in_ok-second.is) }

pub both-returns-in_err-fork : goal.both-returns-in_err-fork
unfolding both_of
both-returns-in_err-fork t c = stopped _ c.from_residual.ensures (gives_stop _ (told_err forked c.fork.ensures c.branch-fork.ensures c.in_err-fork.is 0) 0)

pub both-returns-in_err-first : goal.both-returns-in_err-first
unfolding both_of branches_of
both-returns-in_err-first t c = stopped _ c.from_residual-in_err-first.ensures (then_on _ (told_ok forked c.fork.ensures c.branch-fork.ensures c.in_ok-fork.is) refl (gives_stop _ (gives_stop _ (ran_err c.eval.ensures c.branch-first.ensures c.in_err-first.is 0) 0) 0))

pub both-returns-in_err-second : goal.both-returns-in_err-second
unfolding both_of branches_of
both-returns-in_err-second t c = stopped _ c.from_residual-in_err-second.ensures (then_on _ (told_ok forked c.fork.ensures c.branch-fork.ensures c.in_ok-fork.is) refl (gives_stop _ (run_on _ (ran_ok c.eval.ensures c.branch-first.ensures c.in_ok-first.is) refl (map_stop _ (ran_err c.eval-2.ensures c.branch-second.ensures c.in_err-second.is 0) refl {w = 0}) refl) 0))

pub both-returns : goal.both-returns
unfolding both_of branches_of
both-returns t c = ends_as _ (then_on _ (told_ok forked c.fork.ensures c.branch-fork.ensures c.in_ok-fork.is) refl (run_end _ (run_on _ (ran_ok c.eval.ensures c.branch-first.ensures c.in_ok-first.is) refl (map_on _ (ran_ok c.eval-2.ensures c.branch-second.ensures c.in_ok-second.is) refl refl) refl) refl c.join.ensures.merged)) c.join.ensures.used (omega (arith, ran_low c.eval.ensures c.branch-first.ensures c.in_ok-first.is, ran_low c.eval-2.ensures c.branch-second.ensures c.in_ok-second.is))

pub call-returns-in_err-aim : goal.call-returns-in_err-aim
unfolding call_of
call-returns-in_err-aim t c = stopped _ c.from_residual.ensures (gives_stop _ (rw (c.branch-aim.ensures, c.in_err-aim.is) at c.aim.ensures) 0)

pub call-returns-then-halts : goal.call-returns-then-halts
unfolding call_of
call-returns-then-halts t c = rw c.halt.ensures (record { gives = then_on _ (rw (c.branch-aim.ensures, c.in_ok-aim.is) at c.aim.ensures) refl (on_read _ _ c.halts.ensures (if_true _ _ _ c.if-halts.true (gives_value _ _))); low = zero-le })

pub call-returns : goal.call-returns
unfolding call_of
call-returns t c = record { gives = then_on _ (rw (c.branch-aim.ensures, c.in_ok-aim.is) at c.aim.ensures) refl (on_read _ _ c.halts.ensures (if_false _ _ _ c.if-halts.false (rw c.as_slice.ensures.value at c.targets.ensures.gives))); low = c.targets.ensures.low }

pub decide-returns-in_err-part : goal.decide-returns-in_err-part
decide-returns-in_err-part t c = stopped _ c.from_residual.ensures (c.test.ensures.stops (_, _) c.in_err-part.was 0)

pub decide-returns-in-Alone : goal.decide-returns-in-Alone
decide-returns-in-Alone t c = record { gives = c.test.ensures.goes (_, _) c.in_ok-part.was (rw c.in-Alone.is c.eval.ensures.gives); low = c.eval.ensures.low }

pub decide-returns-in-Both : goal.decide-returns-in-Both
decide-returns-in-Both t c = record { gives = c.test.ensures.goes (_, _) c.in_ok-part.was (rw c.in-Both.is c.both.ensures.gives); low = c.both.ensures.low }

pub eval-returns-then-depth-eq0 : goal.eval-returns-then-depth-eq0
eval-returns-then-depth-eq0 t c = record { gives = eval_spent _ _ _ _ _ _ c.if-depth-eq0.true 0; low = zero-le }

pub eval-returns-in_err-out : goal.eval-returns-in_err-out
eval-returns-in_err-out t c = stopped _ c.from_residual.ensures (eval_go _ _ _ _ _ _ c.if-depth-eq0.false (at_any (up_on (ran_err c.live.ensures c.branch-out.ensures c.in_err-out.is 0)) 0))

pub eval-returns : goal.eval-returns
eval-returns t c = record { gives = eval_go _ _ _ _ _ _ c.if-depth-eq0.false (up_on (ran_ok c.live.ensures c.branch-out.ensures c.in_ok-out.is)); low = omega (arith, ran_low c.live.ensures c.branch-out.ensures c.in_ok-out.is, c.if-depth-eq0.false) }

pub expression-returns-in-1 : goal.expression-returns-in-1
unfolding expression_of
expression-returns-in-1 t c = record { gives = search steps depth 12; low = search rules }

pub expression-returns-in-2 : goal.expression-returns-in-2
unfolding expression_of
expression-returns-in-2 t c = record { gives = search steps depth 12; low = search rules }

pub expression-returns-in-3 : goal.expression-returns-in-3
unfolding expression_of
expression-returns-in-3 t c = record { gives = search steps depth 12; low = search rules }

pub expression-returns-in-4 : goal.expression-returns-in-4
unfolding expression_of
expression-returns-in-4 t c = record { gives = search steps depth 12; low = search rules }

pub expression-returns-in-5 : goal.expression-returns-in-5
unfolding expression_of
expression-returns-in-5 t c = record { gives = search steps depth 12; low = search rules }

pub expression-returns-in-6 : goal.expression-returns-in-6
unfolding expression_of
expression-returns-in-6 t c = record { gives = search steps depth 12; low = search rules }

pub expression-returns-in-7 : goal.expression-returns-in-7
unfolding expression_of
expression-returns-in-7 t c = record { gives = search steps depth 12; low = search rules }

pub expression-returns-in-8 : goal.expression-returns-in-8
unfolding expression_of
expression-returns-in-8 t c = record { gives = search steps depth 12; low = search rules }

pub expression-returns-in_default : goal.expression-returns-in_default
unfolding expression_of
expression-returns-in_default t c = record { gives = search steps depth 12; low = search rules }

pub live-returns-then-halts : goal.live-returns-then-halts
unfolding live_of
live-returns-then-halts t c = rw c.halt.ensures (record { gives = search steps depth 12; low = search rules })

pub live-returns : goal.live-returns
unfolding live_of
live-returns t c = record { gives = search steps depth 12; low = search rules }

pub targets-loop-leaf-preserved-then-leaf-ne-PROCEDURE_TERM : goal.targets-loop-leaf-preserved-then-leaf-ne-PROCEDURE_TERM
targets-loop-leaf-preserved-then-leaf-ne-PROCEDURE_TERM t c =
    let i = c.loop-leaf.invariant in
    (omega (arith, i.0), (i.1.0, turns_next _ _ i.1.1 _ _ (drop_more c.args.leaves.now c.loop-leaf.leaf-index _ (omega arith)) (target_passed _ _ _ _ _ _ c.if-leaf-ne-PROCEDURE_TERM.true) refl (omega arith)))

pub targets-loop-leaf-preserved : goal.targets-loop-leaf-preserved
targets-loop-leaf-preserved t c =
    let i = c.loop-leaf.invariant in (
      omega (arith, i.0, ap length c.push.ensures, length_push c.loop-leaf.results c.branch-leaf.result),
      (
        omega (arith, c.max-used.ensures, i.1.0, ran_low c.apply.ensures c.branch-out.ensures c.in_ok-out.is),
        turns_next _ _ i.1.1 _ _ (drop_more c.args.leaves.now c.loop-leaf.leaf-index _ (omega arith))
            (target_run _ _ _ _ _ _ c.if-leaf-ne-PROCEDURE_TERM.false (ran_ok c.apply.ensures c.branch-out.ensures c.in_ok-out.is) refl (rw (← c.branch-leaf.ensures) c.push.ensures)) refl c.max-used.ensures,
      ),
    )

pub targets-returns-in_err-out : goal.targets-returns-in_err-out
unfolding targets_of
targets-returns-in_err-out t c =
    let i = c.loop-leaf.invariant in
    stopped _ c.from_residual.ensures
    (gives_stop _ (turns_stop _ _ i.1.1 _ _ (drop_more c.args.leaves.now c.loop-leaf.leaf-index _ (omega arith))
    (target_stop _ _ _ _ _ _ c.if-leaf-ne-PROCEDURE_TERM.false (ran_err c.apply.ensures c.branch-out.ensures c.in_err-out.is 0) refl 0) refl 0) 0)

pub targets-returns-in_err-result : goal.targets-returns-in_err-result
unfolding targets_of
targets-returns-in_err-result t c =
    let i = c.loop-leaf.invariant in
    stopped _ c.from_residual-in_err-result.ensures
    (at_any (run_on _ (turns_end _ _ i.1.1 (drop_all c.loop-leaf.leaf-index c.args.leaves.now (omega arith))) refl
    (rw (c.as_slice.ensures, c.branch-result.ensures, c.in_err-result.is) at c.merge.ensures) refl) 0)

pub targets-returns : goal.targets-returns
unfolding targets_of
targets-returns t c =
    let i = c.loop-leaf.invariant in
    record {
      gives = run_end _ (turns_end _ _ i.1.1 (drop_all c.loop-leaf.leaf-index c.args.leaves.now (omega arith))) refl (rw (c.as_slice.ensures, c.branch-result.ensures, c.in_ok-result.is) at c.merge.ensures);
      low = i.1.0;
    }

pub under-returns-in_err-bound : goal.under-returns-in_err-bound
unfolding under_of
under-returns-in_err-bound t c = stopped _ c.from_residual.ensures (search steps depth 12)

pub under-returns : goal.under-returns
unfolding under_of
under-returns t c = record { gives = try_on _ c.branch-bound.ensures c.make_binding.ensures c.in_ok-bound.is c.eval.ensures.gives; low = c.eval.ensures.low }
