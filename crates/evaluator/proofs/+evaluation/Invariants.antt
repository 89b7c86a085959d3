-- Evaluating an expression and applying a procedure. The measure is the depth, seven times over, and a number by which each function on the way to the
-- next expression is below the one that calls it. The invariant of the loop over the targets: what is left, from a leaf on, leads from the start.
-- Assumes nothing.
use Rattle.std.proofs.Common.{◌≤◌, ◌+◌, ◌*◌, [], length, drop}
use Rattle.semantics.specs.Steps.{each}
use Rattle.semantics.specs.Evaluation.{target_of, eval_of}
use Rattle.terms.specs.Gives.{Leads}
use Rattle.evaluator.proofs.+evaluation.Given as goal

abbrev pub decreases-apply : goal.decreases-apply
decreases-apply l = 7 * l.depth + 2

abbrev pub decreases-bind : goal.decreases-bind
decreases-bind l = 7 * l.depth + 2

abbrev pub decreases-both : goal.decreases-both
decreases-both l = 7 * l.depth + 2

abbrev pub decreases-call : goal.decreases-call
decreases-call l = 7 * l.depth + 4

abbrev pub decreases-decide : goal.decreases-decide
decreases-decide l = 7 * l.depth + 3

abbrev pub decreases-eval : goal.decreases-eval
decreases-eval l = 7 * l.depth

abbrev pub decreases-expression : goal.decreases-expression
decreases-expression l = 7 * l.depth + 5

abbrev pub decreases-live : goal.decreases-live
decreases-live l = 7 * l.depth + 6

abbrev pub decreases-targets : goal.decreases-targets
decreases-targets l = 7 * l.depth + 3

abbrev pub decreases-under : goal.decreases-under
decreases-under l = 7 * l.depth + 1

abbrev pub invariant-targets-loop-leaf : goal.invariant-targets-loop-leaf
invariant-targets-loop-leaf l =
    let run = eval_of l.rule.records.now l.rule.before l.depth in
    let turn = target_of run l.rule.records.now l.arg l.state in
    (length l.results ≤ l.leaf-index) × ((l.used ≤ l.depth) × Leads (each turn [] l.leaves) l.fn.table l.used (each turn l.results (drop l.leaf-index l.leaves)) l.table)
