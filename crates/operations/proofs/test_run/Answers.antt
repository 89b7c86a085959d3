-- A rule that is refused, an allowance that is, and a run that passed the tests. Assumes nothing.
use Rattle.operations.proofs.Answers.{run_rule, run_depth, run_taken}
use Rattle.operations.proofs.test_run.Goals as goal

pub returns-in_err-check-clause-refused : goal.returns-in_err-check-clause-refused
returns-in_err-check-clause-refused c =
    run_rule _ _ _ _ c.inputs_taken.ensures c.if-not-inputs_taken.false c.numbers_taken.ensures c.if-not-numbers_taken.false c.check.ensures c.branch-check.ensures
    c.in_err-check.is c.from_residual.result c.from_residual.ensures

pub returns-then-bad_depth-clause-refused : goal.returns-then-bad_depth-clause-refused
returns-then-bad_depth-clause-refused c =
    run_depth _ _ _ _ c.inputs_taken.ensures c.if-not-inputs_taken.false c.numbers_taken.ensures c.if-not-numbers_taken.false c.check.ensures c.branch-check.ensures
    c.in_ok-check.is c.bad_depth.ensures c.if-bad_depth.true

pub returns-clause-taken : goal.returns-clause-taken
returns-clause-taken c =
    run_taken _ _ _ _ c.inputs_taken.ensures c.if-not-inputs_taken.false c.numbers_taken.ensures c.if-not-numbers_taken.false c.check.ensures c.branch-check.ensures
    c.in_ok-check.is c.bad_depth.ensures c.if-bad_depth.false
