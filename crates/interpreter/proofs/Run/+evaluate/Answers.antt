-- What an expression of each kind comes to. Assumes nothing.
use Rattle.std.proofs.lemmas.Result.{err_from_is_err_and}
use Rattle.interpreter.proofs.Runs.{run_spent, run_call_full, run_let_stop, run_let_full, run_datum, run_variable, run_procedure, run_call, run_no_call, run_operator, run_let, run_else, run_then, run_abort, run_error}
use Rattle.interpreter.proofs.Run.+evaluate.Goals as goal

pub returns-then-depth-eq0 : goal.returns-then-depth-eq0
returns-then-depth-eq0 t c = run_spent _ _ _ _ c.if-depth-eq0.true

pub returns-in_err-under-in-Procedure : goal.returns-in_err-under-in-Procedure
returns-in_err-under-in-Procedure t c =
    let p = err_from_is_err_and c.from_residual.result c.from_residual.ensures.1 in
    rw (p.1, p.2, c.in_err-under-in-Procedure.ensures.full.0) (run_call_full _ _ _ _ c.if-depth-eq0.false c.record_at-x.ensures c.in-4.is c.find-in-4.ensures c.in-Procedure.is c.in_err-under-in-Procedure.ensures.full.1)

pub returns-in_err-value-in-6 : goal.returns-in_err-value-in-6
returns-in_err-value-in-6 t c =
    let p = err_from_is_err_and c.from_residual-in_err-value-in-6.result c.from_residual-in_err-value-in-6.ensures.1 in
    rw (p.1, p.2) (run_let_stop _ _ _ _ c.if-depth-eq0.false c.record_at-x.ensures c.in-6.is c.in_err-value-in-6.ensures)

pub returns-in_err-under-in-6 : goal.returns-in_err-under-in-6
returns-in_err-under-in-6 t c =
    let p = err_from_is_err_and c.from_residual-in_err-under-in-6.result c.from_residual-in_err-under-in-6.ensures.1 in
    rw (p.1, p.2, c.in_err-under-in-6.ensures.full.0) (run_let_full _ _ _ _ c.if-depth-eq0.false c.record_at-x.ensures c.in-6.is c.requires c.in_ok-value-in-6.ensures c.in_err-under-in-6.ensures.full.1)

pub returns-in-1 : goal.returns-in-1
returns-in-1 t c = run_datum _ _ _ _ c.if-depth-eq0.false c.record_at-x.ensures c.in-1.is c.datum.ensures.value c.datum.ensures.plain

pub returns-in-2 : goal.returns-in-2
returns-in-2 t c = run_variable _ _ _ _ c.if-depth-eq0.false c.record_at-x.ensures c.in-2.is c.requires c.find.ensures

pub returns-in-3 : goal.returns-in-3
returns-in-3 t c = run_procedure _ _ _ _ c.if-depth-eq0.false c.record_at-x.ensures c.in-3.is c.requires

pub returns-in_ok-under-in-Procedure : goal.returns-in_ok-under-in-Procedure
returns-in_ok-under-in-Procedure t c = run_call _ _ _ _ c.if-depth-eq0.false c.record_at-x.ensures c.in-4.is c.find-in-4.ensures c.in-Procedure.is c.find-argument.ensures c.record_at-body.ensures c.in_ok-under-in-Procedure.ensures.taken c.evaluate.ensures

pub returns-in_default-find : goal.returns-in_default-find
returns-in_default-find t c = run_no_call _ _ _ _ c.if-depth-eq0.false c.record_at-x.ensures c.in-4.is c.find-in-4.ensures c.in_default-find.not-Procedure

pub returns-in-5 : goal.returns-in-5
returns-in-5 t c = run_operator _ _ _ _ c.if-depth-eq0.false c.record_at-x.ensures c.in-5.is c.find-in-5.ensures c.find-in-5-2.ensures c.operator.ensures.end c.operator.ensures.plain

pub returns-in_ok-under-in-6 : goal.returns-in_ok-under-in-6
returns-in_ok-under-in-6 t c = run_let _ _ _ _ c.if-depth-eq0.false c.record_at-x.ensures c.in-6.is c.requires c.in_ok-value-in-6.ensures c.in_ok-under-in-6.ensures.taken c.evaluate-in-6-2.ensures

pub returns-then-is_false : goal.returns-then-is_false
returns-then-is_false t c = run_else _ _ _ _ c.if-depth-eq0.false c.record_at-x.ensures c.in-7.is c.find-in-7.ensures c.is_false.ensures c.if-is_false.true c.evaluate-then-is_false.ensures

pub returns-else-is_false : goal.returns-else-is_false
returns-else-is_false t c = run_then _ _ _ _ c.if-depth-eq0.false c.record_at-x.ensures c.in-7.is c.find-in-7.ensures c.is_false.ensures c.if-is_false.false c.evaluate-else-is_false.ensures

pub returns-in-8 : goal.returns-in-8
returns-in-8 t c = run_abort _ _ _ _ c.if-depth-eq0.false c.record_at-x.ensures c.in-8.is

pub returns-in_default : goal.returns-in_default
returns-in_default t c = search run_error
