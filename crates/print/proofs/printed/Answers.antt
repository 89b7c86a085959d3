-- `printed` meets its contract. Assumes nothing.
use mathlib.Core.Path.{sym, ◌∙◌}
use borrow.Author.Rules.{rules}
use Rattle.print.proofs.Taken.{long_enough}
use Rattle.print.proofs.Written.{written_cut, written_refused, written_evaluated}
use Rattle.print.proofs.printed.Goals as goal

pub returns-then-not-whole : goal.returns-then-not-whole
returns-then-not-whole c = written_cut _ c.whole.ensures (search rules) c.put_refusal.ensures

pub slice_bounds-put_evaluation-count : goal.slice_bounds-put_evaluation-count
slice_bounds-put_evaluation-count c = long_enough _ (sym c.whole.ensures ∙ c.if-not-whole.false)

pub slice_bounds-put_evaluation-start : goal.slice_bounds-put_evaluation-start
slice_bounds-put_evaluation-start c = long_enough _ (sym c.whole.ensures ∙ c.if-not-whole.false)

pub returns-in-Ok : goal.returns-in-Ok
returns-in-Ok c = written_evaluated _ c.whole.ensures c.if-not-whole.false c.all.ensures c.in-Ok.ensures c.put_evaluation.ensures

pub returns-in-Err : goal.returns-in-Err
returns-in-Err c = written_refused _ c.whole.ensures c.if-not-whole.false c.all.ensures c.in-Err.refusal c.in-Err.ensures c.number.ensures c.put_refusal-in-Err.ensures
