-- The definitions give the reports that the vectors want, by computation. Assumes nothing.
use mathlib.Core.Path.{◌≡◌, refl}
use mathlib.Core.Bool.{true}
use Rattle.semantics.proofs.Computing.{computing}
use Rattle.cases.specs.Table as Table
use Rattle.vectors.specs.Script as Script
use Rattle.span_vectors.specs.Spans as Spans

pub spans_computed : Table.all_hold Spans.spans ≡ true
unfolding computing Table.alike Table.all_hold Table.answer Script.report_numbers Script.played Script.opened_with Script.script Spans.spans
spans_computed = refl
