-- `witness::find`: each way out. Assumes nothing.
use borrow.Author.Rules.{elem_Fits}
use mir.Syntax.{w16}
use native.Mathlib.Omega.{arith}
use Rattle.std.proofs.result.Match.{err_is}
use Rattle.fitting.proofs.Few.{few_terms}
use Rattle.witness.proofs.Ends.{first_for}
use Rattle.witness.proofs.Whole.{number_some, way_refused, way_taken, way_marked, way_found}
use Rattle.witness.proofs.find.Goals as goal

pub returns-in_err-taken : goal.returns-in_err-taken
returns-in_err-taken c =
    rw (err_is c.from_residual.result c.in_err-taken.field-0.0 c.from_residual.ensures.1)
    (way_refused c.args.session c.args.table.now c.args.res c.args.goal c.args.spanned c.args.lows c.args.highs c.args.work.now c.in_err-taken.ensures (number_some c.in_err-taken.field-0.0))

pub first_marked-requires-clause-searched : goal.first_marked-requires-clause-searched
first_marked-requires-clause-searched c =
    let none = c.in_ok-taken.ensures in
    let taken = way_taken c.args.session c.args.table.now c.args.res c.args.goal c.args.spanned c.args.lows c.args.highs c.args.work.now none in
    let highs-good = c.well_formed.1.1.1.1.1.1.0 in
    let ends = c.bounds-bounds.ensures in
    first_for c.args.session c.args.table.now c.args.res c.args.spanned c.args.lows c.args.highs ends.sixteen c.well_formed.1.1.1.1.1.0.1.0.1 highs-good.1.0.1
    (λ i. omega (arith, c.type_inv.table i)) (λ i. omega (arith, elem_Fits w16 w16 c.args.highs highs-good.0 i highs-good.1.1 tt)) taken.fits taken.spans ends.least ends.greatest
    (way_marked c.args.session c.args.table.now c.args.res c.args.goal c.args.spanned c.args.lows c.args.highs c.args.work.now none c.mark_under.ensures)

pub first_marked-requires-clause-count_fits : goal.first_marked-requires-clause-count_fits
first_marked-requires-clause-count_fits c =
    few_terms c.args.session c.args.table.now (way_taken c.args.session c.args.table.now c.args.res c.args.goal c.args.spanned c.args.lows c.args.highs c.args.work.now c.in_ok-taken.ensures).fits

pub returns : goal.returns
returns c =
    let ends = c.bounds-bounds.ensures in
    way_found c.args.session c.args.table.now c.args.res c.args.goal c.args.spanned c.args.lows c.args.highs c.args.work.now c.in_ok-taken.ensures ends.least ends.greatest c.first_marked.ensures
