-- The opening made anew is well formed, and decides. Assumes nothing.
use Rattle.std.proofs.Common.{rules}
use Rattle.fitting.proofs.Begun.{opened_formed}
use Rattle.fitting.proofs.Whole.{then_given, fits_on}
use Rattle.fitting.proofs.start_of.Goals as goal

pub opening_fits-requires : goal.opening_fits-requires
opening_fits-requires c = search (rules, opened_formed)

pub returns-clause-fits : goal.returns-clause-fits
returns-clause-fits c = search (fits_on, then_given) fits 20000
