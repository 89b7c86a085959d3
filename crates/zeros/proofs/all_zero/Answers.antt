-- `all` finds each byte zero. Assumes nothing.
use Rattle.std.proofs.Common.{rules, ◌∙◌}
use borrow.Author.Tests.{tests}
use Rattle.std.proofs.lemmas.Iterator.{YieldsList-from_slice}
use Rattle.std.proofs.lemmas.Iterator.Search.{all_from_yields_List}
use Rattle.zeros.proofs.Zeros.{every_all}
use Rattle.semantics.specs.Fits.{is_zero}
use Rattle.zeros.proofs.all_zero.Goals as goal

pub returns : goal.returns
unfolding is_zero
returns c = all_from_yields_List is_zero _ _ c.all.result c.all.ensures.ran (YieldsList-from_slice c.args.s.now cc) (λ x b q k. search (rules, tests)) ∙ every_all is_zero c.args.s.now
