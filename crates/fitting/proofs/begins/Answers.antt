-- The terms are compared from term 0 up. Assumes nothing.
use Rattle.std.proofs.Common.{◌∙◌, refl, arith, rules}
use Rattle.std.proofs.lemmas.Iterator.{YieldsList-from_range}
use Rattle.std.proofs.lemmas.Iterator.Search.{all_from_yields_List}
use Rattle.semantics.specs.Terms.{term_at, same_of}
use Rattle.fitting.proofs.Loops.{all_same}
use Rattle.fitting.proofs.begins.Goals as goal

pub returns : goal.returns
returns c =
    all_from_yields_List (λ i. same_of (term_at c.args.table.now i) (term_at c.args.fresh.now i)) _ _ _ c.all.ensures.ran
    (YieldsList-from_range 0 c.args.n c.args.n refl (omega arith)) (λ x b q k. search rules)
    ∙ all_same c.args.table.now c.args.fresh.now c.args.n
