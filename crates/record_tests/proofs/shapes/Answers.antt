-- Every record below n is tested. Assumes nothing.
use Rattle.std.proofs.Common.{ℕ, ◌∙◌, refl, rules, arith}
use Rattle.std.proofs.lemmas.Iterator.{YieldsList-from_range}
use Rattle.std.proofs.lemmas.Iterator.Search.{all_from_yields_List}
use Rattle.semantics.specs.Records.{record_at}
use Rattle.semantics.specs.Rules.{shaped_of}
use Rattle.record_tests.proofs.Follow.{tests}
use Rattle.record_tests.proofs.Below.{below}
use Rattle.record_tests.proofs.shapes.Goals as goal

pub returns : goal.returns
returns c =
    let shaped_at = λ (i : ℕ). shaped_of (record_at c.args.rule.now i) in
    all_from_yields_List shaped_at _ _ c.all.result c.all.ensures.ran (YieldsList-from_range 0 c.args.n c.args.n refl (omega arith))
    (λ x b q k. search (rules, tests))
    ∙ below shaped_at c.args.n
