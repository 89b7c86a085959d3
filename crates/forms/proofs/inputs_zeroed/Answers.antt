-- The zeros are looked at one after another. Assumes nothing.
use Rattle.std.proofs.Common.{◌∙◌, refl, arith, rules}
use Rattle.std.proofs.lemmas.Iterator.{YieldsList-from_range}
use Rattle.std.proofs.lemmas.Iterator.Search.{all_from_yields_List}
use Rattle.semantics.specs.Print.{input_zeroed}
use Rattle.forms.specs.Forms.{inputs_zeroed}
use Rattle.forms.proofs.Taken.{all_below}
use Rattle.forms.proofs.inputs_zeroed.Goals as goal

pub returns : goal.returns
unfolding inputs_zeroed
returns c =
    all_from_yields_List (input_zeroed c.args.s.now) _ _ _ c.all.ensures.ran (YieldsList-from_range 0 16 16 refl (omega arith)) (λ x b q k. search rules)
    ∙ all_below (input_zeroed c.args.s.now) 16
