-- `spans_taken` tests the inputs and their spans in pairs, which is what the definition does. Assumes nothing.
use Rattle.std.proofs.Common.{◌∙◌}
use Rattle.spans.proofs.Inputs.{taken_pairs}
use Rattle.spans.proofs.spans_taken.Goals as goal

pub returns : goal.returns
returns c = c.each_taken.ensures ∙ taken_pairs c.args.inputs c.args.lows c.args.highs
