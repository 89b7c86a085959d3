-- `opening::inputs_taken` meets its contract. Assumes nothing.
use mathlib.Core.Path.{◌∙◌}
use Rattle.semantics.specs.Opening.{input_taken}
use Rattle.opening.proofs.Inputs.{all_every}
use Rattle.opening.proofs.inputs_taken.Goals as goal

pub returns : goal.returns
returns c = c.each_taken.ensures ∙ all_every input_taken c.args.inputs
