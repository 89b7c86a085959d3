-- `numbers_taken` tests the inputs and the numbers in pairs, which is what the definition does. Assumes nothing.
use Rattle.std.proofs.Common.{◌∙◌}
use Rattle.reading_tests.proofs.Taken.{taken_pairs}
use Rattle.reading_tests.proofs.numbers_taken.Goals as goal

pub returns : goal.returns
returns c = c.each_taken.ensures ∙ taken_pairs c.args.inputs c.args.numbers
