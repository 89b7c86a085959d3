-- `ranges::ones_range`: a word has no more leading zeros than bits. Assumes nothing.
use native.Mathlib.Omega.{arith}
use lib.Count.{leading_le}
use Rattle.words.specs.Words.{width}
use Rattle.ranges.proofs.ones_range.Goals as goal

pub overflow_sub-leading_zeros : goal.overflow_sub-leading_zeros
overflow_sub-leading_zeros c = omega (arith, leading_le width c.args.x.high, c.leading_zeros.ensures)
