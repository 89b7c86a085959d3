-- `printed_from` meets its contract: what stands past a full buffer makes no difference. Assumes nothing.
use native.Mathlib.Omega.{arith}
use borrow.Author.Rules.{rules}
use Rattle.print.proofs.Longer.{full_written}
use Rattle.print.proofs.printed_from.Goals as goal

pub returns-clause-by_index : goal.returns-clause-by_index
returns-clause-by_index c = λ input read. full_written read (search rules) (omega arith) c.printed-2.ensures.is
