-- `lines::put_refusal` meets its contract: the number after its word. Assumes nothing.
use borrow.Author.Rules.{rules}
use Rattle.lines.proofs.Lines.{refused_line}
use Rattle.lines.proofs.put_refusal.Goals as goal

pub returns : goal.returns
returns c = refused_line _ (search rules) (rw c.from.ensures at c.put_line.ensures)
