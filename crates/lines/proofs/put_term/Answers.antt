-- `lines::put_term` meets its contract: the fields in turn. Assumes nothing.
use Rattle.semantics.specs.Print.{term_line}
use Rattle.lines.specs.Lines.{line_text}
use Rattle.lines.proofs.put_term.Goals as goal

pub returns : goal.returns
unfolding line_text term_line
returns c = rw (c.from.ensures, c.from-2.ensures) at c.put_numbers.ensures
