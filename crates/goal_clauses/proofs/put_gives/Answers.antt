-- `goal_clauses::put_gives` meets its contract: a halt, or not. Assumes nothing.
use Rattle.cursor.proofs.Writing.{said, onward}
use Rattle.goal_clauses.proofs.Goals.{gives_halted, gives_word}
use Rattle.goal_clauses.proofs.put_gives.Goals as goal

pub returns-then-res : goal.returns-then-res
returns-then-res c = said c.put_end.ensures (gives_halted c.args.res _ c.if-res.true)

pub returns : goal.returns
returns c =
    said (onward c.put_units.ensures c.put_term.ensures) (gives_word c.args.res _ c.if-res.false c.word_term-word.ensures c.truth-s.ensures.0 c.truth-t.ensures.0)
