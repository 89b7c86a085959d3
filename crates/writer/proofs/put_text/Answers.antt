-- `writer::put_text` meets its contract: header, terms, goal. Assumes nothing.
use borrow.Author.Rules.{rules}
use mathlib.Core.Path.{refl}
use Rattle.cursor.proofs.Fit.{filled}
use Rattle.cursor.proofs.Writing.{onward, said}
use Rattle.writer.proofs.Whole.{whole_text, text_short}
use Rattle.writer.proofs.put_text.Goals as goal

pub returns-clause-text : goal.returns-clause-text
returns-clause-text c =
    filled
    (said (onward c.put_header.ensures (onward c.put_terms.ensures c.put_goal.ensures))
    (whole_text _ _ _ _ c.add_up-totals.ensures c.goal_count.ensures.0 (search rules) (search rules)))
    refl (λ same. search rules)

pub returns-clause-short : goal.returns-clause-short
returns-clause-short c =
    text_short _ _ _ _ (search rules) c.add_up-totals.ensures (search rules) c.goal_count.ensures.0 c.goal_count.ensures.1 c.goal_count.ensures.2
