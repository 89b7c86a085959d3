-- A report stands at its term's places, and none past those below i. Assumes nothing.
use Rattle.std.proofs.Common.{◌∙◌, rules}
use Rattle.spans.proofs.Lists.{held_parts}
use Rattle.reader.proofs.Work.{held_out}
use Rattle.spans.proofs.lower.Goals as goal

pub returns-then-i-k : goal.returns-then-i-k
returns-then-i-k c = c.open_report.ensures ∙ held_out _ _ _ _ _ c.if-i-k.true

pub returns : goal.returns
returns c = search (rules, held_parts)
