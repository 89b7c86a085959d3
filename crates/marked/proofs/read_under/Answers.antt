-- The marks are closed, so that the pass reads what the result stands on. Assumes nothing.
use Rattle.std.proofs.Common.{◌∙◌}
use Rattle.marked.proofs.Marked.{closed_under, held_result}
use Rattle.marked.proofs.read_under.Goals as goal

pub read_marked-requires-clause-closed : goal.read_marked-requires-clause-closed
read_marked-requires-clause-closed c = closed_under _ _ _ c.requires

pub returns-clause-outcome : goal.returns-clause-outcome
returns-clause-outcome c = c.outcome_held.ensures ∙ held_result _ _ _ c.requires c.read_marked.ensures
