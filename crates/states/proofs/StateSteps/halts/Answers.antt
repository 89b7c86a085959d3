-- `State::halts` meets its contract. Assumes nothing.
use borrow.Author.Rules.{rules}
use mathlib.Core.Path.{sym, ◌∙◌}
use Rattle.states.proofs.Halting.{assumed_false, asserted_said}
use Rattle.states.proofs.StateSteps.halts.Goals as goal

pub returns-then-eq : goal.returns-then-eq
returns-then-eq c = c.if-eq.true ∙ assumed_false _ _ _ c.known.ensures (sym c.eq.ensures ∙ c.if-eq.true)

pub returns-else-eq : goal.returns-else-eq
returns-else-eq c = c.eq-else-eq.ensures ∙ asserted_said _ _ _ c.known.ensures (sym c.eq.ensures ∙ c.if-eq.false) _ c.known-else-eq.ensures
