-- `parts::enter` meets its contract: it follows the text of its definition. Assumes nothing.
use borrow.Author.Rules.{rules}
use Rattle.terms.proofs.Gives.{steps}
use Rattle.semantics.specs.Evaluation.{apply_of, under_of}
use Rattle.parts.proofs.Onward.{refused, onward}
use Rattle.parts.proofs.enter.Goals as goal

pub returns-in_err-state : goal.returns-in_err-state
unfolding apply_of
returns-in_err-state c = refused _ c.from_residual.ensures (λ b u. search steps depth 12)

pub returns-in_err-env : goal.returns-in_err-env
unfolding apply_of under_of
returns-in_err-env c = refused _ c.from_residual-in_err-env.ensures (λ b u. search steps depth 12)

pub returns : goal.returns
unfolding apply_of under_of
returns c = onward _ (λ b u x z g. search steps depth 12)
