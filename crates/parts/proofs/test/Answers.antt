-- `parts::test` meets its contract: it follows the text of its definition. Assumes nothing.
use borrow.Author.Rules.{rules}
use Rattle.terms.proofs.Gives.{steps}
use Rattle.semantics.specs.Evaluation.{if_of}
use Rattle.parts.proofs.Onward.{refused, onward}
use Rattle.parts.proofs.test.Goals as goal

pub returns-in_err-guard : goal.returns-in_err-guard
unfolding if_of
returns-in_err-guard c = refused _ c.from_residual.ensures (λ b u. search steps depth 12)

pub returns-in-Some-true : goal.returns-in-Some-true
unfolding if_of
returns-in-Some-true c = onward _ (λ b u x z g. search steps depth 12)

pub returns-in-Some-false : goal.returns-in-Some-false
unfolding if_of
returns-in-Some-false c = onward _ (λ b u x z g. search steps depth 12)

pub returns-in-None : goal.returns-in-None
unfolding if_of
returns-in-None c = onward _ (λ b u x z g. search steps depth 12)
