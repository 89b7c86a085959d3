-- `parts::fork` meets its contract: it follows the text of its definition. Assumes nothing.
use borrow.Author.Rules.{rules}
use Rattle.terms.proofs.Gives.{steps}
use Rattle.semantics.specs.Evaluation.{fork_of}
use Rattle.parts.proofs.Onward.{mapped_stop}
use Rattle.parts.proofs.fork.Goals as goal

pub returns-in_err-guard : goal.returns-in_err-guard
unfolding fork_of
returns-in_err-guard c = mapped_stop _ _ c.from_residual.ensures (search steps depth 12)

pub returns-in_err-yes : goal.returns-in_err-yes
unfolding fork_of
returns-in_err-yes c = mapped_stop _ _ c.from_residual-in_err-yes.ensures (search steps depth 12)

pub returns-in_err-no : goal.returns-in_err-no
unfolding fork_of
returns-in_err-no c = mapped_stop _ _ c.from_residual-in_err-no.ensures (search steps depth 12)

pub returns : goal.returns
unfolding fork_of
returns c = search steps depth 12
