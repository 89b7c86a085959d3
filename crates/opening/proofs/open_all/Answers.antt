-- `opening::open_all` meets its contract: it follows the text of its definition. Assumes nothing.
use borrow.Author.Rules.{rules}
use Rattle.terms.proofs.Gives.{steps}
use Rattle.opening.specs.Openings.{open_all}
use Rattle.opening.proofs.Inputs.{open_whole}
use Rattle.opening.proofs.open_all.Goals as goal

pub returns-in_err-make_truth : goal.returns-in_err-make_truth
unfolding open_all
returns-in_err-make_truth c = search steps depth 12

pub returns-in_err-make_truth-2 : goal.returns-in_err-make_truth-2
unfolding open_all
returns-in_err-make_truth-2 c = search steps depth 12

pub returns : goal.returns
unfolding open_all
returns c = search (steps, rules, open_whole) depth 12
