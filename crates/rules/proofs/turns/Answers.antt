-- At most one turn for each record. Assumes nothing.
use Rattle.rules.proofs.OneTurn.{turns_few}
use Rattle.rules.proofs.turns.Goals as goal

pub returns-clause-few : goal.returns-clause-few
returns-clause-few c = rw c.counted.ensures.turns (turns_few c.args.rule.now)
