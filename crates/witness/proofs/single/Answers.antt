-- `witness::single`: a hit, or none. Assumes nothing.
use borrow.Author.Rules.{rules}
use Rattle.witness.proofs.Halves.{single_found, single_missed}
use Rattle.witness.proofs.single.Goals as goal

pub returns-then-reaches-clause-hit : goal.returns-then-reaches-clause-hit
returns-then-reaches-clause-hit c = single_found c.args.goal c.args.res _ c.args.numbers {o = c.read_under-outcome.result} (search rules) c.reaches.ensures c.if-reaches.true

pub returns-else-reaches-clause-hit : goal.returns-else-reaches-clause-hit
returns-else-reaches-clause-hit c = single_missed c.args.goal c.args.res _ c.args.numbers {o = c.read_under-outcome.result} (search rules) c.reaches.ensures c.if-reaches.false
