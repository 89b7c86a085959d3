-- What the run of record 0 comes to, over a store that is zero again. Assumes nothing.
use Rattle.std.proofs.Common.{rules}
use Rattle.interpreter.proofs.Runs.{answer, zeroed}
use Rattle.interpreter.proofs.run_in_store.Goals as goal

pub returns : goal.returns
returns c = (answer _ _ _ c.start-end.ensures.is c.outcome.ensures, zeroed _ c.wipe.ensures (search rules))
