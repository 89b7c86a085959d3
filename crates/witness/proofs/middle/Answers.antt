-- `witness::middle`: as the definition says. Assumes nothing.
use mathlib.Core.Path.{refl}
use Rattle.witness.specs.Search.{middle_of}
use Rattle.witness.proofs.middle.Goals as goal

pub returns-clause-halfway : goal.returns-clause-halfway
unfolding middle_of
returns-clause-halfway c = refl
