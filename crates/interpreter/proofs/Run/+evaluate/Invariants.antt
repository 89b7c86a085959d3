-- The depth, which each run of a part has one less of. Assumes nothing.
use Rattle.interpreter.proofs.Run.+evaluate.Given as goal

abbrev pub decreases-evaluate : goal.decreases-evaluate
decreases-evaluate l = l.depth
