-- The measure is how many inputs are left.
use Rattle.std.proofs.Common.{◌-◌}
use Rattle.opening.proofs.+open_from.Given as goal

abbrev pub decreases-open_from : goal.decreases-open_from
decreases-open_from l = 16 - l.i
