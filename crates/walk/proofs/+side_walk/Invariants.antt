-- The measure of the walk is the fuel, twice over, and one more on the way into a side. Assumes nothing.
use Rattle.std.proofs.Common.{◌+◌, ◌*◌}
use Rattle.walk.proofs.+side_walk.Given as goal

abbrev pub decreases-side : goal.decreases-side
decreases-side l = 2 * l.fuel + 1

abbrev pub decreases-walk : goal.decreases-walk
decreases-walk l = 2 * l.fuel
