-- The measure is how far the highs are above the lows.
use Rattle.witness.specs.Search.{spread}
use Rattle.witness.proofs.+search.Given as goal

abbrev pub decreases-search : goal.decreases-search
decreases-search l = spread l.bounds.lows l.bounds.highs
