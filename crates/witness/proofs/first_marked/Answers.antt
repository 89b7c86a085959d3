-- `witness::first_marked`: a search of the inputs that the result stands on is one of all. Assumes nothing.
use native.Mathlib.Omega.{arith}
use Rattle.witness.proofs.Ends.{narrow_for, narrow_found}
use Rattle.witness.proofs.first_marked.Goals as goal

pub search_among-requires-clause-searched : goal.search_among-requires-clause-searched
search_among-requires-clause-searched c = let stood = c.stood_on-stood.ensures in narrow_for _ _ _ c.args.goal (omega arith) (omega arith) c.requires.searched stood.highs stood.lows

pub search_among-requires-else-count-le-FEW_TERMS-clause-searched : goal.search_among-requires-else-count-le-FEW_TERMS-clause-searched
search_among-requires-else-count-le-FEW_TERMS-clause-searched c =
    let stood = c.stood_on-stood.ensures in narrow_for _ _ _ c.args.goal (omega arith) (omega arith) c.requires.searched stood.highs stood.lows

pub returns-then-count-le-FEW_TERMS : goal.returns-then-count-le-FEW_TERMS
returns-then-count-le-FEW_TERMS c =
    let stood = c.stood_on-stood.ensures in narrow_found _ _ _ _ (omega arith) (omega arith) c.requires.searched stood.highs stood.lows c.search_among.ensures

pub returns-else-count-le-FEW_TERMS : goal.returns-else-count-le-FEW_TERMS
returns-else-count-le-FEW_TERMS c =
    let stood = c.stood_on-stood.ensures in narrow_found _ _ _ _ (omega arith) (omega arith) c.requires.searched stood.highs stood.lows c.search_among-else-count-le-FEW_TERMS.ensures
