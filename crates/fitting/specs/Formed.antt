-- Test 3, cut where the code cuts it. Assumes nothing.
use Rattle.std.specs.Prelude.{ℕ, ◌*◌, ◌-◌, Bool, ◌&&◌, List, leb, length, take, drop}
use Rattle.notation.specs.Notation.{every}
use Rattle.semantics.specs.declared.Term.{Term}
use Rattle.semantics.specs.declared.Session.{Session}
use Rattle.semantics.specs.Numbers.{rule_limit}
use Rattle.semantics.specs.Records.{records_in}
use Rattle.semantics.specs.Terms.{names_truth, terms_in, well_formed}
use Rattle.semantics.specs.Fits.{same_terms, no_free, is_zero}

-- "a formula is no truth below the count, or the accepted count is over 1,000"
abbrev pub formulas_fit : Session → List Term → Bool
formulas_fit x ts = names_truth ts x.state.assumed && (names_truth ts x.state.asserted && leb x.accepted rule_limit)

-- the tail and the formulas
abbrev pub rest_fits : Session → List ℕ → Bool
rest_fits x s = every is_zero (drop (8 * x.count) s) && formulas_fit x (terms_in s x.count)

-- the layout and repeats before them
abbrev pub records_fit : Session → List ℕ → Bool
records_fit x s = well_formed x.accepted (terms_in s x.count) && rest_fits x s

-- the count and the beginning, with an opening's terms os
abbrev pub opening_fits : Session → List ℕ → List Term → Bool
opening_fits x s os =
    leb (length os) x.count && (leb x.count (records_in s) && (same_terms (terms_in s (length os)) os
    && (every no_free (take (x.count - length os) (terms_in s x.count)) && records_fit x s)))
