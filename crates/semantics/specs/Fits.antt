-- 3: "the session and table do not fit" (document 01, "Evaluate"). Assumes nothing.
use Rattle.std.specs.Prelude.{ℕ, ◌*◌, ◌-◌, Bool, true, false, not, ◌&&◌, ◌||◌, List, [], ◌∷◌, eqb, leb, length, take, drop}
use Rattle.notation.specs.Notation.{every}
use Rattle.semantics.specs.declared.Term.{Term}
use Rattle.semantics.specs.declared.Session.{Session}
use Rattle.semantics.specs.Numbers.{free_truth_term, free_word_term, rule_limit}
use Rattle.semantics.specs.Records.{records_in}
use Rattle.semantics.specs.Terms.{terms_in, same_of, names_truth, well_formed}
use Rattle.semantics.specs.Opening.{bad_table_size, input_taken, opening}

-- "the table does not begin as opening would write it"
unfoldable pub same_terms : List Term → List Term → Bool
same_terms [] [] = true
same_terms [] (u ∷ us) = false
same_terms (t ∷ ts) [] = false
same_terms (t ∷ ts) (u ∷ us) = same_of t u && same_terms ts us

-- "a free input stands past that"
unfoldable pub no_free : Term → Bool
no_free t = not (eqb t.kind free_truth_term || eqb t.kind free_word_term)

-- "the tail is not zero"
unfoldable pub is_zero : ℕ → Bool
is_zero b = eqb b 0

-- the session and table fit: each clause of 3 in its order
unfoldable pub fits_of : Session → List ℕ → Bool
fits_of x s =
    let o : List Term = (opening x.inputs).terms in
    let ts : List Term = terms_in s x.count in
    not (bad_table_size (length s)) && (every input_taken x.inputs
    && (leb (length o) x.count && (leb x.count (records_in s)
    && (same_terms (terms_in s (length o)) o && (every no_free (take (x.count - length o) ts)
    && (well_formed x.accepted ts
    && (every is_zero (drop (8 * x.count) s)
    && (names_truth ts x.state.assumed && (names_truth ts x.state.asserted
    && leb x.accepted rule_limit)))))))))
