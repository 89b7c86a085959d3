-- The texts of two small tables, computed: of the two constants and an error, and of a shift of a free word by a constant that gives a word. Assumes
-- nothing.
use mathlib.Core.Path.{◌≡◌, refl}
use mathlib.Core.Bool.{false}
use mathlib.Core.List.{[], ◌∷◌}
use Prim.Native.Nat.{ℕ}
use Rattle.notation.specs.Notation.{with, when◌then◌else◌, if◌equals◌then◌else◌, if◌below◌then◌else◌}
use Rattle.text.specs.Text.{ascii, decimal_within, decimal_of}
use Rattle.words.specs.Words.{low_of, high_of, join_of}
use Rattle.circuits.specs.Circuits.{shifted_down, masks}
use Rattle.circuits.specs.Templates.{shift_by_gates}
use Rattle.semantics.specs.declared.Result.{Result}
use Rattle.semantics.specs.declared.Goal.TheVariants.{Errs, Gives}
use Rattle.semantics.specs.Numbers.{truth_term, free_word_term, operator_term, right_code}
use Rattle.semantics.specs.Terms.{term, at, word_term_of}
use Rattle.clauses.specs.Clauses.{digits, operation_gates, term_gates, helpers, helpers_of, helpers_in, term_clauses, table_clauses, goal_clauses, clauses_for}
use Rattle.dimacs.specs.Text.{literal_text, clause_text, clauses_text, header_text, text_for}

-- S and T are true, and the value is term n
abbrev given : ℕ → Result
given n = record { state = record { assumed = 1; asserted = 1 }; value = n; halted = false }

constants_err : text_for 2 (term truth_term 0 1 0 0 ∷ term truth_term 0 0 0 0 ∷ []) (given 0) Errs
    ≡ ascii "p cnf 36 37\n-1 0\n-2 0\n-3 0\n-4 0\n-5 0\n-6 0\n-7 0\n-8 0\n-9 0\n-10 0\n-11 0\n-12 0\n-13 0\n-14 0\n-15 0\n-16 0\n-17 0\n-18 0\n-19 0\n-20 0\n21 0\n-22 0\n-23 0\n-24 0\n-25 0\n-26 0\n-27 0\n-28 0\n-29 0\n-30 0\n-31 0\n-32 0\n-33 0\n-34 0\n-35 0\n-36 0\n-21 0\n"
unfolding text_for clauses_for table_clauses term_clauses goal_clauses term_gates digits helpers helpers_of helpers_in at header_text clauses_text clause_text literal_text decimal_of decimal_within with when◌then◌else◌ if◌equals◌then◌else◌ if◌below◌then◌else◌
constants_err = refl

shift_gives : text_for 5 (term operator_term right_code 3 2 0 ∷ term free_word_term 0 0 0 0 ∷ word_term_of 14 ∷ term truth_term 0 1 0 0 ∷ term truth_term 0 0 0 0 ∷ []) (given 4) (Gives 3)
    ≡ ascii "p cnf 91 129\n-1 0\n-2 0\n-3 0\n-4 0\n-5 0\n-6 0\n-7 0\n-8 0\n-9 0\n-10 0\n-11 0\n-12 0\n-13 0\n-14 0\n-15 0\n-16 0\n-17 0\n-18 0\n-19 0\n-20 0\n21 0\n-22 0\n-23 0\n-24 0\n-25 0\n-26 0\n-27 0\n-28 0\n-29 0\n-30 0\n-31 0\n-32 0\n-33 0\n-34 0\n-35 0\n-36 0\n37 0\n-38 0\n-39 0\n40 0\n41 0\n42 0\n-43 0\n-44 0\n-45 0\n-46 0\n-47 0\n-48 0\n-49 0\n-50 0\n-51 0\n-52 0\n-53 0\n-54 0\n55 0\n-56 0\n73 0\n-74 0\n-91 55 0\n-91 -56 0\n91 -55 56 0\n-75 91 0\n-75 71 0\n75 -91 -71 0\n-76 91 0\n-76 72 0\n76 -91 -72 0\n-77 91 0\n-77 -21 0\n77 -91 21 0\n-78 91 0\n-78 -21 0\n78 -91 21 0\n-79 91 0\n-79 -21 0\n79 -91 21 0\n-80 91 0\n-80 -21 0\n80 -91 21 0\n-81 91 0\n-81 -21 0\n81 -91 21 0\n-82 91 0\n-82 -21 0\n82 -91 21 0\n-83 91 0\n-83 -21 0\n83 -91 21 0\n-84 91 0\n-84 -21 0\n84 -91 21 0\n-85 91 0\n-85 -21 0\n85 -91 21 0\n-86 91 0\n-86 -21 0\n86 -91 21 0\n-87 91 0\n-87 -21 0\n87 -91 21 0\n-88 91 0\n-88 -21 0\n88 -91 21 0\n-89 91 0\n-89 -21 0\n89 -91 21 0\n-90 91 0\n-90 -21 0\n90 -91 21 0\n21 0\n21 0\n73 0\n-74 0\n75 0\n76 0\n-77 0\n-78 0\n-79 0\n-80 0\n-81 0\n-82 0\n-83 0\n-84 0\n-85 0\n-86 0\n-87 0\n-88 0\n-89 0\n-90 0\n"
unfolding text_for clauses_for table_clauses term_clauses goal_clauses term_gates operation_gates shift_by_gates shifted_down masks digits helpers helpers_of helpers_in at low_of high_of join_of header_text clauses_text clause_text literal_text decimal_of decimal_within with when◌then◌else◌ if◌equals◌then◌else◌ if◌below◌then◌else◌
shift_gives = refl
