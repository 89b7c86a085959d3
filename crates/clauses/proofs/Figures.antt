-- The figures of docs/CLAUSES.md, computed: `tools/clause_table` writes its table from these. Assumes nothing.
use mathlib.Core.Path.{◌≡◌, refl}
use mathlib.Core.List.{[], ◌∷◌}
use Rattle.notation.specs.Notation.{when◌then◌else◌, if◌equals◌then◌else◌, if◌below◌then◌else◌}
use Rattle.words.specs.Words.{low_of, high_of, join_of}
use Rattle.circuits.specs.Circuits.{add_with, add, carries, ands, product, chosen, barrel, clear, shifted_up, shifted_down, tree, flags, same_bits, sums, pairs, masks, products}
use Rattle.circuits.specs.Templates.{sum_gates, difference_gates, product_gates, bitwise_gates, shift_gates, shift_by_gates, ones_gates, zeros_gates, less_gates, equal_gates, operator_gates}
use Rattle.clauses.specs.Clauses.{digits, choices, code_gates, operation_gates, term_gates, helpers, helpers_of, term_clauses, goal_clauses}
use Rattle.clauses.specs.Figures.{row, of_kinds, of_operators, of_shifts, of_goals}

kinds_have : of_kinds
    ≡ row 18 0 18 ∷ row 18 0 18 ∷ row 17 0 17 ∷ row 2 0 2 ∷ row 72 0 216 ∷ row 18 0 18 ∷ row 2 0 2 ∷ []
unfolding of_kinds digits choices term_gates helpers helpers_of low_of high_of join_of if◌equals◌then◌else◌
kinds_have = refl

operators_have : of_operators
    ≡ row 217 34 659 ∷ row 217 34 659 ∷ row 1803 468 5116 ∷ row 73 2 179 ∷ row 73 2 195 ∷ row 89 2 275 ∷ row 349 78 983 ∷ row 349 78 983 ∷
    row 290 64 802 ∷ row 338 80 914 ∷ row 108 18 314 ∷ row 91 18 279 ∷ row 5 0 9 ∷ row 5 0 9 ∷ row 4 0 6 ∷ row 5 0 9 ∷ row 5 0 9 ∷ row 7 0 18 ∷ []
unfolding of_operators term_gates operation_gates code_gates helpers helpers_of operator_gates if◌equals◌then◌else◌ if◌below◌then◌else◌ sum_gates difference_gates product_gates bitwise_gates shift_gates ones_gates zeros_gates less_gates equal_gates add_with add carries ands product chosen barrel clear shifted_up shifted_down tree flags same_bits sums pairs masks products
operators_have = refl

shifts_have : of_shifts
    ≡ row 53 1 121 ∷ row 53 1 121 ∷ row 53 1 121 ∷ row 53 1 121 ∷ row 53 1 121 ∷ row 53 1 121 ∷ []
unfolding of_shifts term_gates operation_gates helpers helpers_of shift_by_gates shifted_up shifted_down masks low_of high_of join_of if◌equals◌then◌else◌
shifts_have = refl

goals_have : of_goals
    ≡ row 1 0 1 ∷ row 2 0 2 ∷ row 20 0 20 ∷ row 1 0 2 ∷ row 2 0 2 ∷ row 1 0 0 ∷ []
unfolding of_goals goal_clauses term_clauses term_gates digits low_of high_of join_of when◌then◌else◌ if◌equals◌then◌else◌
goals_have = refl
