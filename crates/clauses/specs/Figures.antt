-- How many clauses, helpers and literals each kind of term, each operator and each goal has: the rows of docs/CLAUSES.md, in its order. Assumes
-- nothing.
use Rattle.std.specs.Prelude.{ℕ, ◌+◌, true, false, List, [], ◌∷◌, map, length}
use Rattle.circuits.specs.Gates.{Literal, clauses}
use Rattle.semantics.specs.declared.Term.{Term}
use Rattle.semantics.specs.declared.Result.{Result}
use Rattle.semantics.specs.declared.Goal.{Goal}
use Rattle.semantics.specs.declared.Goal.TheVariants.{Errs, Aborts, Gives}
use Rattle.semantics.specs.Numbers.{truth_term, word_term, free_truth_term, free_word_term, operator_term, choice_term, procedure_term, binding_term}
use Rattle.semantics.specs.Terms.{term, blank, word_term_of}
use Rattle.clauses.specs.Clauses.{term_gates, helpers_of, goal_clauses}

-- a row: clauses, helpers, literals
pub data Row : Type 0 where
  row : ℕ → ℕ → ℕ → Row

abbrev literal_count : {W : Type 0} → List (List (Literal W)) → ℕ
literal_count [] = 0
literal_count (c ∷ cs) = length c + literal_count cs

-- of a term whose b names u
abbrev of_term : Term → Term → Row
of_term t u = row (length (clauses (term_gates t u))) (helpers_of t u) (literal_count (clauses (term_gates t u)))

abbrev of_kind : ℕ → Row
of_kind k = of_term (term k 0 0 0 0) blank

abbrev of_code : ℕ → Row
of_code op = of_term (term operator_term op 0 0 0) blank

-- of a shift by a word constant
abbrev of_shift : ℕ → ℕ → Row
of_shift op w = of_term (term operator_term op 0 0 0) (word_term_of w)

abbrev of_goal : Result → Goal → Row
of_goal r g = row (length (goal_clauses r g)) 0 (literal_count (goal_clauses r g))

abbrev any_result : Result
any_result = record { state = record { assumed = 1; asserted = 1 }; value = 1; halted = false }

abbrev any_halt : Result
any_halt = record { state = record { assumed = 1; asserted = 1 }; value = 0; halted = true }

-- the kinds of a term that are no operators
unfoldable pub of_kinds : List Row
of_kinds =
    map of_kind (truth_term ∷ word_term ∷ free_truth_term ∷ free_word_term ∷ choice_term ∷ procedure_term ∷ binding_term ∷ [])

-- the operators by code, then shifts by a constant: left by 0, by 5, by 16; right by the same
unfoldable pub of_operators : List Row
of_operators = map of_code (1 ∷ 2 ∷ 3 ∷ 4 ∷ 5 ∷ 6 ∷ 7 ∷ 8 ∷ 9 ∷ 10 ∷ 11 ∷ 12 ∷ 14 ∷ 15 ∷ 32 ∷ 33 ∷ 34 ∷ 35 ∷ [])

unfoldable pub of_shifts : List Row
of_shifts = of_shift 7 0 ∷ of_shift 7 5 ∷ of_shift 7 16 ∷ of_shift 8 0 ∷ of_shift 8 5 ∷ of_shift 8 16 ∷ []

-- the goals: errs, aborts and a word, of a result; the same of a halt
unfoldable pub of_goals : List Row
of_goals = of_goal any_result Errs ∷ of_goal any_result Aborts ∷ of_goal any_result (Gives 5) ∷ of_goal any_halt Errs ∷ of_goal any_halt Aborts ∷ of_goal any_halt (Gives 5) ∷ []
