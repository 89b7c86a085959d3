-- The clauses of a table's terms and of a goal, over the variables of DIMACS, which are numbers from 1 on (document 02, Six). Assumes nothing.
use Rattle.std.specs.Prelude.{ℕ, zero, suc, ◌+◌, ◌-◌, ◌*◌, ◌/◌, ◌%◌, Bool, true, false, List, [], ◌∷◌, ◌++◌, eqb, length}
use Rattle.notation.specs.Notation.{when◌then◌else◌, if◌equals◌then◌else◌, if◌below◌then◌else◌}
use Rattle.words.specs.Words.{width}
use Rattle.circuits.specs.Gates.{Literal, pos, neg, Function, copy, and2, or2, choose, passing, Gate, fix, gate, clauses, onto}
use Rattle.circuits.specs.Circuits.{shifted_up, shifted_down}
use Rattle.circuits.specs.Templates.{Wire, wire_a, wire_b, wire_c, wire_true, helper, own, kinds, shift_by_gates, operator_gates}
use Rattle.semantics.specs.declared.Term.{Term}
use Rattle.semantics.specs.declared.Result.{Result}
use Rattle.semantics.specs.declared.Session.{Session}
use Rattle.semantics.specs.declared.Goal.{Goal}
use Rattle.semantics.specs.declared.Goal.TheVariants.{Errs, Aborts, Gives}
use Rattle.semantics.specs.Numbers.{truth_term, word_term, free_truth_term, free_word_term, operator_term, choice_term, procedure_term, left_code, right_code, not_code, is_word_code, is_procedure_code, negation_code, conjunction_code, disjunction_code, true_number}
use Rattle.semantics.specs.Terms.{at, blank, word_term_of, term_word, terms_in}

-- words have 2 ^ levels bits
abbrev pub levels : ℕ
levels = 4

-- "Term n owns 18 variables": "two tell the kind", "and sixteen hold the bits"
abbrev pub owned : ℕ
owned = width + 2

-- ---- a term's gates, over its own wires, those of the terms that it names, and its helpers

abbrev pub odd : ℕ → Bool
odd w = eqb (w % 2) 1

-- the n wires from number s on hold the n lowest bits of w
unfoldable pub digits : ℕ → ℕ → ℕ → List (Gate Wire)
digits s zero w = []
digits s (suc n) w = fix (own s) (odd w) ∷ digits (suc s) n (w / 2)

-- a truth, as a function of three literals
abbrev pub truth_gate : Function → Literal Wire → Literal Wire → Literal Wire → List (Gate Wire)
truth_gate f a b c = kinds false false (gate f (own 2) a b c ∷ [])

-- "6 choice: b if a, else c", for each of n wires from number s on
unfoldable pub choices : ℕ → ℕ → List (Gate Wire)
choices s zero = []
choices s (suc n) = gate choose (own s) (pos (wire_a 2)) (pos (wire_b s)) (pos (wire_c s)) ∷ choices (suc s) n

-- an operator of each code: 1 to 12, 14 is a word, 15 is a procedure, 32 not, 33 and, 34 or, 35 truth
unfoldable pub code_gates : ℕ → List (Gate Wire)
code_gates op =
    if op below not_code then operator_gates levels op else
    if op equals is_word_code then truth_gate and2 (pos (wire_a 0)) (neg (wire_a 1)) (neg (wire_a 1)) else
    if op equals is_procedure_code then truth_gate and2 (neg (wire_a 0)) (pos (wire_a 1)) (pos (wire_a 1)) else
    if op equals negation_code then truth_gate copy (neg (wire_a 2)) (neg (wire_a 2)) (neg (wire_a 2)) else
    if op equals conjunction_code then truth_gate and2 (pos (wire_a 2)) (pos (wire_b 2)) (pos (wire_b 2)) else
    if op equals disjunction_code then truth_gate or2 (pos (wire_a 2)) (pos (wire_b 2)) (pos (wire_b 2)) else
    truth_gate passing (pos (wire_a 0)) (pos (wire_a 1)) (pos (wire_a 2))

-- an operator term whose b names u: a shift by a word constant has few gates of its own
unfoldable pub operation_gates : ℕ → Term → List (Gate Wire)
operation_gates op u =
    if u.kind equals word_term then (
    if op equals left_code then shift_by_gates levels shifted_up (term_word u) else
    if op equals right_code then shift_by_gates levels shifted_down (term_word u) else
    code_gates op) else
    code_gates op

-- a term whose b names u. "two tell the kind (00 truth, 10 word, 01 procedure, 11 binding), and sixteen hold the bits, lowest first, a truth in the
-- lowest"
unfoldable pub term_gates : Term → Term → List (Gate Wire)
term_gates t u =
    if t.kind equals truth_term then kinds false false (digits 2 width t.a) else
    if t.kind equals word_term then kinds true false (digits 2 width (term_word t)) else
    if t.kind equals free_truth_term then kinds false false (digits 3 (width - 1) 0) else
    if t.kind equals free_word_term then kinds true false [] else
    if t.kind equals operator_term then operation_gates t.op u else
    if t.kind equals choice_term then choices 0 owned else
    if t.kind equals procedure_term then kinds false true (digits 2 width t.a) else
    kinds true true []

-- the term that the newest term's b names, of those below it
abbrev pub named_by_b : List Term → Term → Term
named_by_b ts t = at ts t.b

-- how many helpers gates have: there is a gate for each
unfoldable pub helpers : List (Gate Wire) → ℕ
helpers [] = 0
helpers (fix w v ∷ gs) = helpers gs
helpers (gate f (helper k) a b c ∷ gs) = suc (helpers gs)
helpers (gate f (wire_a i) a b c ∷ gs) = helpers gs
helpers (gate f (wire_b i) a b c ∷ gs) = helpers gs
helpers (gate f (wire_c i) a b c ∷ gs) = helpers gs
helpers (gate f wire_true a b c ∷ gs) = helpers gs
helpers (gate f (own i) a b c ∷ gs) = helpers gs

unfoldable pub helpers_of : Term → Term → ℕ
helpers_of t u = helpers (term_gates t u)

unfoldable pub helpers_in : List Term → ℕ
helpers_in [] = 0
helpers_in (t ∷ ts) = helpers_in ts + helpers_of t (named_by_b ts t)

-- ---- the numbers of variables

-- "Term n owns 18 variables, from 18n + 1": its wire i
abbrev pub own_variable : ℕ → ℕ → ℕ
own_variable n i = owned * n + i + 1

-- the wires that term n's gates see, where its helpers have numbers from h on
abbrev pub variable : ℕ → ℕ → Term → Wire → ℕ
variable h n t (wire_a i) = own_variable t.a i
variable h n t (wire_b i) = own_variable t.b i
variable h n t (wire_c i) = own_variable t.c i
variable h n t wire_true = own_variable true_number 2
variable h n t (helper k) = h + k
variable h n t (own i) = own_variable n i

-- "helper variables follow all of these": the first of the term over these, in a table of c terms
abbrev pub first_helper : ℕ → List Term → ℕ
first_helper c ts = owned * c + 1 + helpers_in ts

-- how many variables there are
abbrev pub variable_count : ℕ → List Term → ℕ
variable_count c ts = owned * c + helpers_in ts

-- ---- the clauses

unfoldable pub term_clauses : ℕ → ℕ → Term → Term → List (List (Literal ℕ))
term_clauses h n t u = clauses (onto (variable h n t) (term_gates t u))

-- "clauses stand in term order": those of these terms, in a table of c
unfoldable pub table_clauses : ℕ → List Term → List (List (Literal ℕ))
table_clauses c [] = []
table_clauses c (t ∷ ts) = table_clauses c ts ++ term_clauses (first_helper c ts) (length ts) t (named_by_b ts t)

-- the variable of term n's truth
abbrev pub truth_variable : ℕ → ℕ
truth_variable n = own_variable n 2

-- "The goal is one of: some reading errs, some aborts, or some gives a named word": a halt errs unless only S is false, and gives no word
unfoldable pub goal_clauses : Result → Goal → List (List (Literal ℕ))
goal_clauses r Errs =
    when r.halted then (pos (truth_variable r.state.assumed) ∷ neg (truth_variable r.state.asserted) ∷ []) ∷ []
    else (neg (truth_variable r.state.asserted) ∷ []) ∷ []
goal_clauses r Aborts = (neg (truth_variable r.state.assumed) ∷ []) ∷ (pos (truth_variable r.state.asserted) ∷ []) ∷ []
goal_clauses r (Gives w) =
    when r.halted then [] ∷ []
    else (pos (truth_variable r.state.assumed) ∷ []) ∷ (pos (truth_variable r.state.asserted) ∷ []) ∷ term_clauses 0 r.value (word_term_of w) blank

-- "the goal's last"
unfoldable pub clauses_for : ℕ → List Term → Result → Goal → List (List (Literal ℕ))
clauses_for c ts r g = table_clauses c ts ++ goal_clauses r g

-- of a session and its table
abbrev pub clauses_of_call : Session → List ℕ → Result → Goal → List (List (Literal ℕ))
clauses_of_call x s r g = clauses_for x.count (terms_in s x.count) r g
