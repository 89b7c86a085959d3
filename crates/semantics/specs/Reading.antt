-- Reading a result under sixteen numbers (document 01, "Reading", "Terms" and "Read"). Assumes nothing.
use Rattle.std.specs.Prelude.{ℕ, Bool, true, false, not, ◌&&◌, ◌||◌, List, [], ◌∷◌, eqb, ltb, get_or, length, replicate}
use Rattle.notation.specs.Notation.{with, when◌then◌else◌, if◌equals◌then◌else◌, if◌below◌then◌else◌, unless◌then◌else◌}
use Rattle.operators.specs.Operators.{operands_of, gives_truth_of, bit_of, operate_of}
use Rattle.semantics.specs.declared.Term.{Term}
use Rattle.semantics.specs.declared.Input.{Input}
use Rattle.semantics.specs.declared.Result.{Result}
use Rattle.semantics.specs.declared.Session.{Session}
use Rattle.semantics.specs.declared.Reading.{Reading}
use Rattle.semantics.specs.declared.Outcome.{Outcome}
use Rattle.semantics.specs.declared.Outcome.TheVariants.{Truth, Word, Procedure, Abort, Error, Refused}
use Rattle.semantics.specs.Numbers.{truth_term, word_term, free_truth_term, free_word_term, operator_term, choice_term, procedure_term, not_code, is_word_code, is_procedure_code, negation_code, conjunction_code, disjunction_code, truth_code, free_truth, misfit, bad_number, bad_result, work_short}
use Rattle.semantics.specs.Terms.{term_word, terms_in, names_truth, names_value}
use Rattle.semantics.specs.Fits.{fits_of}
use Rattle.semantics.specs.Fold.{numbered, fold_terms}

-- ---- what a term reads as: a truth, a word or a procedure's record; a binding reads as nothing
abbrev pub reading_of : ℕ → ℕ → Reading
reading_of k n = record { sort = k; number = n }

abbrev pub nothing : Reading
nothing = reading_of 0 0

abbrev pub truth_reading : Bool → Reading
truth_reading b = reading_of truth_term (bit_of b)

unfoldable pub is_true : Reading → Bool
is_true v = if v.sort equals truth_term then eqb v.number 1 else false

unfoldable pub is_truth : Reading → Bool
is_truth v = eqb v.sort truth_term

unfoldable pub is_word : Reading → Bool
is_word v = eqb v.sort word_term

-- "Only false fails a test."
unfoldable pub passes : Reading → Bool
passes v = if v.sort equals truth_term then eqb v.number 1 else true

-- ---- operator terms

-- what an operator with this code gives: a word, or a truth as a number
unfoldable pub result_reading : ℕ → ℕ → Reading
result_reading op w = with (gives_truth_of op) λ b. when b then reading_of truth_term w else reading_of word_term w

-- the operands of a code from 1 to 12 are words
unfoldable pub operands_are_words : ℕ → Reading → Reading → Bool
operands_are_words op x y = when is_word x then (with (operands_of op) λ n. if n equals 1 then true else is_word y) else false

-- "An operator term with an operand of the wrong kind reads as word 0 or false."
unfoldable pub operation_reading : ℕ → Reading → Reading → Reading
operation_reading op x y =
    with (operands_are_words op x y) λ b. when b then (with (operate_of op x.number y.number) λ w. result_reading op w) else result_reading op 0

-- "14 is a word. 15 is a procedure."; "32 not, 33 and, 34 or, 35 truth"; what is no truth is an operand of the wrong kind for 32 to 34
unfoldable pub operator_reading : ℕ → Reading → Reading → Reading
operator_reading op x y =
    if op below not_code then operation_reading op x y else
    if op equals is_word_code then truth_reading (is_word x) else
    if op equals is_procedure_code then truth_reading (eqb x.sort procedure_term) else
    if op equals negation_code then truth_reading (is_truth x && not (is_true x)) else
    if op equals conjunction_code then truth_reading (is_true x && is_true y) else
    if op equals disjunction_code then truth_reading ((is_truth x && is_truth y) && (is_true x || is_true y)) else
    if op equals truth_code then (if x.sort equals 0 then truth_reading false else truth_reading (passes x)) else
    truth_reading false

-- ---- a term, of what a, b and c read as. "one for each input (constants ignore theirs)"; "6 choice: b if a, else c"
unfoldable pub term_reading : List ℕ → Term → Reading → Reading → Reading → Reading
term_reading numbers t x y z =
    if t.kind equals truth_term then reading_of truth_term t.a else
    if t.kind equals word_term then (with (term_word t) λ w. reading_of word_term w) else
    if t.kind equals free_truth_term then (with (get_or numbers t.a 0) λ n. reading_of truth_term n) else
    if t.kind equals free_word_term then (with (get_or numbers t.a 0) λ n. reading_of word_term n) else
    if t.kind equals operator_term then operator_reading t.op x y else
    if t.kind equals choice_term then (when is_true x then y else z) else
    if t.kind equals procedure_term then reading_of procedure_term t.a else
    nothing

-- the reading with number k, of readings newest first; nothing where there is none
abbrev pub nth : List Reading → ℕ → Reading
nth vs k = numbered nothing vs k

-- each term from lower ones
unfoldable pub readings : List ℕ → List Term → List Reading
readings numbers ts = fold_terms (term_reading numbers) nothing ts

-- ---- a result, of what S, T and the value read as

-- the value
unfoldable pub value_outcome : Reading → Outcome
value_outcome v =
    if v.sort equals truth_term then Truth (eqb v.number 1) else if v.sort equals word_term then Word v.number else Procedure v.number

-- "both formulas true, the value; only S false, abort; otherwise error. For a halt: abort if only S is false, else error."
unfoldable pub result_outcome : Bool → Bool → Bool → Reading → Outcome
result_outcome s t halted v = when t then (when s then (when halted then Error else value_outcome v) else Abort) else Error

-- ---- Read: "3 as above."

-- 13: "a free truth given a number over 1"
unfoldable pub numbers_taken : List Input → List ℕ → Bool
numbers_taken [] ns = true
numbers_taken (x ∷ xs) [] = true
numbers_taken (x ∷ xs) (n ∷ ns) = (if x.kind equals free_truth then ltb n 2 else true) && numbers_taken xs ns

-- 14: "the result's S or T is no truth below the count, or its value is a binding or not below the count"; a halt has no value
unfoldable pub result_taken : List Term → Result → Bool
result_taken ts r = names_truth ts r.state.assumed && (names_truth ts r.state.asserted && (when r.halted then true else names_value ts r.value))

unfoldable pub read_in : List Reading → Result → Outcome
read_in vs r = result_outcome (is_true (nth vs r.state.assumed)) (is_true (nth vs r.state.asserted)) r.halted (nth vs r.value)

-- 15: "work list shorter than the count"; the work list has l places
unfoldable pub read_outcome : Session → List ℕ → List ℕ → Result → ℕ → Outcome
read_outcome x s numbers r l =
    unless fits_of x s then Refused misfit else
    unless numbers_taken x.inputs numbers then Refused bad_number else
    unless result_taken (terms_in s x.count) r then Refused bad_result else
    if l below x.count then Refused work_short else
    read_in (readings numbers (terms_in s x.count)) r

-- Read: the answer, and the work list then: "On every return the work list is zero."
unfoldable pub read_of : Session → List ℕ → List ℕ → Result → List ℕ → Outcome × List ℕ
read_of x s numbers r work = (read_outcome x s numbers r (length work), replicate (length work) 0)
