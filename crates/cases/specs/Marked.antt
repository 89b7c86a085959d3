-- Document 01's marked cases P1 to P10, one table, P5 as document 02, Five, has it; and the printed case. Assumes nothing.
use Rattle.std.specs.Prelude.{ℕ, ◌-◌, List, [], ◌∷◌, ◌++◌, replicate}
use Rattle.words.specs.Words.{width, last_word}
use Rattle.semantics.specs.declared.Input.{Input}
use Rattle.semantics.specs.Numbers.{constant_truth, constant_word, free_truth, free_word, datum_record, variable_record, procedure_record, call_record, operator_record, let_record, if_record, error_record, true_datum, word_datum, word_term, bad_place, depth_spent, most_table}
use Rattle.semantics.specs.Print.{Line, out, numbers, input_bytes, print_allowance}
use Rattle.semantics.specs.History.{Call, History}
use Rattle.cases.specs.Table.{Case, case, input, bytes, call, desk, answer, reading, running}

-- the other inputs: n of them, constant false
abbrev pub falses : ℕ → List Input
falses n = replicate n (input constant_truth 0)

-- sixteen numbers, the first one given
abbrev pub first_number : ℕ → List ℕ
first_number n = n ∷ replicate 15 0

-- "Input 0 a free truth, the others constant false; rule: if place 0, word 7, else error."
abbrev pub printed_inputs : List Input
printed_inputs = input free_truth 0 ∷ falses 15

abbrev pub printed_rule : List ℕ
printed_rule = bytes if_record 0 0 1 2 (bytes datum_record word_datum 7 0 0 (bytes error_record 0 0 0 0 []))

-- "allowance 100, table 65,536"
abbrev pub printed_desk : History
printed_desk = desk printed_inputs most_table (call printed_rule print_allowance ∷ [])

-- a desk with nothing but constant false for inputs
abbrev pub plain_desk : History
plain_desk = desk (falses 16) 1024 []

-- "f bound to 'apply my argument to itself', applied to f"
abbrev pub self_application : List ℕ
self_application =
    bytes let_record 0 1 3 0 (bytes procedure_record 0 2 0 0 (bytes call_record 0 0 0 0 (bytes call_record 0 0 0 0 [])))

-- an operator on inputs 0 and 1
abbrev pub on_two : ℕ → Call
on_two op = call (bytes operator_record op 0 1 0 []) 1

-- two words as inputs 0 and 1, and two free words
abbrev pub two_words : ℕ → ℕ → List Input
two_words x y = input constant_word x ∷ input constant_word y ∷ falses 14

abbrev pub two_free : List Input
two_free = input free_word 0 ∷ input free_word 0 ∷ falses 14

-- an operator on two words, in a rule whose inputs 0 and 1 they are
abbrev pub operation : ℕ → ℕ → ℕ → History
operation op x y = desk (two_words x y) 1024 (on_two op ∷ [])

-- an operator on one word, in a rule whose input 0 it is
abbrev pub operation_on_one : ℕ → ℕ → History
operation_on_one op x = desk (input constant_word x ∷ falses 15) 1024 (call (bytes operator_record op 0 0 0 []) 1 ∷ [])

-- a call of word 3
abbrev pub call_of_three : History
call_of_three = desk (input constant_word 3 ∷ falses 15) 1024 (call (bytes call_record 0 0 0 0 []) 1 ∷ [])

-- P1 to P10. A value is read as 0, its kind and its number, an error as 0, 9 and 0; an answer is 0 and S, T, the value, the halted mark and the depth;
-- a refusal is its number.
unfoldable pub marked : List Case
marked =
    -- P1: the printed case reads as 7 under true
    case (reading printed_desk (first_number 1)) (0 ∷ word_term ∷ 7 ∷ [])
    -- P2: as error under false
    ∷ case (reading printed_desk (first_number 0)) (0 ∷ error_record ∷ 0 ∷ [])
    -- P3: 65,535 + 1 is 0
    ∷ case (reading (operation 1 last_word 1) (first_number 0)) (0 ∷ word_term ∷ 0 ∷ [])
    -- P4: leading zeros of 0 is 16
    ∷ case (reading (operation_on_one 10 0) (first_number 0)) (0 ∷ word_term ∷ width ∷ [])
    -- P5: 1 shifted left by 16 is 0, "in terms, in readings and in plain runs alike"
    ∷ case (reading (operation 7 1 width) (first_number 0)) (0 ∷ word_term ∷ 0 ∷ [])
    ∷ case (reading (desk two_free 1024 (on_two 7 ∷ [])) (1 ∷ width ∷ replicate 14 0)) (0 ∷ word_term ∷ 0 ∷ [])
    ∷ case (running (two_words 1 width) (first_number 0) (on_two 7)) (0 ∷ word_term ∷ 0 ∷ [])
    -- P6: a datum at allowance 1 is accepted
    ∷ case (answer plain_desk (call (bytes datum_record true_datum 0 0 0 []) 1)) (0 ∷ 1 ∷ 1 ∷ 1 ∷ 0 ∷ 1 ∷ [])
    -- P7: a let at 1 is refused, 12
    ∷ case (answer plain_desk (call (bytes let_record 0 1 2 0 (bytes datum_record 0 0 0 0 (bytes datum_record 0 0 0 0 []))) 1)) (depth_spent ∷ [])
    -- P8: at the root place 15 is in scope, 16 is not
    ∷ case (answer plain_desk (call (bytes variable_record 0 15 0 0 []) 1)) (0 ∷ 1 ∷ 1 ∷ 0 ∷ 0 ∷ 1 ∷ [])
    ∷ case (answer plain_desk (call (bytes variable_record 0 16 0 0 []) 1)) (bad_place ∷ [])
    -- P9: calling word 3 halts as error
    ∷ case (answer (desk (input constant_word 3 ∷ falses 15) 1024 []) (call (bytes call_record 0 0 0 0 []) 1)) (0 ∷ 1 ∷ 0 ∷ 0 ∷ 1 ∷ 1 ∷ [])
    ∷ case (reading call_of_three (first_number 0)) (0 ∷ error_record ∷ 0 ∷ [])
    -- P10: refused 12 at 256
    ∷ case (answer plain_desk (call self_application 256)) (depth_spent ∷ [])
    ∷ []

-- the printed case's input: the inputs, kind, zero and value each, then the rule
unfoldable pub printed_input : List ℕ
printed_input = (free_truth ∷ replicate (input_bytes - 1) 0) ++ printed_rule

-- its first line and all six terms
unfoldable pub printed_lines : List Line
printed_lines =
    out (23 ∷ 2 ∷ 20 ∷ 24 ∷ [])
    ∷ numbers (19 ∷ 5 ∷ 32 ∷ 2 ∷ 0 ∷ 0 ∷ [])
    ∷ numbers (20 ∷ 2 ∷ 0 ∷ 7 ∷ 0 ∷ 0 ∷ [])
    ∷ numbers (21 ∷ 5 ∷ 34 ∷ 19 ∷ 2 ∷ 0 ∷ [])
    ∷ numbers (22 ∷ 5 ∷ 34 ∷ 2 ∷ 19 ∷ 0 ∷ [])
    ∷ numbers (23 ∷ 5 ∷ 33 ∷ 21 ∷ 22 ∷ 0 ∷ [])
    ∷ []
