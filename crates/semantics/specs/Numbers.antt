-- The numbers of documents 01 and 02 by name: kinds, codes, refusals and limits. Assumes nothing.
use Rattle.std.specs.Prelude.{ℕ}

-- ---- "Rule records": the kinds of a record
abbrev pub datum_record : ℕ
datum_record = 1

abbrev pub variable_record : ℕ
variable_record = 2

abbrev pub procedure_record : ℕ
procedure_record = 3

abbrev pub call_record : ℕ
call_record = 4

abbrev pub operator_record : ℕ
operator_record = 5

abbrev pub let_record : ℕ
let_record = 6

abbrev pub if_record : ℕ
if_record = 7

abbrev pub abort_record : ℕ
abort_record = 8

abbrev pub error_record : ℕ
error_record = 9

-- ---- the ops of a datum: false, true, the word p
abbrev pub false_datum : ℕ
false_datum = 0

abbrev pub true_datum : ℕ
true_datum = 1

abbrev pub word_datum : ℕ
word_datum = 2

-- ---- "Operators": the codes whose spans are worked out
-- 1 add
abbrev pub add_code : ℕ
add_code = 1

-- 2 subtract
abbrev pub subtract_code : ℕ
subtract_code = 2

-- 11 less
abbrev pub less_code : ℕ
less_code = 11

-- ---- the codes that 0 absorbs
-- 3 multiply
abbrev pub multiply_code : ℕ
multiply_code = 3

-- 4 and
abbrev pub bitwise_and_code : ℕ
bitwise_and_code = 4

-- ---- the codes whose gates are few where the second operand is a constant
-- 7 shift left
abbrev pub left_code : ℕ
left_code = 7

-- 8 logical shift right
abbrev pub right_code : ℕ
right_code = 8

-- ---- the codes that a search for a witness knows more of than their spans say
-- 9 count of ones
abbrev pub ones_code : ℕ
ones_code = 9

-- 10 leading zeros
abbrev pub zeros_code : ℕ
zeros_code = 10

-- 12 equal
abbrev pub equal_code : ℕ
equal_code = 12

-- ---- the codes that need no words
-- true only for false
abbrev pub not_code : ℕ
not_code = 13

abbrev pub is_word_code : ℕ
is_word_code = 14

abbrev pub is_procedure_code : ℕ
is_procedure_code = 15

-- ---- "Terms": the kinds of a term
abbrev pub truth_term : ℕ
truth_term = 1

abbrev pub word_term : ℕ
word_term = 2

abbrev pub free_truth_term : ℕ
free_truth_term = 3

abbrev pub free_word_term : ℕ
free_word_term = 4

abbrev pub operator_term : ℕ
operator_term = 5

abbrev pub choice_term : ℕ
choice_term = 6

abbrev pub procedure_term : ℕ
procedure_term = 7

abbrev pub binding_term : ℕ
binding_term = 8

-- ---- "Further operator codes: 32 not, 33 and, 34 or, 35 truth"
abbrev pub negation_code : ℕ
negation_code = 32

abbrev pub conjunction_code : ℕ
conjunction_code = 33

abbrev pub disjunction_code : ℕ
disjunction_code = 34

abbrev pub truth_code : ℕ
truth_code = 35

-- ---- "Opening": the kinds of an input
abbrev pub constant_truth : ℕ
constant_truth = 0

abbrev pub constant_word : ℕ
constant_word = 1

abbrev pub free_truth : ℕ
free_truth = 2

abbrev pub free_word : ℕ
free_word = 3

-- ---- the terms false and true, which opening makes first
abbrev pub false_number : ℕ
false_number = 0

abbrev pub true_number : ℕ
true_number = 1

-- ---- what is known of a term: it is the constant false, the constant true, or anything else
abbrev pub known_false : ℕ
known_false = 0

abbrev pub known_true : ℕ
known_true = 1

abbrev pub unknown : ℕ
unknown = 2

-- ---- the end of a chain of bindings
abbrev pub no_binding : ℕ
no_binding = 65535

-- ---- "Operations and what stops them": the refusals
-- table bytes not a multiple of 8, below 272 or above 65,536
abbrev pub table_size : ℕ
table_size = 1

-- an input kind or value other than those of opening
abbrev pub bad_input : ℕ
bad_input = 2

-- the session and table do not fit
abbrev pub misfit : ℕ
misfit = 3

-- rule bytes none, above 32,768 or not a multiple of 8
abbrev pub rule_size : ℕ
rule_size = 4

-- a kind, op or unused field
abbrev pub bad_record : ℕ
bad_record = 5

-- the tree, or a child past the last record
abbrev pub bad_tree : ℕ
bad_tree = 6

-- a place out of scope
abbrev pub bad_place : ℕ
bad_place = 7

-- an allowance outside 1 to 256
abbrev pub bad_allowance : ℕ
bad_allowance = 8

-- 1,000 rules already accepted
abbrev pub rules_spent : ℕ
rules_spent = 9

-- a 65th leaf in one call's walk
abbrev pub call_too_wide : ℕ
call_too_wide = 10

-- a new term with the table full
abbrev pub table_full : ℕ
table_full = 11

-- depth zero
abbrev pub depth_spent : ℕ
depth_spent = 12

-- a free truth given a number over 1
abbrev pub bad_number : ℕ
bad_number = 13

-- the result's S or T is no truth below the count, or its value a binding or not below it
abbrev pub bad_result : ℕ
bad_result = 14

-- a work list, or a list of reports, shorter than the count
abbrev pub work_short : ℕ
work_short = 15

-- the store is full
abbrev pub store_full : ℕ
store_full = 16

-- a free word's low exceeds its high
abbrev pub bad_span : ℕ
bad_span = 17

-- the text is longer than the lent buffer
abbrev pub text_long : ℕ
text_long = 18

-- more than 24 free bits
abbrev pub too_many_bits : ℕ
too_many_bits = 19

-- what no operation answers: a run that would end with what is no value
abbrev pub no_value : ℕ
no_value = 254

-- ---- limits
abbrev pub input_count : ℕ
input_count = 16

-- the free bits of a session in which a witness is looked for
abbrev pub bit_limit : ℕ
bit_limit = 24

-- the records of a rule
abbrev pub record_limit : ℕ
record_limit = 4096

-- the terms of a table
abbrev pub term_limit : ℕ
term_limit = 8192

-- the leaves of one call's walk
abbrev pub leaf_limit : ℕ
leaf_limit = 64

-- the depth of a rule
abbrev pub allowance_limit : ℕ
allowance_limit = 256

-- the rules accepted in a session
abbrev pub rule_limit : ℕ
rule_limit = 1000

-- the bytes of a rule
abbrev pub rule_bytes : ℕ
rule_bytes = 32768

-- the bytes of a table
abbrev pub least_table : ℕ
least_table = 272

abbrev pub most_table : ℕ
most_table = 65536

-- the places of a store
abbrev pub place_limit : ℕ
place_limit = 8192
