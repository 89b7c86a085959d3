-- The operators by their codes: one table of operand counts and result kinds, and what the codes 1 to 12 give on words
-- (document 01, "Operators", and the codes 32 to 35 of "Terms"). Assumes nothing.
use Rattle.std.specs.Prelude.{ℕ, ◌%◌, Bool, true, false, List, [], ◌∷◌, eqb, ltb, get_or}
use Rattle.notation.specs.Notation.{if◌equals◌then◌else◌}
use Rattle.words.specs.Words.{width, sum_of, difference_of, product_of, and_of, or_of, xor_of, left_of, right_of, ones_of, zeros_of}

-- "Operand counts and result kinds stand in one constant table": for each code its operands, and 4 more where it gives a truth; 0: no such code.
-- "Codes 9, 10, 13, 14, 15 have one operand; 11 to 15 give truths"; 32 not, 33 and, 34 or, 35 truth give truths too.
abbrev pub operators : List ℕ
operators =
    0 ∷ 2 ∷ 2 ∷ 2 ∷ 2 ∷ 2 ∷ 2 ∷ 2 ∷ 2 ∷ 1 ∷ 1 ∷ 6 ∷ 6 ∷ 5 ∷ 5 ∷ 5 ∷ 0 ∷ 0 ∷ 0 ∷ 0 ∷ 0 ∷ 0 ∷ 0 ∷ 0 ∷ 0 ∷ 0 ∷ 0 ∷ 0 ∷ 0 ∷ 0 ∷ 0 ∷ 0 ∷ 5 ∷ 6 ∷ 6 ∷ 5 ∷ []

-- an operator's row; 0 past the table
unfoldable pub row_of : ℕ → ℕ
row_of op = get_or operators op 0

-- how many operands it has; 0: no such code
unfoldable pub operands_of : ℕ → ℕ
operands_of op = row_of op % 4

-- whether an operator gives a truth
unfoldable pub gives_truth_of : ℕ → Bool
gives_truth_of op = ltb 4 (row_of op)

-- a truth as a number
abbrev pub bit_of : Bool → ℕ
bit_of true = 1
bit_of false = 0

-- What the codes 1 to 12 give on words: a word, or a truth as 0 or 1.
unfoldable pub operate_of : ℕ → ℕ → ℕ → ℕ
operate_of op x y =
    if op equals 1 then sum_of width x y else
    if op equals 2 then difference_of width x y else
    if op equals 3 then product_of width x y else
    if op equals 4 then and_of x y else
    if op equals 5 then or_of x y else
    if op equals 6 then xor_of x y else
    if op equals 7 then left_of width x y else
    if op equals 8 then right_of width x y else
    if op equals 9 then ones_of x else
    if op equals 10 then zeros_of width x else
    if op equals 11 then bit_of (ltb x y) else
    bit_of (eqb x y)
