-- Words of k bits, as numbers below 2 ^ k, and what the operators do to them (document 01, "Operators"; the shifts as document 02, Five, has
-- them). Assumes nothing.
use Rattle.std.specs.Prelude.{ℕ, ◌+◌, ◌-◌, ◌*◌, ◌/◌, ◌%◌, ◌^◌, bit_and, bit_or, bit_xor, count_ones}
use Rattle.std.specs.Int.Count.{count_leading_zeros}
use Rattle.notation.specs.Notation.{if◌below◌then◌else◌}

-- "Words are 16 bits": the width stands here alone
abbrev pub width : ℕ
width = 16

-- how many words there are
abbrev pub word_limit : ℕ
word_limit = 2 ^ width

-- the largest
abbrev pub last_word : ℕ
last_word = word_limit - 1

-- ---- a word in fields of 16 bits, the low half first
-- how many fields a word takes
abbrev pub word_fields : ℕ
word_fields = width / 16

-- how many bytes
abbrev pub word_bytes : ℕ
word_bytes = width / 8

-- the first field
unfoldable pub low_of : ℕ → ℕ
low_of w = w

-- the second field; 0 where a word takes one
unfoldable pub high_of : ℕ → ℕ
high_of w = 0

-- the word in two fields
unfoldable pub join_of : ℕ → ℕ → ℕ
join_of l h = l

-- ---- the operators
-- "sums wrap": 1 add
abbrev pub sum_of : ℕ → ℕ → ℕ → ℕ
sum_of k a b = (a + b) % 2 ^ k

-- 2 subtract
abbrev pub difference_of : ℕ → ℕ → ℕ → ℕ
difference_of k a b = (a + (2 ^ k - b)) % 2 ^ k

-- 3 multiply (low 16 bits)
abbrev pub product_of : ℕ → ℕ → ℕ → ℕ
product_of k a b = (a * b) % 2 ^ k

-- 4 and, 5 or, 6 exclusive or: bit by bit
abbrev pub and_of : ℕ → ℕ → ℕ
and_of a b = bit_and a b

abbrev pub or_of : ℕ → ℕ → ℕ
or_of a b = bit_or a b

abbrev pub xor_of : ℕ → ℕ → ℕ
xor_of a b = bit_xor a b

-- 7 shift left; "give zero once the amount reaches the width"
abbrev pub left_of : ℕ → ℕ → ℕ → ℕ
left_of k a b = if b below k then (a * 2 ^ b) % 2 ^ k else 0

-- 8 logical shift right, likewise
abbrev pub right_of : ℕ → ℕ → ℕ → ℕ
right_of k a b = if b below k then a / 2 ^ b else 0

-- 9 count of ones
abbrev pub ones_of : ℕ → ℕ
ones_of a = count_ones a

-- 10 leading zeros (16 for 0)
abbrev pub zeros_of : ℕ → ℕ → ℕ
zeros_of k a = count_leading_zeros k a
