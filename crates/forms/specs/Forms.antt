-- The byte forms of the library: how a list of bytes stands for what an operation takes or gives. A number of two bytes has the low one
-- first. Each form has one length. A form is broken by a byte that is to be zero and is not, and by a mark over 1. Assumes nothing.
use Rattle.std.specs.Prelude.{ℕ, zero, suc, ◌+◌, ◌-◌, ◌*◌, ◌/◌, ◌%◌, Bool, false, ◌&&◌, List, [], ◌∷◌, ◌++◌, eqb, ltb, get_or, length, replicate}
use Rattle.words.specs.Words.{word_bytes, low_of}
use Rattle.notation.specs.Notation.{when◌then◌else◌, up_to}
use Rattle.operators.specs.Operators.{bit_of}
use Rattle.semantics.specs.declared.Input.{Input}
use Rattle.semantics.specs.declared.Result.{Result}
use Rattle.semantics.specs.declared.Session.{Session}
use Rattle.semantics.specs.Numbers.{input_count}
use Rattle.semantics.specs.Records.{pair_at, word_at}
use Rattle.semantics.specs.Print.{input_size, input_at, input_zeroed}

-- ---- the lengths
abbrev pub inputs_length : ℕ
inputs_length = input_size * input_count

abbrev pub session_length : ℕ
session_length = inputs_length + 10

abbrev pub numbers_length : ℕ
numbers_length = word_bytes * input_count

abbrev pub result_length : ℕ
result_length = 8

abbrev pub answer_length : ℕ
answer_length = 10

abbrev pub reading_length : ℕ
reading_length = 2 * word_bytes

-- what the library answers where it is lent a form of another length; document 01 knows no such number
abbrev pub wrong_length : ℕ
wrong_length = 255

-- ---- from bytes

-- f of each number below n, in order
unfoldable pub each_below : {A : Type 0} → (ℕ → A) → ℕ → List A
each_below f zero = []
each_below f (suc n) = each_below f n ++ (f n ∷ [])

-- inputs: 16 times a kind, a zero and a word, as the printing program reads them
unfoldable pub inputs_in : List ℕ → List Input
inputs_in s = each_below (input_at s) input_count

-- what stands between the kind and the value of each is zero
unfoldable pub inputs_zeroed : List ℕ → Bool
inputs_zeroed s = up_to input_count (input_zeroed s)

-- "An input record cut short, or its second byte not zero, is refused by 2."; inputs are no longer than sixteen records either
unfoldable pub inputs_formed : List ℕ → Bool
inputs_formed s = eqb (length s) inputs_length && inputs_zeroed s

-- numbers: 16 words
unfoldable pub numbers_in : List ℕ → List ℕ
numbers_in s = each_below (λ i. word_at s (word_bytes * i)) input_count

-- a halted mark: 0 or 1, and a zero after it
unfoldable pub mark_formed : List ℕ → ℕ → Bool
mark_formed s i = ltb (get_or s i 0) 2 && eqb (get_or s (i + 1) 0) 0

-- session: the inputs; count, S, T and accepted rules, two bytes each; the halted mark
unfoldable pub session_in : List ℕ → Session
session_in s =
    record {
      inputs = inputs_in s;
      count = pair_at s inputs_length;
      state = record { assumed = pair_at s (inputs_length + 2); asserted = pair_at s (inputs_length + 4) };
      halted = eqb (get_or s (inputs_length + 8) 0) 1;
      accepted = pair_at s (inputs_length + 6);
    }

-- a session's zeros and its mark; test 3 refuses another one
unfoldable pub session_formed : List ℕ → Bool
session_formed s = inputs_zeroed s && mark_formed s (inputs_length + 8)

-- result: S, T and the value, two bytes each; the halted mark: the beginning of an answer
abbrev pub result_at : List ℕ → Result
result_at s = record { state = record { assumed = pair_at s 0; asserted = pair_at s 2 }; value = pair_at s 4; halted = eqb (get_or s 6 0) 1 }

-- a result's mark and its zero
abbrev pub result_formed : List ℕ → Bool
result_formed s = mark_formed s 6

-- a number that is no term's: a table has at most 8,192
abbrev pub no_term : ℕ
no_term = 65535

-- a broken form is a result that names no term, so that 14 refuses it in its turn, after 3 and 13
unfoldable pub result_in : List ℕ → Result
result_in s =
    when result_formed s then result_at s else
    record { state = record { assumed = no_term; asserted = no_term }; value = no_term; halted = false }

-- ---- to bytes

-- numbers of two bytes each
abbrev pub pairs_of : List ℕ → List ℕ
pairs_of [] = []
pairs_of (n ∷ ns) = n % 256 ∷ n / 256 ∷ pairs_of ns

-- a word: the fields that it takes
abbrev pub word_bytes_of : ℕ → List ℕ
word_bytes_of w = pairs_of (low_of w ∷ [])

-- words, one after another
abbrev pub words_of : List ℕ → List ℕ
words_of [] = []
words_of (w ∷ ws) = word_bytes_of w ++ words_of ws

-- a kind, and zeros as far as a word goes
abbrev pub kind_bytes : ℕ → List ℕ
kind_bytes k = k ∷ replicate (word_bytes - 1) 0

-- inputs: for each its kind with the zeros after it, and its value
abbrev pub input_bytes : Input → List ℕ
input_bytes x = kind_bytes x.kind ++ word_bytes_of x.value

unfoldable pub inputs_bytes : List Input → List ℕ
inputs_bytes [] = []
inputs_bytes (x ∷ xs) = input_bytes x ++ inputs_bytes xs

-- a session: the inputs; count, S, T and accepted rules, two bytes each; the halted mark
unfoldable pub session_bytes : Session → List ℕ
session_bytes x = inputs_bytes x.inputs ++ (pairs_of (x.count ∷ x.state.assumed ∷ x.state.asserted ∷ x.accepted ∷ []) ++ (bit_of x.halted ∷ 0 ∷ []))
