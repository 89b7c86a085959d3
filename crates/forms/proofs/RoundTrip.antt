-- What one export wrote is what the next one reads: the bytes of a session are of their form, and they stand for that session; an answer begins
-- with the bytes of its result. Assumes nothing.
use mathlib.Core.Path.{◌≡◌, refl, ◌∙◌}
use mathlib.Core.Bool.{Bool, true, false}
use mathlib.Core.List.{List, [], ◌∷◌, ◌++◌}
use Prim.Native.Nat.{ℕ, zero, suc, ◌+◌, ◌*◌, ◌/◌, ◌%◌, ◌<◌}
use native.Mathlib.Omega.{arith}
use lib.Dec.{eqb, ltb}
use lib.ListN.{get_or, take, length, get_or-append}
use lib.Seq.{sets, take_all, get_or-append-add}
use borrow.Author.Tests.{eq-eqb}
use Rattle.words.specs.Words.{word_bytes, low_of, high_of}
use Rattle.words.proofs.Words.{join_halves, one_field}
use Rattle.notation.specs.Notation.{pick, when◌then◌else◌}
use Rattle.notation.proofs.Every.{up_make}
use Rattle.operators.specs.Operators.{bit_of}
use Rattle.semantics.specs.declared.Input.{Input}
use Rattle.semantics.specs.declared.Result.{Result}
use Rattle.semantics.specs.declared.Session.{Session}
use Rattle.semantics.specs.declared.Answer.TheVariants.{Out, Halt}
use Rattle.semantics.specs.Numbers.{input_count}
use Rattle.semantics.specs.Records.{word_at}
use Rattle.semantics.specs.Answers.{answer_of, result_in as result_of}
use Rattle.semantics.specs.Print.{input_size, input_at, input_zeroed}
use Rattle.forms.specs.Forms.{inputs_length, session_length, result_length, answer_length, inputs_in, inputs_zeroed, mark_formed, session_in, session_formed, result_at, result_formed, result_in, pairs_of, word_bytes_of, kind_bytes, input_bytes, inputs_bytes, session_bytes}
use Rattle.forms.specs.Answers.{answer_values, written_at}
use Rattle.forms.proofs.Taken.{each_takes}
use Rattle.forms.proofs.Written.{sets_whole, inputs_long, session_length_lem}

halves : (n : ℕ) → n % 256 + 256 * (n / 256) ≡ n
halves n = omega arith

-- ---- the inputs

-- byte j of input i
byte_of : (xs : List Input) (r : List ℕ) (d : Input) (i j k : ℕ) → i < length xs → j < input_size → k ≡ input_size * i + j
    → get_or (inputs_bytes xs ++ r) k 0 ≡ get_or (input_bytes (get_or xs i d)) j 0
unfolding inputs_bytes
byte_of [] r d i j k h l e = absurd (omega arith)
byte_of (x ∷ xs) r d zero j k h l e = let q : k ≡ j = omega arith in rw q (get_or-append (input_bytes x) (inputs_bytes xs ++ r) 0 j l)
byte_of (x ∷ xs) r d (suc i) j k h l e =
    let q : k ≡ input_size + (input_size * i + j) = omega arith in
    rw q (get_or-append-add (input_bytes x) (inputs_bytes xs ++ r) (input_size * i + j) 0 ∙ byte_of xs r d i j (input_size * i + j) (omega arith) l refl)

-- byte j of its value
value_byte : (x : Input) (j : ℕ) → get_or (input_bytes x) (word_bytes + j) 0 ≡ get_or (word_bytes_of x.value) j 0
value_byte x j = get_or-append-add (kind_bytes x.kind) (word_bytes_of x.value) j 0

-- a word is read where it was written
word_back : (s : List ℕ) (i w : ℕ) → ((j k : ℕ) → j < word_bytes → k ≡ i + j → get_or s k 0 ≡ get_or (word_bytes_of w) j 0) → word_at s i ≡ w
word_back s i w b = rw (b 0 i (omega arith) (omega arith), b 1 (i + 1) (omega arith) refl, halves (low_of w)) (one_field (low_of w) _ (high_of w) (omega arith) ∙ join_halves w)

module _ (xs : List Input) (long : length xs ≡ input_count) (r : List ℕ) where
  abbrev no_input_lem : Input
  no_input_lem = record { kind = 0; value = 0 }

  input_back : (i : ℕ) → i < input_count → input_at (inputs_bytes xs ++ r) i ≡ get_or xs i no_input_lem
  input_back i h =
      let b : (j k : ℕ) → j < input_size → k ≡ input_size * i + j → get_or (inputs_bytes xs ++ r) k 0 ≡ get_or (input_bytes (get_or xs i no_input_lem)) j 0 = λ j k. byte_of xs r no_input_lem i j k (omega arith) in
      rw (
        b 0 (input_size * i) (omega arith) (omega arith),
        word_back (inputs_bytes xs ++ r) (input_size * i + word_bytes) (get_or xs i no_input_lem).value
            λ j k l e. b (word_bytes + j) k (omega arith) (omega arith) ∙ value_byte (get_or xs i no_input_lem) j,
      )

  inputs_back : inputs_in (inputs_bytes xs ++ r) ≡ xs
  unfolding inputs_in
  inputs_back = each_takes (input_at (inputs_bytes xs ++ r)) xs no_input_lem input_count (omega arith) input_back ∙ take_all input_count xs (omega arith)

  inputs_zero : inputs_zeroed (inputs_bytes xs ++ r) ≡ true
  unfolding inputs_zeroed
  inputs_zero = up_make (input_zeroed (inputs_bytes xs ++ r)) input_count (λ i h. eq-eqb _ 0 (byte_of xs r no_input_lem i 1 (input_size * i + 1) (omega arith) (omega arith) refl))

-- ---- the mark
mark_back : (b : Bool) → eqb (bit_of b) 1 ≡ b
mark_back true = refl
mark_back false = refl

mark_low : (b : Bool) → ltb (bit_of b) 2 ≡ true
mark_low true = refl
mark_low false = refl

-- ---- the session
module _ (x : Session) (long : length x.inputs ≡ input_count) where
  abbrev rest : List ℕ
  rest = pairs_of (x.count ∷ x.state.assumed ∷ x.state.asserted ∷ x.accepted ∷ []) ++ (bit_of x.halted ∷ 0 ∷ [])

  past : (k : ℕ) → get_or (inputs_bytes x.inputs ++ rest) (inputs_length + k) 0 ≡ get_or rest k 0
  past k = rw (inputs_long x.inputs long) at (get_or-append-add (inputs_bytes x.inputs) rest k 0)

  pub session_formed_lem : session_formed (session_bytes x) ≡ true
  unfolding session_formed mark_formed session_bytes
  session_formed_lem = rw (inputs_zero x.inputs long rest, past 8, past 9, mark_low x.halted)

  pub session_long : length (session_bytes x) ≡ session_length
  session_long = session_length_lem x (inputs_long x.inputs long)

  pub session_back : session_in (session_bytes x) ≡ x
  unfolding session_in session_bytes
  session_back =
      rw (inputs_back x.inputs long rest) (
      simp (past 0, past 1, past 2, past 3, past 4, past 5, past 6, past 7, past 8, halves, mark_back))

-- ---- the result
module _ (place : List ℕ) (long : length place ≡ answer_length) (r : Result) (d : ℕ) where
  -- the beginning of an answer's place, once an accepted rule's answer is written there
  abbrev begins : List ℕ
  begins = take result_length (written_at pairs_of (answer_values (answer_of r d)) place).1

  -- all five values of an answer
  abbrev filled : ℕ → ℕ → List ℕ
  filled v m = pairs_of (r.state.assumed ∷ r.state.asserted ∷ v ∷ m ∷ d ∷ [])

  fills : (v m : ℕ) → sets place 0 (filled v m) ≡ filled v m
  fills v m = sets_whole place (filled v m) long

  pub result_formed_lem : result_formed begins ≡ true
  unfolding mark_formed when◌then◌else◌
  result_formed_lem = go r.halted
    where
      go : (b : Bool) → result_formed (take result_length (written_at pairs_of (answer_values (pick b (Halt r.state d) (Out r.state r.value d))) place).1) ≡ true
      go true = rw (fills 0 1)
      go false = rw (fills r.value 0)

  pub result_back : result_in begins ≡ result_of (answer_of r d) r
  unfolding result_in when◌then◌else◌
  result_back = rw result_formed_lem (go r.halted)
    where
      go : (b : Bool) → result_at (take result_length (written_at pairs_of (answer_values (pick b (Halt r.state d) (Out r.state r.value d))) place).1) ≡ result_of (pick b (Halt r.state d) (Out r.state r.value d)) r
      go true = rw (fills 0 1) (simp halves)
      go false = rw (fills r.value 0) (simp halves)
