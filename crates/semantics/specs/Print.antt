-- The printing program (document 01, "The printed case"): the lines that it prints for its input. Assumes nothing.
use Rattle.std.specs.Prelude.{ℕ, zero, suc, ◌+◌, ◌*◌, ◌-◌, Bool, ◌&&◌, List, [], ◌∷◌, eqb, leb, get_or, drop, length, replicate}
use Rattle.notation.specs.Notation.{with, when◌then◌else◌, if◌equals◌then◌else◌, up_to}
use Rattle.words.specs.Words.{word_bytes}
use Rattle.semantics.specs.declared.Term.{Term}
use Rattle.semantics.specs.declared.Input.{Input}
use Rattle.semantics.specs.declared.Session.{Session}
use Rattle.semantics.specs.declared.Opened.{Opened}
use Rattle.semantics.specs.declared.Answer.{Answer}
use Rattle.semantics.specs.declared.Answer.TheVariants.{Out, Halt, Refused}
use Rattle.semantics.specs.declared.Evaluated.{Evaluated}
use Rattle.semantics.specs.Numbers.{input_count, most_table, bad_input}
use Rattle.semantics.specs.Records.{word_at}
use Rattle.semantics.specs.Terms.{term_at}
use Rattle.semantics.specs.Opening.{open_of}
use Rattle.semantics.specs.Evaluate.{evaluate_of}

-- "The program reads 16 inputs of 4 bytes (kind, zero, 2-byte value), then a rule": the value is a word, and stands in the second half
abbrev pub input_size : ℕ
input_size = 2 * word_bytes

abbrev pub input_bytes : ℕ
input_bytes = input_size * input_count

-- "allowance 100, table 65,536"
abbrev pub print_allowance : ℕ
print_allowance = 100

-- A line: its word, if it has one, and numbers.
pub data Line : Type 0 where
  out : List ℕ → Line
  halt : List ℕ → Line
  refusal : ℕ → Line
  numbers : List ℕ → Line

-- input i
abbrev pub input_at : List ℕ → ℕ → Input
input_at s i = record { kind = get_or s (input_size * i) 0; value = word_at s (input_size * i + word_bytes) }

-- n inputs from number i on
unfoldable pub inputs_from : List ℕ → ℕ → ℕ → List Input
inputs_from s i zero = []
inputs_from s i (suc n) = input_at s i ∷ inputs_from s (suc i) n

-- what stands between the kind of input i and its value is zero
abbrev pub input_zeroed : List ℕ → ℕ → Bool
input_zeroed s i = eqb (get_or s (input_size * i + 1) 0) 0

-- "An input record cut short, or its second byte not zero, is refused by 2."
unfoldable pub inputs_whole : List ℕ → Bool
inputs_whole s = leb input_bytes (length s) && up_to input_count (input_zeroed s)

-- "Then each new term: number, kind, op, a, b, c."
unfoldable pub term_line : ℕ → Term → Line
term_line i t = numbers (i ∷ t.kind ∷ t.op ∷ t.a ∷ t.b ∷ t.c ∷ [])

unfoldable pub term_lines : List ℕ → ℕ → ℕ → List Line
term_lines s i zero = []
term_lines s i (suc n) = term_line i (term_at s i) ∷ term_lines s (suc i) n

-- "First line: out, S, T, value, count (for a halt: halt, S, T, count; for a refusal: refused and its number, with no line after)."
unfoldable pub answer_lines : Answer → ℕ → List Line → List Line
answer_lines (Out x v d) n new = out (x.assumed ∷ x.asserted ∷ v ∷ n ∷ []) ∷ new
answer_lines (Halt x d) n new = halt (x.assumed ∷ x.asserted ∷ n ∷ []) ∷ new
answer_lines (Refused k) n new = refusal k ∷ []

-- a rule evaluated in a session with this table
unfoldable pub evaluation_lines : List ℕ → Session → List ℕ → List Line
evaluation_lines rule x s =
    let e : Evaluated × List ℕ = evaluate_of rule print_allowance x s in
    let n : ℕ = e.0.session.count in
    answer_lines e.0.answer n (term_lines e.1 x.count (n - x.count))

-- the rule after the inputs, evaluated in the session that was opened
unfoldable pub opening_lines : List ℕ → Opened × List ℕ → List Line
opening_lines s o =
    with o.1 (if o.0.refusal equals 0 then evaluation_lines (drop input_bytes s) o.0.session else (λ t. refusal o.0.refusal ∷ []))

unfoldable pub printed_of : List ℕ → List Line
printed_of s =
    with s (when inputs_whole s then (λ t. opening_lines t (open_of (inputs_from t 0 input_count) (replicate most_table 0))) else (λ t. refusal bad_input ∷ []))
