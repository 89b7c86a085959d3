-- Records of 8 bytes (document 01, "Rule records"). What stands past the last byte reads as 0. Assumes nothing.
use Rattle.std.specs.Prelude.{ℕ, ◌+◌, ◌*◌, ◌/◌, ◌%◌, Bool, true, List, [], ◌∷◌, eqb, get_or, length}
use Rattle.notation.specs.Notation.{if◌below◌then◌else◌}
use Rattle.words.specs.Words.{join_of}
use Rattle.semantics.specs.declared.Record.{Record}

-- "fields little-endian": the number of the two bytes at a position
abbrev pub pair_at : List ℕ → ℕ → ℕ
pair_at s i = get_or s i 0 + 256 * get_or s (i + 1) 0

-- "a record's number is its position"; "kind (1 byte), op (1 byte), p, q, r (2 bytes each)"
unfoldable pub record_at : List ℕ → ℕ → Record
record_at s i =
    record { kind = get_or s (8 * i) 0; op = get_or s (8 * i + 1) 0; p = pair_at s (8 * i + 2); q = pair_at s (8 * i + 4); r = pair_at s (8 * i + 6) }

-- the 8 bytes of a record, or of a term, that has these fields
abbrev pub record_bytes : ℕ → ℕ → ℕ → ℕ → ℕ → List ℕ
record_bytes kind op p q r = kind ∷ op ∷ p % 256 ∷ p / 256 ∷ q % 256 ∷ q / 256 ∷ r % 256 ∷ r / 256 ∷ []

-- the word of the bytes at a position, the low half first
abbrev pub word_at : List ℕ → ℕ → ℕ
word_at s i = join_of (pair_at s i) (pair_at s (i + 2))

-- "op 2 the word p": the word of a datum
abbrev pub datum_word : Record → ℕ
datum_word x = join_of x.p x.q

-- "Unused fields are zero": field i, of a record or a term that uses the first u
unfoldable pub field_of : ℕ → ℕ → ℕ → Bool
field_of u i v = if i below u then true else eqb v 0

-- "records of 8 bytes without a header": how many there are
abbrev pub records_in : List ℕ → ℕ
records_in s = length s / 8
