-- What document 02's request Two promises of its reports. It is said of `spans_of`, `read_of` and the runs, which the operations are proved equal to, on
-- bytes. Assumes nothing.
use Rattle.std.specs.Prelude.{◌≡◌, Bool, true, ◌&&◌, List, [], ◌∷◌, ℕ, ◌*◌, ◌<◌, ◌≤◌, eqb, leb, length, get_or}
use Rattle.notation.specs.Notation.{if◌equals◌then◌else◌}
use Rattle.words.specs.Words.{word_limit}
use Rattle.semantics.specs.declared.Input.{Input}
use Rattle.semantics.specs.declared.Session.{Session}
use Rattle.semantics.specs.declared.Reading.{Reading}
use Rattle.semantics.specs.declared.Report.{Report}
use Rattle.semantics.specs.declared.Outcome.TheVariants.{Error}
use Rattle.semantics.specs.Numbers.{free_word, input_count}
use Rattle.semantics.specs.Terms.{terms_in}
use Rattle.semantics.specs.Opening.{open_of}
use Rattle.semantics.specs.Fits.{fits_of}
use Rattle.semantics.specs.Reading.{nth, readings, numbers_taken, read_of}
use Rattle.semantics.specs.Spans.{only_true, report_size, report_in, spans_of}
use Rattle.semantics.specs.Run.{errs}
use Rattle.semantics.specs.History.{Call, History, begun, called_all, run_of_rules}

-- ---- what is lent: a list of bytes, as every table and every rule is, and a list of words
abbrev pub Bytes : List ℕ → Type 0
Bytes s = (i : ℕ) → get_or s i 0 < 256

abbrev pub Words : List ℕ → Type 0
Words ns = (i : ℕ) → get_or ns i 0 < word_limit

-- no input
abbrev pub no_input : Input
no_input = record { kind = 0; value = 0 }

-- the values of the inputs are words
abbrev pub WordInputs : List Input → Type 0
WordInputs xs = (i : ℕ) → (get_or xs i no_input).value < word_limit

-- the rules of the calls are bytes
abbrev pub ByteRules : List Call → Type 0
ByteRules [] = Unit {0}
ByteRules (k ∷ ks) = Bytes k.rule × ByteRules ks

-- ---- a reading lies in a report: any does where the kind is open, else one of its sort from the low to the high
unfoldable pub lies : Reading → Report → Bool
lies v r = if r.sort equals 0 then true else (eqb v.sort r.sort && (leb r.low v.number && leb v.number r.high))

-- "within the spans": sixteen numbers that 13 does not refuse, each free word's from its low to its high
pub record Within (xs : List Input) (lows highs numbers : List ℕ) : Type 0 where
  pub sixteen : length numbers ≡ input_count
  pub taken : numbers_taken xs numbers ≡ true
  pub inside : (i : ℕ) → i < input_count → (get_or xs i no_input).kind ≡ free_word → (get_or lows i 0 ≤ get_or numbers i 0) × (get_or numbers i 0 ≤ get_or highs i 0)

-- ---- "Every reading within the spans must lie in what is reported"

-- What the operation leaves in a list.
pub record Reported (x : Session) (s lows highs list numbers : List ℕ) : Type 0 where
  pub accepted : (spans_of x s lows highs list).0 ≡ 0
  pub lie : (k : ℕ) → k < x.count → lies (nth (readings numbers (terms_in s x.count)) k) (report_in (spans_of x s lows highs list).1 k) ≡ true

-- Of every session and table that 3 takes, and every list that is long enough.
abbrev pub SpansHold : Type 0
SpansHold =
    (x : Session) (s lows highs list numbers : List ℕ) → length x.inputs ≡ input_count → Bytes s → length lows ≡ input_count → length highs ≡ input_count → Words highs
    → fits_of x s ≡ true → report_size * x.count ≤ length list → Within x.inputs lows highs numbers → Reported x s lows highs list numbers

-- ---- "If, in a session kept from its opening, the asserted formula can only be true, the gin may be told that no reading in the spans errs."

-- Of the history h that a list of calls left, from an opening with the inputs xs.
pub record NeverErrs (xs : List Input) (h : History) (numbers : List ℕ) : Type 0 where
  -- reading the last accepted result is no error
  pub reading : 0 < length h.rules → (work : List ℕ) → h.session.count ≤ length work → (read_of h.session h.table numbers h.result work).0 ≡ Error → ⊥
  -- and neither is the run of the accepted rules
  pub run : run_of_rules xs numbers h.rules ≡ errs → ⊥

-- "in a session kept from its opening": after any list of calls of evaluate from an accepted opening, refused ones included
abbrev pub NoReadingErrs : Type 0
NoReadingErrs =
    (xs : List Input) (table : List ℕ) → length xs ≡ input_count → WordInputs xs → (open_of xs table).0.refusal ≡ 0 → (calls : List Call) → ByteRules calls
    → (h : History) → h ≡ called_all (begun (open_of xs table)) calls
    → (lows highs list reported : List ℕ) → length lows ≡ input_count → length highs ≡ input_count → Words highs → spans_of h.session h.table lows highs list ≡ (0, reported)
    → only_true (report_in reported h.session.state.asserted) ≡ true
    → (numbers : List ℕ) → Within xs lows highs numbers → NeverErrs xs h numbers
