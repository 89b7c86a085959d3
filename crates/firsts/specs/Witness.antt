-- Witnesses (document 02, "Seven. Show me a bale that does it."): "A gin wants to hear readings that bring about an error, an abort or a named word.
-- [...] give the first such reading, comparing inputs from 0 up as plain numbers, or say that there is none." Assumes nothing.
use Rattle.std.specs.Prelude.{ℕ, zero, suc, ◌+◌, ◌-◌, Bool, true, false, eqb, length, replicate}
use mathlib.Core.List.{List, [], ◌∷◌, map, flat_map}
use Rattle.notation.specs.Notation.{with, when◌then◌else◌, if◌equals◌then◌else◌, if◌below◌then◌else◌, unless◌then◌else◌}
use Rattle.words.specs.Words.{width, last_word}
use Rattle.semantics.specs.declared.Term.{Term}
use Rattle.semantics.specs.declared.Input.{Input}
use Rattle.semantics.specs.declared.Result.{Result}
use Rattle.semantics.specs.declared.Session.{Session}
use Rattle.semantics.specs.declared.Goal.{Goal}
use Rattle.semantics.specs.declared.Goal.TheVariants.{Errs, Aborts, Gives}
use Rattle.semantics.specs.declared.Outcome.{Outcome}
use Rattle.semantics.specs.declared.Outcome.TheVariants.{Truth, Word, Procedure, Abort, Error, Refused}
use Rattle.semantics.specs.declared.Hit.{Hit}
use Rattle.semantics.specs.declared.Witness.{Witness}
use Rattle.semantics.specs.Numbers.{free_truth, free_word, input_count, bit_limit, misfit, bad_result, work_short, bad_span, too_many_bits}
use Rattle.semantics.specs.Terms.{terms_in}
use Rattle.semantics.specs.Fits.{fits_of}
use Rattle.semantics.specs.Reading.{readings, result_taken, read_in}
use Rattle.semantics.specs.Spans.{ends_of, spans_taken}

-- ---- "readings that bring about an error, an abort or a named word"
abbrev pub is_error : Outcome → Bool
is_error (Truth b) = false
is_error (Word w) = false
is_error (Procedure i) = false
is_error Abort = false
is_error Error = true
is_error (Refused k) = false

abbrev pub is_abort : Outcome → Bool
is_abort (Truth b) = false
is_abort (Word w) = false
is_abort (Procedure i) = false
is_abort Abort = true
is_abort Error = false
is_abort (Refused k) = false

abbrev pub is_the_word : ℕ → Outcome → Bool
is_the_word n (Truth b) = false
is_the_word n (Word w) = eqb w n
is_the_word n (Procedure i) = false
is_the_word n Abort = false
is_the_word n Error = false
is_the_word n (Refused k) = false

abbrev pub reaches : Goal → Outcome → Bool
reaches Errs o = is_error o
reaches Aborts o = is_abort o
reaches (Gives w) o = is_the_word w o

-- the result, read under these numbers, reaches the goal
unfoldable pub reached_at : Goal → Result → List Term → List ℕ → Bool
reached_at g r ts ns = reaches g (read_in (readings ns ts) r)

-- ---- "comparing inputs from 0 up as plain numbers": the readings from the lows to the highs, in this order

-- n, n + 1 and so on, k of them
unfoldable pub up_from : ℕ → ℕ → List ℕ
up_from n zero = []
up_from n (suc k) = n ∷ up_from (suc n) k

-- those with the least number for the first input stand first, in the order of the other inputs; then those with the next number
unfoldable pub readings_from : List ℕ → List ℕ → List (List ℕ)
readings_from [] hs = [] ∷ []
readings_from (l ∷ ls) [] = []
readings_from (l ∷ ls) (h ∷ hs) = flat_map (λ n. map (λ ns. n ∷ ns) (readings_from ls hs)) (up_from l (suc h - l))

-- ---- "give the first such reading [...] or say that there is none"
pub data First : Type 0 where
  none : First
  some : List ℕ → First

unfoldable pub first_that : (List ℕ → Bool) → List (List ℕ) → First
first_that p [] = none
first_that p (ns ∷ nss) = when p ns then some ns else first_that p nss

-- ---- "Spans from request Two may narrow the search: then only readings inside them count." Without them a word goes from 0 to the last. "Constant
-- inputs stand in it as 0."
unfoldable pub least_of : Bool → List Input → List ℕ → List ℕ
least_of spanned xs lows = ends_of 0 xs (when spanned then lows else replicate input_count 0)

unfoldable pub greatest_of : Bool → List Input → List ℕ → List ℕ
greatest_of spanned xs highs = ends_of 1 xs (when spanned then highs else replicate input_count last_word)

-- ---- 19: "at most 24 free bits in all (a truth is one, a word sixteen)"
unfoldable pub bits_in : Input → ℕ
bits_in x = if x.kind equals free_truth then 1 else if x.kind equals free_word then width else 0

unfoldable pub bits_of : List Input → ℕ
bits_of [] = 0
bits_of (x ∷ xs) = bits_in x + bits_of xs

-- ---- the operation

-- 17, of spans alone
unfoldable pub spans_fit : Bool → List Input → List ℕ → List ℕ → Bool
spans_fit spanned xs lows highs = when spanned then spans_taken xs lows highs else true

abbrev pub no_hit : Hit
no_hit = record { found = false; numbers = replicate input_count 0 }

abbrev pub hit_of : First → Hit
hit_of none = no_hit
hit_of (some ns) = record { found = true; numbers = ns }

abbrev pub witness_refused : ℕ → Witness
witness_refused k = record { refusal = k; hit = no_hit }

-- the first reading from the lows to the highs under which the result reaches the goal
unfoldable pub first_reached : List Term → Result → Goal → List ℕ → List ℕ → First
first_reached ts r g lows highs = first_that (reached_at g r ts) (readings_from lows highs)

-- "More than 24 free bits is refused by 19, after 3, 14 and 17 and before 15."; the work list has l places
unfoldable pub witness_refusal : Session → List ℕ → Result → Bool → List ℕ → List ℕ → ℕ → ℕ
witness_refusal x s r spanned lows highs l =
    unless fits_of x s then misfit else
    unless result_taken (terms_in s x.count) r then bad_result else
    unless spans_fit spanned x.inputs lows highs then bad_span else
    with (bits_of x.inputs) λ n. if bit_limit below n then too_many_bits else
    if l below x.count then work_short else
    0

-- the answer, and the work list then: "a work list ends zero"
unfoldable pub witness_of : Session → List ℕ → Result → Goal → Bool → List ℕ → List ℕ → List ℕ → Witness × List ℕ
witness_of x s r g spanned lows highs work =
    let refusal : ℕ = witness_refusal x s r spanned lows highs (length work) in
    let first : First = first_reached (terms_in s x.count) r g (least_of spanned x.inputs lows) (greatest_of spanned x.inputs highs) in
    (if refusal equals 0 then record { refusal = 0; hit = hit_of first } else witness_refused refusal, replicate (length work) 0)
