-- SAMPLES TOLD: nothing of a reading is lost in the place of its answer. A reading's number is a word, as spans that leave every word free show. Assumes
-- nothing.
use mathlib.Core.Path.{◌≡◌, refl, ap, ◌∙◌}
use mathlib.Core.Bool.{Bool, true, false}
use mathlib.Core.List.{List}
use Prim.Native.Nat.{ℕ, zero, suc, ◌+◌, ◌*◌, ◌<◌, ◌≤◌}
use native.Mathlib.Omega.{arith}
use lib.Dec.{eqb, ltb}
use lib.ListN.{length, get_or, drop, replicate, length-drop, get_or-replicate}
use lib.Seq.{length-take-le, get_or-take, get_or-drop}
use Rattle.notation.specs.Notation.{pick, when◌then◌else◌, if◌equals◌then◌else◌, if◌below◌then◌else◌, unless◌then◌else◌}
use Rattle.words.specs.Words.{word_limit, last_word}
use Rattle.semantics.specs.declared.Input.{Input}
use Rattle.semantics.specs.declared.Result.{Result}
use Rattle.semantics.specs.declared.Session.{Session}
use Rattle.semantics.specs.declared.Reading.{Reading}
use Rattle.semantics.specs.declared.Outcome.TheVariants.{Truth, Word, Procedure, Refused}
use Rattle.semantics.specs.Numbers.{truth_term, word_term, input_count, misfit, bad_number, bad_result, work_short}
use Rattle.semantics.specs.Terms.{terms_in}
use Rattle.semantics.specs.Fits.{fits_of}
use Rattle.semantics.specs.Reading.{readings, value_outcome, result_outcome, numbers_taken, result_taken, read_in, read_outcome, read_of}
use Rattle.semantics.specs.Samples.{sample_at, outcome_told, read_all_of}
use Rattle.semantics.proofs.Samples.{Numbered, samples_taken, bales_are_readings, answer_tells}
use Rattle.certainty.specs.Certain.{Bytes, Words, Within}
use Rattle.certainty.specs.Told.{SamplesTold}
use Rattle.certainty.proofs.Worded.{table_words}
use Rattle.certainty.proofs.Covers.{number_small}
use Rattle.certainty.proofs.SpansHold.{spans_cover}

-- ---- an outcome is told where the number read is a word

-- the value's
value_numbered : (v : Reading) → v.number < word_limit → Numbered (value_outcome v)
unfolding value_outcome if◌equals◌then◌else◌
value_numbered v h = go (eqb v.sort truth_term) (eqb v.sort word_term)
  where
    go : (b c : Bool) → Numbered (pick b (Truth (eqb v.number 1)) (pick c (Word v.number) (Procedure v.number)))
    go true c = tt
    go false true = h
    go false false = h

-- the result's
result_numbered : (s t halted : Bool) (v : Reading) → v.number < word_limit → Numbered (result_outcome s t halted v)
unfolding result_outcome when◌then◌else◌
result_numbered s false halted v h = tt
result_numbered false true halted v h = tt
result_numbered true true true v h = tt
result_numbered true true false v h = value_numbered v h

-- ---- spans that leave every word free
abbrev lows : List ℕ
lows = replicate input_count 0

abbrev highs : List ℕ
highs = replicate input_count last_word

highs_words : Words highs
highs_words i = go input_count i
  where
    go : (n i : ℕ) → get_or (replicate n last_word) i 0 < word_limit
    go zero i = omega arith
    go (suc n) zero = omega arith
    go (suc n) (suc i) = go n i

-- a whole sample of words lies within them, if 13 does not refuse it
module _ (numbers : List ℕ) (words : Words numbers) (j : ℕ) (whole : input_count * j + input_count ≤ length numbers) (xs : List Input) (taken : numbers_taken xs (sample_at numbers j) ≡ true) where
  sample_within : Within xs lows highs (sample_at numbers j)
  sample_within =
      record {
        sixteen = length-take-le input_count (drop (input_count * j) numbers) (simp length-drop (omega arith));
        taken = taken;
        inside = λ i l k. (rw (get_or-replicate {A = ℕ} input_count i 0 0 l) (omega arith), rw (get_or-replicate input_count i last_word 0 l) (at_most i l));
      }
    where
      at_most : (i : ℕ) → i < input_count → get_or (sample_at numbers j) i 0 ≤ last_word
      at_most i l = rw (get_or-take input_count (drop (input_count * j) numbers) i 0 l, get_or-drop (input_count * j) numbers i 0) (omega (arith, words (input_count * j + i)))

-- ---- a single reading of such a sample
module _ (x : Session) (s : List ℕ) (r : Result) (sample work : List ℕ) (sixteen : length x.inputs ≡ input_count) (bytes : Bytes s)
    (within : numbers_taken x.inputs sample ≡ true → Within x.inputs lows highs sample) where
  read_numbered : Numbered (read_of x s sample r work).0
  unfolding read_of read_outcome read_in unless◌then◌else◌ if◌below◌then◌else◌
  read_numbered = go (fits_of x s) (numbers_taken x.inputs sample) (result_taken (terms_in s x.count) r) (ltb (length work) x.count) refl refl
    where
      go : (f n t l : Bool) → fits_of x s ≡ f → numbers_taken x.inputs sample ≡ n
          → Numbered (pick f (pick n (pick t (pick l (Refused work_short) (read_in (readings sample (terms_in s x.count)) r)) (Refused bad_result)) (Refused bad_number)) (Refused misfit))
      go false n t l ef en = omega arith
      go true false t l ef en = omega arith
      go true true false l ef en = omega arith
      go true true true true ef en = omega arith
      go true true true false ef en =
          result_numbered _ _ r.halted _
          (number_small (spans_cover x s lows highs sample sixteen (table_words s bytes x.count) refl refl highs_words ef (within en) r.value))

-- The theorem.
pub samples_told : SamplesTold
unfolding read_all_of
samples_told x s r numbers work answers sixteen bytes words e j h =
    let t = samples_taken x s r (length numbers) (length work) (length answers) e in
    let whole : input_count * j + input_count ≤ length numbers = omega (arith, t.whole) in
    ap outcome_told (bales_are_readings x s r numbers work answers e j h)
    ∙ answer_tells _ (read_numbered x s r (sample_at numbers j) work sixteen bytes (sample_within numbers words j whole x.inputs))
