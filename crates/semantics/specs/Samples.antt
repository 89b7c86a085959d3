-- Samples (document 02, "Four. A day's bales at a stroke."): "Gins hold the readings of some hundreds of bales and wish to read one result under all of
-- them in one call." A sample is the sixteen numbers of a bale. Assumes nothing.
use Rattle.std.specs.Prelude.{ℕ, zero, suc, ◌+◌, ◌*◌, ◌/◌, ◌%◌, List, [], ◌∷◌, map, eqb, length, take, drop, replicate}
use Rattle.notation.specs.Notation.{if◌equals◌then◌else◌, if◌below◌then◌else◌, unless◌then◌else◌}
use Rattle.words.specs.Words.{word_limit}
use Rattle.operators.specs.Operators.{bit_of}
use Rattle.semantics.specs.declared.Result.{Result}
use Rattle.semantics.specs.declared.Session.{Session}
use Rattle.semantics.specs.declared.Outcome.{Outcome}
use Rattle.semantics.specs.declared.Outcome.TheVariants.{Truth, Word, Procedure, Abort, Error, Refused}
use Rattle.semantics.specs.Numbers.{truth_term, word_term, procedure_term, abort_record, error_record, input_count, misfit, bad_result, work_short}
use Rattle.semantics.specs.Terms.{terms_in}
use Rattle.semantics.specs.Fits.{fits_of}
use Rattle.semantics.specs.Reading.{result_taken, read_of}

-- ---- "whole bales of sixteen"

-- sample j of a list of numbers
abbrev pub sample_at : List ℕ → ℕ → List ℕ
sample_at numbers j = take input_count (drop (input_count * j) numbers)

-- the first n samples, in their order
unfoldable pub samples_from : ℕ → List ℕ → List (List ℕ)
samples_from zero numbers = []
samples_from (suc n) numbers = take input_count numbers ∷ samples_from n (drop input_count numbers)

abbrev pub sample_count : List ℕ → ℕ
sample_count numbers = length numbers / input_count

-- ---- an answer, as one number: the kind of the term that stands for a value, or of the record that brings a stop about, counted in words, and its
-- number; of a refused sample the refusal's number alone
abbrev pub answer_place : Outcome → ℕ
answer_place (Truth b) = word_limit * truth_term + bit_of b
answer_place (Word w) = word_limit * word_term + w
answer_place (Procedure i) = word_limit * procedure_term + i
answer_place Abort = word_limit * abort_record
answer_place Error = word_limit * error_record
answer_place (Refused k) = k

-- the outcome that such a number tells
unfoldable pub outcome_told : ℕ → Outcome
outcome_told n =
    if n / word_limit equals truth_term then Truth (eqb (n % word_limit) 1) else
    if n / word_limit equals word_term then Word (n % word_limit) else
    if n / word_limit equals procedure_term then Procedure (n % word_limit) else
    if n / word_limit equals abort_record then Abort else
    if n / word_limit equals error_record then Error else
    Refused n

-- "just what single readings would give, a refusal by 13 included"
abbrev pub sample_answer : Session → List ℕ → Result → List ℕ → List ℕ → ℕ
sample_answer x s r work sample = answer_place (read_of x s sample r work).0

-- ---- the operation

-- "Refusals 3, 14 and 15 come first and stop the whole call; 15 also covers numbers that aren't whole bales of sixteen, and an answers list whose length
-- isn't the count of bales"; of so many numbers, l places of work and n answers
unfoldable pub sample_refusal : Session → List ℕ → Result → ℕ → ℕ → ℕ → ℕ
sample_refusal x s r given l n =
    unless fits_of x s then misfit else
    unless result_taken (terms_in s x.count) r then bad_result else
    if l below x.count then work_short else
    if given % input_count equals 0 then (if n equals given / input_count then 0 else work_short) else work_short

-- "In the bales' order, the answers hold just what single readings would give"; "a refusal leaves what is lent for answers as it was [...] and a work
-- list ends zero"
unfoldable pub read_all_of : Session → List ℕ → Result → List ℕ → List ℕ → List ℕ → ℕ × List ℕ × List ℕ
read_all_of x s r numbers work answers =
    let refusal : ℕ = sample_refusal x s r (length numbers) (length work) (length answers) in
    let read : List ℕ = map (sample_answer x s r work) (samples_from (sample_count numbers) numbers) in
    (refusal, replicate (length work) 0, if refusal equals 0 then read else answers)
