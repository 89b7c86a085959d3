-- Samples: every answer is the single reading of its sample, and tells all that the reading gave. Assumes nothing.
use mathlib.Core.Path.{◌≡◌, refl, ap, ◌∙◌}
use mathlib.Core.Bool.{Bool, true, false}
use mathlib.Core.List.{List, map}
use Prim.Native.Nat.{ℕ, zero, suc, ◌+◌, ◌*◌, ◌/◌, ◌%◌, ◌<◌, ◌≤◌}
use native.Mathlib.Omega.{arith}
use lib.Dec.{eqb, ltb}
use lib.ListN.{length, get_or, take, drop}
use lib.Seq.{drop-drop}
use borrow.Author.Tests.{eqb-true, ltb-false}
use Rattle.notation.specs.Notation.{pick, if◌equals◌then◌else◌, if◌below◌then◌else◌, unless◌then◌else◌}
use Rattle.words.specs.Words.{word_limit}
use Rattle.semantics.specs.declared.Result.{Result}
use Rattle.semantics.specs.declared.Session.{Session}
use Rattle.semantics.specs.declared.Outcome.{Outcome}
use Rattle.semantics.specs.declared.Outcome.TheVariants.{Truth, Word, Procedure, Abort, Error, Refused}
use Rattle.semantics.specs.Numbers.{input_count, misfit, bad_result, work_short}
use Rattle.semantics.specs.Terms.{terms_in}
use Rattle.semantics.specs.Fits.{fits_of}
use Rattle.semantics.specs.Reading.{result_taken, read_of}
use Rattle.semantics.specs.Samples.{sample_at, samples_from, answer_place, outcome_told, sample_refusal, read_all_of}

-- ---- the samples of a list of numbers
pub samples_length : (n : ℕ) (numbers : List ℕ) → length (samples_from n numbers) ≡ n
unfolding samples_from
samples_length zero numbers = refl
samples_length (suc n) numbers = ap suc (samples_length n (drop input_count numbers))

pub sample_mapped : (f : List ℕ → ℕ) (n : ℕ) (numbers : List ℕ) (j : ℕ) → j < n → get_or (map f (samples_from n numbers)) j 0 ≡ f (sample_at numbers j)
unfolding samples_from
sample_mapped f zero numbers j h = absurd (omega arith)
sample_mapped f (suc n) numbers zero h = refl
sample_mapped f (suc n) numbers (suc j) h =
    let e : input_count + input_count * j ≡ input_count * suc j = omega arith in
    sample_mapped f n (drop input_count numbers) j (omega arith) ∙ ap (λ l. f (take input_count l)) (drop-drop (input_count * j) input_count numbers ∙ ap (λ k. drop k numbers) e)

-- ---- a call that is not refused
pub record SamplesTaken (x : Session) (s : List ℕ) (r : Result) (given l n : ℕ) : Type 0 where
  pub fits : fits_of x s ≡ true
  pub taken : result_taken (terms_in s x.count) r ≡ true
  pub enough : x.count ≤ l
  pub whole : given ≡ input_count * n
  pub count : n ≡ given / input_count

pub samples_taken : (x : Session) (s : List ℕ) (r : Result) (given l n : ℕ) → sample_refusal x s r given l n ≡ 0 → SamplesTaken x s r given l n
unfolding sample_refusal unless◌then◌else◌ if◌below◌then◌else◌ if◌equals◌then◌else◌
samples_taken x s r given l n h = go (fits_of x s) (result_taken (terms_in s x.count) r) (ltb l x.count) (eqb (given % input_count) 0) (eqb n (given / input_count)) refl refl refl refl refl h
  where
    go : (a b c d e : Bool) → fits_of x s ≡ a → result_taken (terms_in s x.count) r ≡ b → ltb l x.count ≡ c → eqb (given % input_count) 0 ≡ d → eqb n (given / input_count) ≡ e
        → ◌≡◌ {A = ℕ} (pick a (pick b (pick c work_short (pick d (pick e 0 work_short) work_short)) bad_result) misfit) 0 → SamplesTaken x s r given l n
    go false b c d e ea eb ec ed ee z = absurd (omega arith)
    go true false c d e ea eb ec ed ee z = absurd (omega arith)
    go true true true d e ea eb ec ed ee z = absurd (omega arith)
    go true true false false e ea eb ec ed ee z = absurd (omega arith)
    go true true false true false ea eb ec ed ee z = absurd (omega arith)
    go true true false true true ea eb ec ed ee z =
        let p = eqb-true (given % input_count) 0 ed in let q = eqb-true n (given / input_count) ee in
        record { fits = ea; taken = eb; enough = ltb-false l x.count ec; whole = omega arith; count = q }

-- Every place of the answers is the single reading of that sample.
pub bales_are_readings : (x : Session) (s : List ℕ) (r : Result) (numbers work answers : List ℕ) → (read_all_of x s r numbers work answers).0 ≡ 0 → (j : ℕ) → j < length answers
    → get_or (read_all_of x s r numbers work answers).2 j 0 ≡ answer_place (read_of x s (sample_at numbers j) r work).0
unfolding read_all_of if◌equals◌then◌else◌
bales_are_readings x s r numbers work answers e j h =
    let t = samples_taken x s r (length numbers) (length work) (length answers) e in let c = t.count in
    rw (e) (sample_mapped _ (length numbers / input_count) numbers j (omega arith))

-- ---- an answer tells the outcome: nothing is lost where its number is a word's

-- what a reading gives, whose number is a word or a refusal's
abbrev pub Numbered : Outcome → Type 0
Numbered (Truth b) = Unit {0}
Numbered (Word w) = w < word_limit
Numbered (Procedure i) = i < word_limit
Numbered Abort = Unit {0}
Numbered Error = Unit {0}
Numbered (Refused k) = k < word_limit

told : (kind n : ℕ) → n < word_limit → ((word_limit * kind + n) / word_limit ≡ kind) × ((word_limit * kind + n) % word_limit ≡ n)
told kind n h = (omega arith, omega arith)

pub answer_tells : (o : Outcome) → Numbered o → outcome_told (answer_place o) ≡ o
unfolding outcome_told if◌equals◌then◌else◌
answer_tells (Truth true) h = refl
answer_tells (Truth false) h = refl
answer_tells (Word w) h = let t = told 2 w h in rw (t.0, t.1)
answer_tells (Procedure i) h = let t = told 7 i h in rw (t.0, t.1)
answer_tells Abort h = refl
answer_tells Error h = refl
answer_tells (Refused k) h = let p : k / word_limit ≡ 0 = omega arith in rw p
