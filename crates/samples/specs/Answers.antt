-- What the code promises of a sample and of its answers. Assumes nothing.
use Rattle.std.specs.Prelude.{◌≡◌, List, ℕ, ◌<◌, length, get_or}
use Rattle.notation.specs.Notation.{if◌below◌then◌else◌, unless◌then◌else◌}
use Rattle.semantics.specs.declared.Input.{Input}
use Rattle.semantics.specs.declared.Result.{Result}
use Rattle.semantics.specs.declared.Outcome.{Outcome}
use Rattle.semantics.specs.declared.Outcome.TheVariants.{Refused}
use Rattle.semantics.specs.Numbers.{bad_number, work_short}
use Rattle.semantics.specs.Terms.{terms_in}
use Rattle.semantics.specs.Reading.{readings, numbers_taken, read_in}
use Rattle.semantics.specs.Samples.{sample_at, answer_place}

-- what a result reads as in the table s; 15: "work list shorter than the count"; the work list has l places
unfoldable pub outcome_in : List ℕ → ℕ → List ℕ → Result → ℕ → Outcome
outcome_in s count numbers r l = if l below count then Refused work_short else read_in (readings numbers (terms_in s count)) r

-- what a sample reads as where 3, 14 and 15 refuse nothing: test 13, then the result
unfoldable pub sample_outcome : List Input → List ℕ → ℕ → Result → List ℕ → Outcome
sample_outcome inputs s count r sample = unless numbers_taken inputs sample then Refused bad_number else read_in (readings sample (terms_in s count)) r

-- the first n places of the list m are the answers for the first n samples; it is as long as w
pub record Answers (inputs : List Input) (s : List ℕ) (count : ℕ) (r : Result) (numbers w : List ℕ) (n : ℕ) (m : List ℕ) : Type 0 where
  pub long : length m ≡ length w
  pub is : (j : ℕ) → j < n → get_or m j 0 ≡ answer_place (sample_outcome inputs s count r (sample_at numbers j))
