-- Answers as numbers: document 01's number and values for each case, and how they stand in bytes. Assumes nothing.
use Rattle.std.specs.Prelude.{ℕ, List, [], ◌∷◌}
use Rattle.std.proofs.lemmas.List.Edits.{sets}
use Rattle.operators.specs.Operators.{bit_of}
use Rattle.semantics.specs.declared.Answer.{Answer}
use Rattle.semantics.specs.declared.Answer.TheVariants.{Out, Halt, Refused}
use Rattle.semantics.specs.declared.Outcome.{Outcome}
use Rattle.semantics.specs.declared.Outcome.TheVariants.{Truth, Word, Procedure, Abort, Error, Refused as NoOutcome}
use Rattle.semantics.specs.Numbers.{truth_term, word_term, procedure_term, abort_record, error_record}

-- an evaluation's answer: 0, S, T, the value (0 of a halt), the halted mark and the depth; or the number of the refusal
abbrev pub answer_values : Answer → List ℕ
answer_values (Out x v d) = 0 ∷ x.assumed ∷ x.asserted ∷ v ∷ 0 ∷ d ∷ []
answer_values (Halt x d) = 0 ∷ x.assumed ∷ x.asserted ∷ 0 ∷ 1 ∷ d ∷ []
answer_values (Refused k) = k ∷ []

-- a reading's or a run's: 0, the kind of the term that stands for the value and its number, of a stop the kind of the record that brings it
-- about and 0; or the number of the refusal
abbrev pub outcome_values : Outcome → List ℕ
outcome_values (Truth b) = 0 ∷ truth_term ∷ bit_of b ∷ []
outcome_values (Word w) = 0 ∷ word_term ∷ w ∷ []
outcome_values (Procedure i) = 0 ∷ procedure_term ∷ i ∷ []
outcome_values Abort = 0 ∷ abort_record ∷ 0 ∷ []
outcome_values Error = 0 ∷ error_record ∷ 0 ∷ []
outcome_values (NoOutcome k) = k ∷ []

-- what is answered, and what then stands in the place: the values after the number, by their form, from its beginning; a number alone
-- leaves it as it was. An answer's values are of two bytes each, `pairs_of`, and a reading's are words, `words_of`.
abbrev pub written_at : (List ℕ → List ℕ) → List ℕ → List ℕ → ℕ × List ℕ
written_at form [] place = (0, place)
written_at form (k ∷ vs) place = (k, sets place 0 (form vs))
