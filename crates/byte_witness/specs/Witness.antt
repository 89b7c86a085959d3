-- Witnesses over byte forms, on all arguments: the answer, 0 or the number of a refusal; the work list and the hit's place then. A refused call leaves
-- the work list zero and the hit's place as it was. Assumes nothing.
use Rattle.std.specs.Prelude.{ℕ, ◌+◌, Bool, false, not, List, ◌∷◌, eqb, length, replicate}
use Rattle.std.proofs.lemmas.List.Edits.{sets}
use Rattle.notation.specs.Notation.{with, if◌equals◌then◌else◌, unless◌then◌else◌}
use Rattle.words.specs.Words.{word_bytes}
use Rattle.operators.specs.Operators.{bit_of}
use Rattle.semantics.specs.declared.Hit.{Hit}
use Rattle.semantics.specs.declared.Witness.{Witness}
use Rattle.semantics.specs.Numbers.{misfit}
use Rattle.firsts.specs.Witness.{witness_of}
use Rattle.forms.specs.Forms.{session_length, numbers_length, result_length, reading_length, wrong_length, numbers_in, session_in, session_formed, result_in, words_of}
use Rattle.goal_forms.specs.Goals.{goal_formed, goal_in}

-- a hit: whether there is one, and its numbers, each a word
abbrev pub hit_length : ℕ
hit_length = word_bytes + numbers_length

abbrev pub hit_bytes : Hit → List ℕ
hit_bytes h = words_of (bit_of h.found ∷ h.numbers)

-- lows and highs of so many bytes: two forms of numbers; or two empty ones, where no spans are given
unfoldable pub spans_given : ℕ → ℕ → Bool
spans_given l h = if l equals 0 then eqb h 0 else if l equals numbers_length then eqb h numbers_length else false

-- 255 of the session, the result, the goal, the lows and highs, and the hit's place, of n bytes, and of a goal that is not of its form; 3 of a session
-- that is not of its form; else 0
unfoldable pub witness_unformed : List ℕ → List ℕ → List ℕ → ℕ → ℕ → ℕ → ℕ
witness_unformed session result goal l h n =
    unless eqb (length session) session_length then wrong_length else
    unless eqb (length result) result_length then wrong_length else
    unless eqb (length goal) reading_length then wrong_length else
    unless spans_given l h then wrong_length else
    unless eqb n hit_length then wrong_length else
    unless goal_formed goal then wrong_length else
    unless session_formed session then misfit else
    0

-- what the operation answers: a refusal, which leaves the hit's place, or a hit
abbrev pub hit_said : Witness × List ℕ → List ℕ → ℕ × List ℕ × List ℕ
hit_said w place = (w.0.refusal, w.1, if w.0.refusal equals 0 then sets place 0 (hit_bytes w.0.hit) else place)

-- then the operation's own 3, 14, 17, 19 and 15, of which 14 refuses a result that is not of its form too
unfoldable pub desk_witness : List ℕ → List ℕ → List ℕ → List ℕ → List ℕ → List ℕ → List ℕ → List ℕ → ℕ × List ℕ × List ℕ
desk_witness session table result goal lows highs work place =
    with (witness_unformed session result goal (length lows) (length highs) (length place)) λ k.
    if k equals 0 then hit_said (witness_of (session_in session) table (result_in result) (goal_in goal) (not (eqb (length lows) 0)) (numbers_in lows) (numbers_in highs) work) place else
    (k, replicate (length work) 0, place)
