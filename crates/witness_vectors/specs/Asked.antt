-- A session's step that asks for a witness, and its answer as numbers. Assumes nothing.
use Rattle.std.specs.Prelude.{ℕ, Bool, true, false, List, [], ◌∷◌, replicate}
use Rattle.notation.specs.Notation.{when◌then◌else◌, if◌equals◌then◌else◌}
use Rattle.semantics.specs.declared.Goal.{Goal}
use Rattle.semantics.specs.declared.Witness.{Witness}
use Rattle.semantics.specs.History.{History}
use Rattle.firsts.specs.Witness.{witness_of}
use Rattle.vectors.specs.Script.{Step, ask}

-- 0, 1 and the sixteen numbers of the reading; 0 and 0 where there is none; or a refusal
unfoldable pub witness_numbers : Witness → List ℕ
witness_numbers w = if w.refusal equals 0 then 0 ∷ (when w.hit.found then 1 ∷ w.hit.numbers else 0 ∷ []) else w.refusal ∷ []

-- of the last accepted result, with a work list of l places; the lows and highs count only where spans are given
unfoldable pub witnessed : ℕ → Goal → Bool → List ℕ → List ℕ → History → List ℕ
witnessed l g spanned lows highs h =
    witness_numbers (witness_of h.session h.table h.result g spanned lows highs (replicate l 1)).0

-- without spans
abbrev pub witness : ℕ → Goal → Step
witness l g = ask (witnessed l g false [] [])

-- with spans
abbrev pub witness_in : ℕ → Goal → List ℕ → List ℕ → Step
witness_in l g lows highs = ask (witnessed l g true lows highs)
