-- The terms under a result (document 02: "S, T, the value and the terms under them"): those that its reading is made of, as marks by their numbers.
-- Assumes nothing.
use Rattle.std.specs.Prelude.{◌≡◌, ℕ, ◌<◌, Bool, true, false, not, ◌&&◌, ◌||◌, List, [], ◌∷◌, eqb, ltb, length}
use Rattle.notation.specs.Notation.{when◌then◌else◌, if◌equals◌then◌else◌}
use Rattle.operators.specs.Operators.{operands_of}
use Rattle.semantics.specs.declared.Term.{Term}
use Rattle.semantics.specs.declared.Result.{Result}
use Rattle.semantics.specs.Numbers.{operator_term, choice_term}
use Rattle.semantics.specs.Terms.{at}

-- ---- which of a, b and c a term is read from: "5 operator term on a, b; 6 choice: b if a, else c"; others are read from no term

unfoldable pub from_first : Term → Bool
from_first t = if t.kind equals operator_term then true else eqb t.kind choice_term

-- an operator with one operand has no b
unfoldable pub from_second : Term → Bool
from_second t = if t.kind equals operator_term then not (eqb (operands_of t.op) 1) else eqb t.kind choice_term

unfoldable pub from_third : Term → Bool
from_third t = eqb t.kind choice_term

-- ---- marks

-- term x, if it is one of the first n, beside those that are marked
unfoldable pub with_term : Bool → ℕ → ℕ → (ℕ → Bool) → ℕ → Bool
with_term b n x m k = (b && (eqb k x && ltb k n)) || m k

-- those that term n, which is t, is read from. "A term names only lower terms"
unfoldable pub with_lower : ℕ → Term → (ℕ → Bool) → ℕ → Bool
with_lower n t m = with_term (from_third t) n t.c (with_term (from_second t) n t.b (with_term (from_first t) n t.a m))

-- from the newest term down: a marked one marks those that it is read from
unfoldable pub down_from : List Term → (ℕ → Bool) → ℕ → Bool
down_from [] m = m
down_from (t ∷ ts) m = down_from ts (when m (length ts) then with_lower (length ts) t m else m)

-- S, T and the value; a halt has no value
unfoldable pub named_by : ℕ → Result → ℕ → Bool
named_by n r = with_term (not r.halted) n r.value (with_term true n r.state.asserted (with_term true n r.state.assumed (λ k. false)))

-- term k is S, T, the value or under them
unfoldable pub under_of : List Term → Result → ℕ → Bool
under_of ts r = down_from ts (named_by (length ts) r)

-- ---- marks that have, with each term, those that it is read from

-- term k is one of those that term n, which is t, is read from
abbrev pub ReadFrom : ℕ → Term → ℕ → Type 0
ReadFrom n t k = with_lower n t (λ j. false) k ≡ true

abbrev pub Closed : List Term → (ℕ → Bool) → Type 0
Closed ts m = (j k : ℕ) → j < length ts → m j ≡ true → ReadFrom j (at ts j) k → m k ≡ true
