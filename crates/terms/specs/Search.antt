-- The search for an equal term as the code makes it: upward from the largest operand to the newest term. On a well-formed table it finds
-- what document 01's `find_of` finds, since a term names only lower ones and none is repeated. Assumes nothing.
use Rattle.std.specs.Prelude.{ℕ, ◌+◌, max, true, false, List, [], ◌∷◌, ltb, length}
use Rattle.notation.specs.Notation.{pick, with, if◌equals◌then◌else◌}
use Rattle.std.specs.declared.option.Option.{Option}
use Rattle.std.specs.declared.option.Option.TheVariants.{None, Some}
use Rattle.semantics.specs.declared.Term.{Term}
use Rattle.semantics.specs.declared.Found.{Found}
use Rattle.semantics.specs.Numbers.{operator_term, choice_term, procedure_term, binding_term, no_binding}
use Rattle.semantics.specs.Terms.{same_of}
use Rattle.semantics.specs.Steps.{Setting, room_of}

-- one more than the largest number that a term names; 0 where it names none
unfoldable pub floor_of : Term → ℕ
floor_of t =
    if t.kind equals operator_term then (with (max t.a t.b) λ m. m + 1) else
    if t.kind equals choice_term then (with (max t.a t.b) λ m. with (max m t.c) λ n. n + 1) else
    if t.kind equals procedure_term then t.b + 1 else
    if t.kind equals binding_term then (if t.b equals no_binding then t.a + 1 else with (max t.a t.b) λ m. m + 1) else
    0

abbrev pub missing : Found
missing = record { is = false; at = 0 }

-- a number that the code found, or none
abbrev pub found_of : Option ℕ → Found
found_of None = missing
found_of (Some i) = record { is = true; at = i }

-- the oldest term equal to t among those with numbers from low on
unfoldable pub find_from : ℕ → List Term → Term → Found
find_from low [] t = missing
find_from low (u ∷ us) t =
    let here : Found = record { is = true; at = length us } in
    let lower : Found = find_from low us t in
    pick (ltb (length us) low) missing (pick lower.is lower (pick (same_of u t) here missing))

abbrev pub find_above : List Term → Term → Found
find_above ts t = find_from (floor_of t) ts t

-- the setting in which the code takes its steps, on a table of l bytes
abbrev pub code_setting : ℕ → Setting
code_setting l = record { room = room_of l; search = find_above }
