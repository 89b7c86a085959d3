-- A shift by a constant, bit by bit: what the code works with. Assumes nothing.
use Rattle.std.specs.Prelude.{ℕ, ◌+◌, ◌-◌, ◌*◌, Bool, true, false, List, eqb}
use Rattle.notation.specs.Notation.{when◌then◌else◌, if◌equals◌then◌else◌, if◌below◌then◌else◌, with}
use Rattle.words.specs.Words.{width}
use Rattle.circuits.specs.Gates.{Literal}
use Rattle.circuits.specs.Circuits.{shifted_up, shifted_down}
use Rattle.circuits.specs.Templates.{Wire}
use Rattle.semantics.specs.declared.Term.{Term}
use Rattle.semantics.specs.Numbers.{word_term, left_code, right_code}

-- up or down
abbrev pub shifted : Bool → Literal Wire → ℕ → List (Literal Wire) → List (Literal Wire)
shifted true = shifted_up
shifted false = shifted_down

-- the number of the literal that is false
abbrev pub none_number : ℕ
none_number = 20485

-- the number of the literal that bit j is after a shift by w: the operand's bits are wires from number 2 on
unfoldable pub moved_literal : Bool → ℕ → ℕ → ℕ
moved_literal up w j =
    if j below width then (
    when up then (if j below w then none_number else 2 * (4098 + (j - w))) else
    if w below width - j then 2 * (4098 + (j + w)) else
    none_number) else
    none_number

-- the gate of bit j, packed: the operand is a word (helper 0), and that literal
unfoldable pub moved_gate : Bool → ℕ → ℕ → ℕ
moved_gate up w j = with (moved_literal up w j) λ l. 3 + 16 * (2050 + j + 16384 * (32768 * (l + 32768 * l)))

-- the code is a shift and u a word constant
unfoldable pub by_constant : ℕ → Term → Bool
by_constant op u = if u.kind equals word_term then (if op equals left_code then true else eqb op right_code) else false
