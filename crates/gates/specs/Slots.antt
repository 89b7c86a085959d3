-- The text of a packed gate's clauses, by arithmetic on its number: what the code works with. Assumes nothing.
use Rattle.std.specs.Prelude.{ℕ, zero, suc, ◌+◌, ◌-◌, ◌*◌, ◌/◌, ◌%◌, List, [], ◌∷◌, ◌++◌, get_or}
use Rattle.notation.specs.Notation.{with, if◌equals◌then◌else◌}
use Rattle.text.specs.Text.{digit, line_feed}
use Rattle.circuits.specs.Gates.{Literal, pos, neg}
use Rattle.semantics.specs.Numbers.{true_number}
use Rattle.clauses.specs.Clauses.{owned}
use Rattle.gate_tables.specs.Tables.{slots, slot_starts}
use Rattle.dimacs.specs.Text.{literal_text}
use Rattle.gates.specs.declared.Places.{Places}

-- ---- variables

-- the number of the term that a wire's variables are of: itself, those that it names, or true
unfoldable pub owner_of : Places → ℕ → ℕ
owner_of p k =
    if k equals 1 then p.own else
    if k equals 2 then p.a else
    if k equals 3 then p.b else
    if k equals 4 then p.c else
    true_number

unfoldable pub wire_variable : Places → ℕ → ℕ
wire_variable p w =
    if w / 2048 equals 0 then p.helpers + w % 2048 else
    with (owner_of p (w / 2048)) λ n. owned * n + w % 2048 + 1

-- a literal over variables: twice the variable, and 1 more where negated
unfoldable pub literal_of : Places → ℕ → ℕ
literal_of p l = with (wire_variable p (l / 2)) λ v. 2 * v + l % 2

unfoldable pub flipped : ℕ → ℕ
flipped l = if l % 2 equals 0 then l + 1 else l - 1

unfoldable pub as_literal : ℕ → Literal ℕ
as_literal l = if l % 2 equals 0 then pos (l / 2) else neg (l / 2)

-- ---- the text of a gate

-- the literal of o, a, b or c
unfoldable pub operand_of : Places → ℕ → ℕ → ℕ
operand_of p g k =
    if k equals 0 then literal_of p (2 * (g / 16 % 16384)) else
    if k equals 1 then literal_of p (g / 262144 % 32768) else
    if k equals 2 then literal_of p (g / 8589934592 % 32768) else
    literal_of p (g / 281474976710656)

unfoldable pub slot_text : Places → ℕ → ℕ → List ℕ
slot_text p g s =
    if s equals 8 then digit 0 ∷ line_feed ∷ [] else
    with (operand_of p g (s / 2)) λ l.
    if s % 2 equals 0 then literal_text (as_literal l) else
    with (flipped l) λ m. literal_text (as_literal m)

-- the text of n slots from number i on
unfoldable pub slots_text : Places → ℕ → ℕ → ℕ → List ℕ
slots_text p g i zero = []
slots_text p g i (suc n) = slot_text p g (get_or slots i 0) ++ slots_text p g (i + 1) n

unfoldable pub gate_text : Places → ℕ → List ℕ
gate_text p g = slots_text p g (get_or slot_starts (g % 16) 0) (get_or slot_starts (g % 16 + 1) 0 - get_or slot_starts (g % 16) 0)

unfoldable pub gates_text : Places → List ℕ → List ℕ
gates_text p [] = []
gates_text p (g ∷ gs) = gate_text p g ++ gates_text p gs
