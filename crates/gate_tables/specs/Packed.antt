-- A gate as one number, and the gates of all codes as one list of numbers. Assumes nothing.
use Rattle.std.specs.Prelude.{ℕ, ◌+◌, ◌*◌, List, [], ◌∷◌, ◌++◌, map}
use Rattle.notation.specs.Notation.{if◌below◌then◌else◌}
use Rattle.operators.specs.Operators.{bit_of}
use Rattle.circuits.specs.Gates.{Literal, pos, neg, Function, copy, and2, or2, xor2, and3, and_or, and_xor, choose, majority, passing, Gate, fix, gate}
use Rattle.circuits.specs.Templates.{Wire, wire_a, wire_b, wire_c, wire_true, helper, own}
use Rattle.clauses.specs.Clauses.{code_gates}

-- each kind of wire has 2,048 numbers; the truth of the term true is its wire 2
abbrev pub wire_number : Wire → ℕ
wire_number (helper k) = k
wire_number (own i) = 2048 + i
wire_number (wire_a i) = 4096 + i
wire_number (wire_b i) = 6144 + i
wire_number (wire_c i) = 8192 + i
wire_number wire_true = 10242

abbrev pub literal_number : Literal Wire → ℕ
literal_number (pos w) = 2 * wire_number w
literal_number (neg w) = 2 * wire_number w + 1

-- 0 and 1 are those of a wire with a fixed truth
abbrev pub function_number : Function → ℕ
function_number copy = 2
function_number and2 = 3
function_number or2 = 4
function_number xor2 = 5
function_number and3 = 6
function_number and_or = 7
function_number and_xor = 8
function_number choose = 9
function_number majority = 10
function_number passing = 11

-- the function in 4 bits, the wire in 14, and three literals in 15 bits each
abbrev pub packed : Gate Wire → ℕ
packed (fix w v) = bit_of v + 16 * wire_number w
packed (gate f w a b c) = function_number f + 16 * (wire_number w + 16384 * (literal_number a + 32768 * (literal_number b + 32768 * literal_number c)))

abbrev gates_of_codes : List ℕ → List ℕ
gates_of_codes [] = []
gates_of_codes (op ∷ ops) = map packed (code_gates op) ++ gates_of_codes ops

-- every operator's gates, in the order of the codes
unfoldable pub gate_table : List ℕ
gate_table = gates_of_codes (1 ∷ 2 ∷ 3 ∷ 4 ∷ 5 ∷ 6 ∷ 7 ∷ 8 ∷ 9 ∷ 10 ∷ 11 ∷ 12 ∷ 14 ∷ 15 ∷ 32 ∷ 33 ∷ 34 ∷ 35 ∷ [])

-- a code's row in the lists for each code: those from 36 on have the last one's
unfoldable pub row_of_code : ℕ → ℕ
row_of_code op = if op below 36 then op else 35
