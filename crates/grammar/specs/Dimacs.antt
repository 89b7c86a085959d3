-- The grammar of DIMACS CNF, as solvers read it: lines that begin with c are comments; of the words of all other lines the first four are `p`, `cnf`,
-- the number of variables and the number of clauses; the others are numbers, of which 0 ends a clause and any other one is a literal, with a minus
-- where its variable is negated. There are as many clauses as the problem line says, each ended, and no variable above its number. Assumes nothing.
use Rattle.std.specs.Prelude.{ℕ, ◌+◌, ◌-◌, ◌*◌, Bool, true, false, ◌&&◌, ◌||◌, List, [], ◌∷◌, ◌++◌, eqb, leb, length}
use Prim.Native.Char.{code}
use Rattle.std.proofs.Math.Option.{Option, none, some}
use Rattle.notation.specs.Notation.{when◌then◌else◌, if◌equals◌then◌else◌}
use Rattle.text.specs.Text.{ascii, space, line_feed}
use Rattle.circuits.specs.Gates.{Literal, pos, neg, wire}

-- what is read: how many variables there are, and the clauses
pub record Dimacs : Type 0 where
  pub variables : ℕ
  pub clauses : List (List (Literal ℕ))

-- ---- lines and words

-- a byte before the first of some pieces
abbrev pub grow : ℕ → List (List ℕ) → List (List ℕ)
grow b [] = (b ∷ []) ∷ []
grow b (w ∷ ws) = (b ∷ w) ∷ ws

-- the pieces of a text between the bytes that pass a test
unfoldable pub pieces : (ℕ → Bool) → List ℕ → List (List ℕ)
pieces p [] = [] ∷ []
pieces p (b ∷ s) = when p b then [] ∷ pieces p s else grow b (pieces p s)

unfoldable pub is_line_feed : ℕ → Bool
is_line_feed b = eqb b line_feed

-- a space, a tab, a carriage return
unfoldable pub is_blank : ℕ → Bool
is_blank b = eqb b space || (eqb b 9 || eqb b 13)

abbrev pub not_empty : List (List ℕ) → List (List ℕ)
not_empty [] = []
not_empty ([] ∷ ws) = not_empty ws
not_empty ((b ∷ w) ∷ ws) = (b ∷ w) ∷ not_empty ws

unfoldable pub words_of : List ℕ → List (List ℕ)
words_of line = not_empty (pieces is_blank line)

abbrev pub is_comment : List ℕ → Bool
is_comment [] = false
is_comment (b ∷ s) = eqb b (code "c")

-- the words of lines that are no comments
unfoldable pub words_in : List (List ℕ) → List (List ℕ)
words_in [] = []
words_in (l ∷ ls) = when is_comment l then words_in ls else words_of l ++ words_in ls

-- ---- numbers
abbrev pub is_digit : ℕ → Bool
is_digit b = leb (code "0") b && leb b (code "9")

unfoldable pub all_digits : List ℕ → Bool
all_digits [] = true
all_digits (b ∷ s) = is_digit b && all_digits s

-- after n, in base ten
unfoldable pub value_from : ℕ → List ℕ → ℕ
value_from n [] = n
value_from n (b ∷ s) = value_from (10 * n + (b - code "0")) s

unfoldable pub natural : List ℕ → Option ℕ
natural [] = none
natural (b ∷ s) = when all_digits (b ∷ s) then some (value_from 0 (b ∷ s)) else none

abbrev pub positive : Option ℕ → Option (Literal ℕ)
positive none = none
positive (some v) = some (pos v)

abbrev pub negative : Option ℕ → Option (Literal ℕ)
negative none = none
negative (some v) = some (neg v)

-- digits, or a minus and digits
unfoldable pub integer : List ℕ → Option (Literal ℕ)
integer [] = none
integer (b ∷ s) = if b equals code "-" then negative (natural s) else positive (natural (b ∷ s))

-- ---- clauses: each number but 0 belongs to the clause that the next 0 ends
abbrev pub more : Literal ℕ → List (List (Literal ℕ)) → Option (List (List (Literal ℕ)))
more l [] = none
more l (c ∷ cs) = some ((l ∷ c) ∷ cs)

abbrev pub before : Option (Literal ℕ) → Option (List (List (Literal ℕ))) → Option (List (List (Literal ℕ)))
before none cs = none
before (some l) none = none
before (some l) (some cs) = if wire l equals 0 then some ([] ∷ cs) else more l cs

unfoldable pub clauses_from : List (List ℕ) → Option (List (List (Literal ℕ)))
clauses_from [] = some []
clauses_from (w ∷ ws) = before (integer w) (clauses_from ws)

-- ---- the whole
abbrev pub same_text : List ℕ → List ℕ → Bool
same_text [] [] = true
same_text [] (y ∷ ys) = false
same_text (x ∷ xs) [] = false
same_text (x ∷ xs) (y ∷ ys) = eqb x y && same_text xs ys

-- no variable is above n
unfoldable pub up_to : ℕ → List (Literal ℕ) → Bool
up_to n [] = true
up_to n (l ∷ ls) = leb (wire l) n && up_to n ls

unfoldable pub all_up_to : ℕ → List (List (Literal ℕ)) → Bool
all_up_to n [] = true
all_up_to n (c ∷ cs) = up_to n c && all_up_to n cs

abbrev pub as_said : Option ℕ → Option ℕ → Option (List (List (Literal ℕ))) → Option Dimacs
as_said none n cs = none
as_said (some v) none cs = none
as_said (some v) (some n) none = none
as_said (some v) (some n) (some cs) = when eqb (length cs) n && all_up_to v cs then some (record { variables = v; clauses = cs }) else none

unfoldable pub dimacs_from : List (List ℕ) → Option Dimacs
dimacs_from [] = none
dimacs_from (p ∷ []) = none
dimacs_from (p ∷ f ∷ []) = none
dimacs_from (p ∷ f ∷ v ∷ []) = none
dimacs_from (p ∷ f ∷ v ∷ n ∷ ws) = when same_text p (ascii "p") && same_text f (ascii "cnf") then as_said (natural v) (natural n) (clauses_from ws) else none

-- what the grammar reads from a text; nothing from a text that is none of its own
unfoldable pub dimacs_in : List ℕ → Option Dimacs
dimacs_in s = dimacs_from (words_in (pieces is_line_feed s))
