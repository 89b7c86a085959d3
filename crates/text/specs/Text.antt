-- Text in ASCII: numbers in base ten, and lines of fields. Assumes nothing.
use Rattle.std.specs.Prelude.{ℕ, zero, suc, ◌+◌, ◌/◌, ◌%◌, List, [], ◌∷◌, ◌++◌, map}
use Prim.Native.Char.{code}
use Prim.Native.String.{String, [], ◌∷◌}
use Rattle.notation.specs.Notation.{with, if◌below◌then◌else◌}

-- the bytes of a text in ASCII
abbrev pub ascii : String → List ℕ
ascii [] = []
ascii (c ∷ s) = code c ∷ ascii s

abbrev pub space : ℕ
space = code " "

abbrev pub line_feed : ℕ
line_feed = code "\n"

-- a digit below ten
abbrev pub digit : ℕ → ℕ
digit d = code "0" + d

-- n in base ten, the highest digit first, with at most k digits after it
unfoldable pub decimal_within : ℕ → ℕ → List ℕ
decimal_within zero n = digit n ∷ []
decimal_within (suc k) n =
    with n (if n below 10 then (λ m. digit m ∷ []) else (λ m. decimal_within k (m / 10) ++ (digit (m % 10) ∷ [])))

-- "Numbers are in base ten": n takes no more than n digits after the first
unfoldable pub decimal_of : ℕ → List ℕ
decimal_of n = decimal_within n n

-- fields parted by spaces, and a line feed after the last
unfoldable pub joined : List (List ℕ) → List ℕ
joined [] = line_feed ∷ []
joined (f ∷ []) = f ++ (line_feed ∷ [])
joined (f ∷ g ∷ fs) = f ++ (space ∷ joined (g ∷ fs))

-- a line of numbers
unfoldable pub numbers_text : List ℕ → List ℕ
numbers_text ns = joined (map decimal_of ns)
