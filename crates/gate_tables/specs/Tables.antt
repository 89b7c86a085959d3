-- The constant tables of the code, written by tools/gate_tables: the slots of the functions' clauses, and for each code below 36 where its gates begin,
-- how many there are, and how many helpers and clauses they have. Each is proved to be what the definitions give. Assumes nothing.
use Rattle.std.specs.Prelude.{ℕ, List, [], ◌∷◌}

-- the literals of each function's clauses: 2 for each of o, a, b and c, and 1 more where it is negated; 8 ends a clause
abbrev pub slots : List ℕ
slots =
    1 ∷ 8 ∷ 0 ∷ 8 ∷ 0 ∷ 3 ∷ 8 ∷ 1 ∷ 2 ∷ 8 ∷ 1 ∷ 2 ∷ 8 ∷ 1 ∷ 4 ∷ 8 ∷ 0 ∷ 3 ∷ 5 ∷ 8 ∷ 0 ∷ 3 ∷ 8 ∷ 0 ∷ 5 ∷ 8 ∷ 1 ∷ 2 ∷ 4 ∷ 8 ∷ 1 ∷ 2 ∷ 4 ∷ 8 ∷ 1 ∷ 3 ∷
    5 ∷ 8 ∷ 0 ∷ 3 ∷ 4 ∷ 8 ∷ 0 ∷ 2 ∷ 5 ∷ 8 ∷ 1 ∷ 2 ∷ 8 ∷ 1 ∷ 4 ∷ 8 ∷ 1 ∷ 6 ∷ 8 ∷ 0 ∷ 3 ∷ 5 ∷ 7 ∷ 8 ∷ 1 ∷ 2 ∷ 8 ∷ 1 ∷ 4 ∷ 6 ∷ 8 ∷ 0 ∷ 3 ∷ 5 ∷ 8 ∷ 0 ∷
    3 ∷ 7 ∷ 8 ∷ 1 ∷ 2 ∷ 8 ∷ 1 ∷ 4 ∷ 6 ∷ 8 ∷ 1 ∷ 5 ∷ 7 ∷ 8 ∷ 0 ∷ 3 ∷ 5 ∷ 6 ∷ 8 ∷ 0 ∷ 3 ∷ 4 ∷ 7 ∷ 8 ∷ 0 ∷ 3 ∷ 5 ∷ 8 ∷ 1 ∷ 3 ∷ 4 ∷ 8 ∷ 0 ∷ 2 ∷ 7 ∷ 8 ∷
    1 ∷ 2 ∷ 6 ∷ 8 ∷ 1 ∷ 2 ∷ 4 ∷ 8 ∷ 1 ∷ 2 ∷ 6 ∷ 8 ∷ 1 ∷ 4 ∷ 6 ∷ 8 ∷ 0 ∷ 3 ∷ 5 ∷ 8 ∷ 0 ∷ 3 ∷ 7 ∷ 8 ∷ 0 ∷ 5 ∷ 7 ∷ 8 ∷ 1 ∷ 2 ∷ 4 ∷ 6 ∷ 8 ∷ 1 ∷ 3 ∷ 5 ∷
    8 ∷ 0 ∷ 3 ∷ 4 ∷ 8 ∷ 0 ∷ 2 ∷ 5 ∷ 8 ∷ 0 ∷ 2 ∷ 7 ∷ 8 ∷ []

-- where each function's begin; past the last
abbrev pub slot_starts : List ℕ
slot_starts =
    0 ∷ 2 ∷ 4 ∷ 10 ∷ 20 ∷ 30 ∷ 46 ∷ 60 ∷ 75 ∷ 96 ∷ 112 ∷ 136 ∷ 157 ∷ []

-- where the gates of each code begin
abbrev pub gate_starts : List ℕ
gate_starts =
    1043 ∷ 0 ∷ 52 ∷ 104 ∷ 590 ∷ 610 ∷ 630 ∷ 650 ∷ 746 ∷ 842 ∷ 924 ∷ 1022 ∷ 1043 ∷ 1079 ∷ 1064 ∷ 1067 ∷ 1079 ∷ 1079 ∷ 1079 ∷ 1079 ∷ 1079 ∷ 1079 ∷
    1079 ∷ 1079 ∷ 1079 ∷ 1079 ∷ 1079 ∷ 1079 ∷ 1079 ∷ 1079 ∷ 1079 ∷ 1079 ∷ 1070 ∷ 1073 ∷ 1076 ∷ 1079 ∷ []

-- how many there are
abbrev pub gate_counts : List ℕ
gate_counts =
    21 ∷ 52 ∷ 52 ∷ 486 ∷ 20 ∷ 20 ∷ 20 ∷ 96 ∷ 96 ∷ 82 ∷ 98 ∷ 21 ∷ 21 ∷ 3 ∷ 3 ∷ 3 ∷ 3 ∷ 3 ∷ 3 ∷ 3 ∷ 3 ∷ 3 ∷ 3 ∷ 3 ∷ 3 ∷ 3 ∷ 3 ∷ 3 ∷ 3 ∷ 3 ∷ 3 ∷ 3 ∷ 3 ∷
    3 ∷ 3 ∷ 3 ∷ []

-- how many helpers they have
abbrev pub helper_counts : List ℕ
helper_counts =
    18 ∷ 34 ∷ 34 ∷ 468 ∷ 2 ∷ 2 ∷ 2 ∷ 78 ∷ 78 ∷ 64 ∷ 80 ∷ 18 ∷ 18 ∷ 0 ∷ 0 ∷ 0 ∷ 0 ∷ 0 ∷ 0 ∷ 0 ∷ 0 ∷ 0 ∷ 0 ∷ 0 ∷ 0 ∷ 0 ∷ 0 ∷ 0 ∷ 0 ∷ 0 ∷ 0 ∷ 0 ∷ 0 ∷ 0 ∷
    0 ∷ 0 ∷ []

-- how many clauses
abbrev pub clause_counts : List ℕ
clause_counts =
    91 ∷ 217 ∷ 217 ∷ 1803 ∷ 73 ∷ 73 ∷ 89 ∷ 349 ∷ 349 ∷ 290 ∷ 338 ∷ 108 ∷ 91 ∷ 7 ∷ 5 ∷ 5 ∷ 7 ∷ 7 ∷ 7 ∷ 7 ∷ 7 ∷ 7 ∷ 7 ∷ 7 ∷ 7 ∷ 7 ∷ 7 ∷ 7 ∷ 7 ∷ 7 ∷ 7 ∷
    7 ∷ 4 ∷ 5 ∷ 5 ∷ 7 ∷ []
