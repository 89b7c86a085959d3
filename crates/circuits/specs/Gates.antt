-- Literals, clauses, and gates: a gate gives one wire the value of a function of three literals, and is written as a few clauses.
-- Assumes nothing.
use Rattle.std.specs.Prelude.{Bool, true, false, not, ◌&&◌, ◌||◌, cond, List, [], ◌∷◌, ◌++◌, map}
use Rattle.std.specs.Bool.{beq}

-- ---- a wire, or its opposite
pub data Literal (W : Type 0) : Type 0 where
  pos : W → Literal W
  neg : W → Literal W

abbrev pub flip : {W : Type 0} → Literal W → Literal W
flip (pos w) = neg w
flip (neg w) = pos w

abbrev pub wire : {W : Type 0} → Literal W → W
wire (pos w) = w
wire (neg w) = w

-- ---- under values of the wires: a literal, a clause (some literal of it), clauses (all of them)
abbrev pub literal_true : {W : Type 0} → (W → Bool) → Literal W → Bool
literal_true σ (pos w) = σ w
literal_true σ (neg w) = not (σ w)

abbrev pub clause_true : {W : Type 0} → (W → Bool) → List (Literal W) → Bool
clause_true σ [] = false
clause_true σ (l ∷ ls) = literal_true σ l || clause_true σ ls

abbrev pub clauses_true : {W : Type 0} → (W → Bool) → List (List (Literal W)) → Bool
clauses_true σ [] = true
clauses_true σ (c ∷ cs) = clause_true σ c && clauses_true σ cs

-- ---- the functions of a gate, on three truths
pub data Function : Type 0 where
  copy and2 or2 xor2 and3 and_or and_xor choose majority passing : Function

abbrev pub value_of : Function → Bool → Bool → Bool → Bool
value_of copy a b c = a
value_of and2 a b c = a && b
value_of or2 a b c = a || b
value_of xor2 a b c = not (beq a b)
value_of and3 a b c = a && (b && c)
value_of and_or a b c = a && (b || c)
value_of and_xor a b c = a && not (beq b c)
value_of choose a b c = cond a b c
value_of majority a b c = cond a (b || c) (b && c)
value_of passing a b c = cond a (not b) (b || c)

-- the clauses of each, over the wire o and its operands a, b, c
pub data Slot : Type 0 where
  +o -o +a -a +b -b +c -c : Slot

abbrev pub rows : Function → List (List Slot)
rows copy = (+o ∷ -a ∷ []) ∷ (-o ∷ +a ∷ []) ∷ []
rows and2 = (-o ∷ +a ∷ []) ∷ (-o ∷ +b ∷ []) ∷ (+o ∷ -a ∷ -b ∷ []) ∷ []
rows or2 = (+o ∷ -a ∷ []) ∷ (+o ∷ -b ∷ []) ∷ (-o ∷ +a ∷ +b ∷ []) ∷ []
rows xor2 = (-o ∷ +a ∷ +b ∷ []) ∷ (-o ∷ -a ∷ -b ∷ []) ∷ (+o ∷ -a ∷ +b ∷ []) ∷ (+o ∷ +a ∷ -b ∷ []) ∷ []
rows and3 = (-o ∷ +a ∷ []) ∷ (-o ∷ +b ∷ []) ∷ (-o ∷ +c ∷ []) ∷ (+o ∷ -a ∷ -b ∷ -c ∷ []) ∷ []
rows and_or = (-o ∷ +a ∷ []) ∷ (-o ∷ +b ∷ +c ∷ []) ∷ (+o ∷ -a ∷ -b ∷ []) ∷ (+o ∷ -a ∷ -c ∷ []) ∷ []
rows and_xor = (-o ∷ +a ∷ []) ∷ (-o ∷ +b ∷ +c ∷ []) ∷ (-o ∷ -b ∷ -c ∷ []) ∷ (+o ∷ -a ∷ -b ∷ +c ∷ []) ∷ (+o ∷ -a ∷ +b ∷ -c ∷ []) ∷ []
rows choose = (+o ∷ -a ∷ -b ∷ []) ∷ (-o ∷ -a ∷ +b ∷ []) ∷ (+o ∷ +a ∷ -c ∷ []) ∷ (-o ∷ +a ∷ +c ∷ []) ∷ []
rows majority =
    (-o ∷ +a ∷ +b ∷ []) ∷ (-o ∷ +a ∷ +c ∷ []) ∷ (-o ∷ +b ∷ +c ∷ [])
    ∷ (+o ∷ -a ∷ -b ∷ []) ∷ (+o ∷ -a ∷ -c ∷ []) ∷ (+o ∷ -b ∷ -c ∷ []) ∷ []
rows passing = (-o ∷ +a ∷ +b ∷ +c ∷ []) ∷ (-o ∷ -a ∷ -b ∷ []) ∷ (+o ∷ -a ∷ +b ∷ []) ∷ (+o ∷ +a ∷ -b ∷ []) ∷ (+o ∷ +a ∷ -c ∷ []) ∷ []

-- ---- gates over wires: a wire with a fixed truth, or a function of three literals
pub data Gate (W : Type 0) : Type 0 where
  fix : W → Bool → Gate W
  gate : Function → W → Literal W → Literal W → Literal W → Gate W

abbrev pub slot : {W : Type 0} → W → Literal W → Literal W → Literal W → Slot → Literal W
slot o a b c +o = pos o
slot o a b c -o = neg o
slot o a b c +a = a
slot o a b c -a = flip a
slot o a b c +b = b
slot o a b c -b = flip b
slot o a b c +c = c
slot o a b c -c = flip c

abbrev pub fixed : {W : Type 0} → W → Bool → Literal W
fixed w true = pos w
fixed w false = neg w

abbrev pub clauses_of : {W : Type 0} → Gate W → List (List (Literal W))
clauses_of (fix w v) = (fixed w v ∷ []) ∷ []
clauses_of (gate f o a b c) = map (map (slot o a b c)) (rows f)

abbrev pub clauses : {W : Type 0} → List (Gate W) → List (List (Literal W))
clauses [] = []
clauses (g ∷ gs) = clauses_of g ++ clauses gs

-- ---- gates moved to other wires
abbrev pub over : {V₁ W : Type 0} → (V₁ → W) → Literal V₁ → Literal W
over f (pos w) = pos (f w)
over f (neg w) = neg (f w)

abbrev pub onto : {V₁ W : Type 0} → (V₁ → W) → List (Gate V₁) → List (Gate W)
onto f [] = []
onto f (fix w v ∷ gs) = fix (f w) v ∷ onto f gs
onto f (gate g w a b c ∷ gs) = gate g (f w) (over f a) (over f b) (over f c) ∷ onto f gs
