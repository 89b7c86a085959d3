-- A gate's clauses hold exactly where its equation does. Assumes nothing.
use mathlib.Core.Path.{◌≡◌, refl, sym, ap₂, ◌∙◌}
use mathlib.Core.Bool.{Bool, true, false, not, ◌&&◌, ◌||◌, beq}
use mathlib.Core.List.{List, [], ◌∷◌, ◌++◌, map}
use Prim.Native.Nat.{ℕ}
use native.Mathlib.Omega.{arith}
use Rattle.notation.proofs.Every.{and_both}
use Rattle.circuits.specs.Gates.{Literal, pos, neg, flip, literal_true, clause_true, clauses_true, Function, copy, and2, or2, xor2, and3, and_or, and_xor, choose, majority, passing, value_of, Slot, +o, -o, +a, -a, +b, -b, +c, -c, rows, Gate, fix, gate, slot, clauses_of, clauses, over, onto}

abbrev at : Bool → Bool → Bool → Bool → Slot → Bool
at o a b c +o = o
at o a b c -o = not o
at o a b c +a = a
at o a b c -a = not a
at o a b c +b = b
at o a b c -b = not b
at o a b c +c = c
at o a b c -c = not c

abbrev row : Bool → Bool → Bool → Bool → List Slot → Bool
row o a b c [] = false
row o a b c (s ∷ ss) = at o a b c s || row o a b c ss

abbrev table : Bool → Bool → Bool → Bool → List (List Slot) → Bool
table o a b c [] = true
table o a b c (r ∷ rs) = row o a b c r && table o a b c rs

-- a test of one truth that passes at both
beq_true : (a b : Bool) → beq a b ≡ true → a ≡ b
beq_true true true e = refl
beq_true true false e = sym e
beq_true false true e = e
beq_true false false e = refl

pub never : {P : Type 0} → ◌≡◌ {A = Bool} false true → P
never e = let z : ◌≡◌ {A = ℕ} 0 1 = cc in absurd (omega arith)

pub and_l : (a b : Bool) → (a && b) ≡ true → a ≡ true
and_l a b e = (and_both a b e).0

pub and_r : (a b : Bool) → (a && b) ≡ true → b ≡ true
and_r a b e = (and_both a b e).1

both : (p : Bool → Bool) → (p false && p true) ≡ true → (x : Bool) → p x ≡ true
both p e true = and_r (p false) (p true) e
both p e false = and_l (p false) (p true) e

abbrev two : (Bool → Bool) → Bool
two p = p false && p true

four : (p : Bool → Bool → Bool → Bool → Bool) → two (λ o. two (λ a. two (λ b. two (λ c. p o a b c)))) ≡ true
    → (o a b c : Bool) → p o a b c ≡ true
four p e o a b c = both (λ z. p o a b z) (both (λ y. two (λ z. p o a y z)) (both (λ x. two (λ y. two (λ z. p o x y z))) (both (λ w. two (λ x. two (λ y. two (λ z. p w x y z)))) e o) a) b) c

-- every row of the table of gates, by computation
table_is : (f : Function) (o a b c : Bool) → table o a b c (rows f) ≡ beq o (value_of f a b c)
table_is f o a b c = beq_true _ _ (four (λ w x y z. beq (table w x y z (rows f)) (beq w (value_of f x y z))) (each f) o a b c)
  where
    each : (f : Function) → two (λ o. two (λ a. two (λ b. two (λ c. beq (table o a b c (rows f)) (beq o (value_of f a b c)))))) ≡ true
    each copy = refl
    each and2 = refl
    each or2 = refl
    each xor2 = refl
    each and3 = refl
    each and_or = refl
    each and_xor = refl
    each choose = refl
    each majority = refl
    each passing = refl

-- A gate's equation
abbrev pub Hold : {W : Type 0} → (W → Bool) → Gate W → Type 0
Hold σ (fix w v) = σ w ≡ v
Hold σ (gate f o a b c) = σ o ≡ value_of f (literal_true σ a) (literal_true σ b) (literal_true σ c)

abbrev pub Holds : {W : Type 0} → (W → Bool) → List (Gate W) → Type 0
Holds σ [] = Unit {0}
Holds σ (g ∷ gs) = Hold σ g × Holds σ gs

module _ {W : Type 0} (σ : W → Bool) where
  pub flip_true : (l : Literal W) → literal_true σ (flip l) ≡ not (literal_true σ l)
  flip_true (pos w) = refl
  flip_true (neg w) = go (σ w)
    where
      go : (b : Bool) → b ≡ not (not b)
      go true = refl
      go false = refl

  slot_is : (o : W) (a b c : Literal W) (s : Slot) → literal_true σ (slot o a b c s) ≡ at (σ o) (literal_true σ a) (literal_true σ b) (literal_true σ c) s
  slot_is o a b c +o = refl
  slot_is o a b c -o = refl
  slot_is o a b c +a = refl
  slot_is o a b c -a = flip_true a
  slot_is o a b c +b = refl
  slot_is o a b c -b = flip_true b
  slot_is o a b c +c = refl
  slot_is o a b c -c = flip_true c

  row_is : (o : W) (a b c : Literal W) (r : List Slot) → clause_true σ (map (slot o a b c) r) ≡ row (σ o) (literal_true σ a) (literal_true σ b) (literal_true σ c) r
  row_is o a b c [] = refl
  row_is o a b c (s ∷ r) = ap₂ ◌||◌ (slot_is o a b c s) (row_is o a b c r)

  rows_is : (o : W) (a b c : Literal W) (rs : List (List Slot)) → clauses_true σ (map (map (slot o a b c)) rs) ≡ table (σ o) (literal_true σ a) (literal_true σ b) (literal_true σ c) rs
  rows_is o a b c [] = refl
  rows_is o a b c (r ∷ rs) = ap₂ ◌&&◌ (row_is o a b c r) (rows_is o a b c rs)

  pub all_append : (cs ds : List (List (Literal W))) → clauses_true σ (cs ++ ds) ≡ (clauses_true σ cs && clauses_true σ ds)
  all_append [] ds = refl
  all_append (c ∷ cs) ds = go (clause_true σ c) (clauses_true σ cs) (clauses_true σ ds) (all_append cs ds)
    where
      go : (b y z : Bool) {x : Bool} → x ≡ (y && z) → (b && x) ≡ (b && y && z)
      go true y z e = e
      go false y z e = refl

  beq_eq : (a b : Bool) → a ≡ b → beq a b ≡ true
  beq_eq true true e = refl
  beq_eq true false e = sym e
  beq_eq false true e = e
  beq_eq false false e = refl

  hold : (g : Gate W) → clauses_true σ (clauses_of g) ≡ true → Hold σ g
  hold (fix w true) e = go (σ w) e
    where
      go : (b : Bool) → ((b || false) && true) ≡ true → b ≡ true
      go true e = refl
      go false e = e
  hold (fix w false) e = go (σ w) e
    where
      go : (b : Bool) → ((not b || false) && true) ≡ true → b ≡ false
      go true e = sym e
      go false e = refl
  hold (gate f o a b c) e =
      beq_true (σ o) (value_of f (literal_true σ a) (literal_true σ b) (literal_true σ c)) (sym (rows_is o a b c (rows f) ∙ table_is f (σ o) (literal_true σ a) (literal_true σ b) (literal_true σ c)) ∙ e)

  held : (g : Gate W) → Hold σ g → clauses_true σ (clauses_of g) ≡ true
  held (fix w true) e = rw e
  held (fix w false) e = rw e
  held (gate f o a b c) e =
      rows_is o a b c (rows f) ∙ table_is f (σ o) (literal_true σ a) (literal_true σ b) (literal_true σ c) ∙ beq_eq (σ o) (value_of f (literal_true σ a) (literal_true σ b) (literal_true σ c)) e

  -- The clauses hold exactly where the equations do.
  pub sound : (gs : List (Gate W)) → clauses_true σ (clauses gs) ≡ true → Holds σ gs
  sound [] e = tt
  sound (g ∷ gs) e =
      let k = sym (all_append (clauses_of g) (clauses gs)) ∙ e in
      (hold g (and_l (clauses_true σ (clauses_of g)) (clauses_true σ (clauses gs)) k), sound gs (and_r (clauses_true σ (clauses_of g)) (clauses_true σ (clauses gs)) k))

  pub complete : (gs : List (Gate W)) → Holds σ gs → clauses_true σ (clauses gs) ≡ true
  complete [] h = refl
  complete (g ∷ gs) h = all_append (clauses_of g) (clauses gs) ∙ rw (held g h.0, complete gs h.1)

  pub holds_l : (gs hs : List (Gate W)) → Holds σ (gs ++ hs) → Holds σ gs
  holds_l [] hs h = tt
  holds_l (g ∷ gs) hs h = (h.0, holds_l gs hs h.1)

  pub holds_r : (gs hs : List (Gate W)) → Holds σ (gs ++ hs) → Holds σ hs
  holds_r [] hs h = h
  holds_r (g ∷ gs) hs h = holds_r gs hs h.1

  pub holds_join : (gs hs : List (Gate W)) → Holds σ gs → Holds σ hs → Holds σ (gs ++ hs)
  holds_join [] hs h k = k
  holds_join (g ∷ gs) hs h k = (h.0, holds_join gs hs h.1 k)

-- ---- gates moved to other wires
over_is : {V₁ W : Type 0} (f : V₁ → W) (σ : W → Bool) (l : Literal V₁) → literal_true σ (over f l) ≡ literal_true (λ v. σ (f v)) l
over_is f σ (pos w) = refl
over_is f σ (neg w) = refl

pub onto_holds : {V₁ W : Type 0} (f : V₁ → W) (σ : W → Bool) (gs : List (Gate V₁)) → Holds σ (onto f gs) → Holds (λ v. σ (f v)) gs
onto_holds f σ [] h = tt
onto_holds f σ (fix w v ∷ gs) h = (h.0, onto_holds f σ gs h.1)
onto_holds f σ (gate g w a b c ∷ gs) h = (rw (over_is f σ a, over_is f σ b, over_is f σ c) at h.0, onto_holds f σ gs h.1)

pub holds_onto : {V₁ W : Type 0} (f : V₁ → W) (σ : W → Bool) (gs : List (Gate V₁)) → Holds (λ v. σ (f v)) gs → Holds σ (onto f gs)
holds_onto f σ [] h = tt
holds_onto f σ (fix w v ∷ gs) h = (h.0, holds_onto f σ gs h.1)
holds_onto f σ (gate g w a b c ∷ gs) h = (rw (over_is f σ a, over_is f σ b, over_is f σ c) h.0, holds_onto f σ gs h.1)
