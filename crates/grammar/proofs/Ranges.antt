-- Every variable of the clauses is one of those that the problem line counts, and none is 0. Assumes nothing.
use mathlib.Core.Path.{◌≡◌, refl}
use mathlib.Core.Bool.{Bool, true, false}
use mathlib.Core.List.{List, [], ◌∷◌, ◌++◌, map}
use Prim.Native.Nat.{ℕ, suc, ◌+◌, ◌*◌, ◌<◌, ◌≤◌}
use native.Mathlib.Omega.{arith}
use lib.ListN.{length}
use borrow.Author.Tests.{ltb-true, le-leb}
use Rattle.notation.specs.Notation.{pick, when◌then◌else◌, if◌equals◌then◌else◌}
use Rattle.circuits.specs.Gates.{Literal, pos, neg, flip, wire, Slot, +o, -o, +a, -a, +b, -b, +c, -c, rows, Gate, fix, gate, slot, fixed, clauses_of, clauses, over, onto}
use Rattle.circuits.specs.Templates.{Wire, wire_a, wire_b, wire_c, wire_true, helper, own}
use Rattle.circuits.proofs.Order.{ordered, valid, Valid, ordered_valid}
use Rattle.semantics.specs.declared.Term.{Term}
use Rattle.semantics.specs.declared.Result.{Result}
use Rattle.semantics.specs.declared.Goal.{Goal}
use Rattle.semantics.specs.declared.Goal.TheVariants.{Errs, Aborts, Gives}
use Rattle.semantics.specs.Terms.{blank, word_term_of, laid_out, well_formed}
use Rattle.typing.proofs.Formed.{never, formed_newest}
use Rattle.clauses.specs.Clauses.{owned, digits, term_gates, named_by_b, helpers, helpers_in, variable, first_helper, term_clauses, table_clauses, truth_variable, goal_clauses, clauses_for}
use Rattle.clauses.proofs.Laws.{helpers_are, helpers_more}
use Rattle.models.proofs.Exist.{names, Named, low_case, variable_low, plain_ordered, Sorted}
use Rattle.grammar.specs.Dimacs.{up_to, all_up_to}
use Rattle.grammar.proofs.Words.{Proper, AllProper}

-- ---- from 1 to m
abbrev Within : ℕ → ℕ → Type 0
Within m v = (1 ≤ v) × (v ≤ m)

abbrev Literals : ℕ → List (Literal ℕ) → Type 0
Literals m [] = Unit {0}
Literals m (l ∷ ls) = Within m (wire l) × Literals m ls

abbrev pub Clauses : ℕ → List (List (Literal ℕ)) → Type 0
Clauses m [] = Unit {0}
Clauses m (c ∷ cs) = Literals m c × Clauses m cs

module _ (m : ℕ) where
  pub clauses_append : (cs ds : List (List (Literal ℕ))) → Clauses m cs → Clauses m ds → Clauses m (cs ++ ds)
  clauses_append [] ds h k = k
  clauses_append (c ∷ cs) ds h k = (h.0, clauses_append cs ds h.1 k)

  -- what the grammar tests
  literals_proper : (c : List (Literal ℕ)) → Literals m c → Proper c
  literals_proper [] h = tt
  literals_proper (l ∷ ls) h = ((λ e. let k = h.0.0 in omega arith), literals_proper ls h.1)

  pub clauses_proper : (cs : List (List (Literal ℕ))) → Clauses m cs → AllProper cs
  clauses_proper [] h = tt
  clauses_proper (c ∷ cs) h = (literals_proper c h.0, clauses_proper cs h.1)

  literals_up_to : (c : List (Literal ℕ)) → Literals m c → up_to m c ≡ true
  unfolding up_to
  literals_up_to [] h = refl
  literals_up_to (l ∷ ls) h = rw (le-leb (wire l) m h.0.1, literals_up_to ls h.1)

  pub clauses_up_to : (cs : List (List (Literal ℕ))) → Clauses m cs → all_up_to m cs ≡ true
  unfolding all_up_to
  clauses_up_to [] h = refl
  clauses_up_to (c ∷ cs) h = rw (literals_up_to c h.0, clauses_up_to cs h.1)

  -- ---- a gate's clauses
  within_flip : (l : Literal ℕ) → Within m (wire l) → Within m (wire (flip l))
  within_flip (pos v) h = h
  within_flip (neg v) h = h

  module _ (o : ℕ) (a b c : Literal ℕ) (ho : Within m o) (ha : Within m (wire a)) (hb : Within m (wire b)) (hc : Within m (wire c)) where
    slot_within : (s : Slot) → Within m (wire (slot o a b c s))
    slot_within +o = ho
    slot_within -o = ho
    slot_within +a = ha
    slot_within -a = within_flip a ha
    slot_within +b = hb
    slot_within -b = within_flip b hb
    slot_within +c = hc
    slot_within -c = within_flip c hc

    row_within : (r : List Slot) → Literals m (map (slot o a b c) r)
    row_within [] = tt
    row_within (s ∷ r) = (slot_within s, row_within r)

    rows_within : (rs : List (List Slot)) → Clauses m (map (map (slot o a b c)) rs)
    rows_within [] = tt
    rows_within (r ∷ rs) = (row_within r, rows_within rs)

  fixed_within : (v : ℕ) (b : Bool) → Within m v → Within m (wire (fixed v b))
  fixed_within v true h = h
  fixed_within v false h = h

  -- gates over wires that are valid, at variables that are within for those
  module _ (u : Bool) (w h : ℕ) (f : Wire → ℕ) (good : (l : Wire) → valid u w h l ≡ true → Within m (f l)) where
    over_within : (l : Literal Wire) → valid u w h (wire l) ≡ true → Within m (wire (over f l))
    over_within (pos x) e = good x e
    over_within (neg x) e = good x e

    gates_within : (gs : List (Gate Wire)) → Valid u w h gs → Clauses m (clauses (onto f gs))
    gates_within [] k = tt
    gates_within (fix t v ∷ gs) k = ((fixed_within (f t) v (good t k.0), tt), gates_within gs k.1)
    gates_within (gate g t a b c ∷ gs) k =
        clauses_append (clauses_of (gate g (f t) (over f a) (over f b) (over f c))) (clauses (onto f gs))
        (rows_within (f t) (over f a) (over f b) (over f c) (good t k.0) (over_within a k.1) (over_within b k.2) (over_within c k.3) (rows g)) (gates_within gs k.4)

-- a variable is never 0
variable_some : (h n : ℕ) (t : Term) → 1 ≤ h → (l : Wire) → 1 ≤ variable h n t l
variable_some h n t k (wire_a i) = omega arith
variable_some h n t k (wire_b i) = omega arith
variable_some h n t k (wire_c i) = omega arith
variable_some h n t k wire_true = omega arith
variable_some h n t k (helper i) = omega arith
variable_some h n t k (own i) = omega arith

-- ---- the terms of a table of c
clauses_more : (m k : ℕ) → m ≤ k → (cs : List (List (Literal ℕ))) → Clauses m cs → Clauses k cs
clauses_more m k l [] h = tt
clauses_more m k l (c ∷ cs) h = (literals_more c h.0, clauses_more m k l cs h.1)
  where
    literals_more : (c : List (Literal ℕ)) → Literals m c → Literals k c
    literals_more [] h = tt
    literals_more (x ∷ c) h = ((h.0.0, (let y = h.0.1 in omega arith)), literals_more c h.1)

module _ (n c : ℕ) where
  term_within : (t : Term) (us : List Term) → length us < c → laid_out n us t ≡ true → Named (length us) t
      → Clauses (owned * c + helpers_in (t ∷ us)) (term_clauses (first_helper c us) (length us) t (named_by_b us t))
  unfolding term_clauses
  term_within t us l laid nm =
      gates_within (owned * c + helpers_in (t ∷ us)) (names t) owned (helpers (term_gates t (named_by_b us t))) (variable (first_helper c us) (length us) t) good (term_gates t (named_by_b us t))
      (ordered_valid (names t) owned (helpers (term_gates t (named_by_b us t))) 0 0 (term_gates t (named_by_b us t)) (plain_ordered [] n us t (named_by_b us t) laid))
    where
      good : (x : Wire) → valid (names t) owned (helpers (term_gates t (named_by_b us t))) x ≡ true → Within (owned * c + helpers_in (t ∷ us)) (variable (first_helper c us) (length us) t x)
      good x e = (
        variable_some (first_helper c us) (length us) t (omega arith) x,
        low_case c (suc (length us)) (first_helper c us + helpers (term_gates t (named_by_b us t))) (variable (first_helper c us) (length us) t x)
            (variable_low c (length us) (first_helper c us) t nm (omega arith) (helpers (term_gates t (named_by_b us t))) x e)
            (λ y. omega arith) (λ y z. omega (arith, helpers_more t us, helpers_are t (named_by_b us t))),
      )

  table_within : (ns : List ℕ) (ts : List Term) → length ts ≤ c → well_formed n ts ≡ true → Sorted ns ts → Clauses (owned * c + helpers_in ts) (table_clauses c ts)
  unfolding table_clauses
  table_within ns [] l h s = tt
  table_within ns (t ∷ us) l h s =
      formed_newest n t us h λ laid fresh formed.
      clauses_append (owned * c + helpers_in (t ∷ us)) (table_clauses c us) (term_clauses (first_helper c us) (length us) t (named_by_b us t))
      (clauses_more (owned * c + helpers_in us) (owned * c + helpers_in (t ∷ us)) (omega (arith, helpers_more t us)) (table_clauses c us) (table_within ns us (omega arith) formed s.2))
      (term_within t us (omega arith) laid s.1)

-- ---- the goal
module _ (m c : ℕ) (enough : owned * c ≤ m) where
  truth_within : (k : ℕ) → k < c → Within m (truth_variable k)
  truth_within k l = (omega arith, omega arith)

  own_within : (k : ℕ) → k < c → (t : Term) (l : Wire) → valid false owned 0 l ≡ true → Within m (variable 0 k t l)
  own_within k l t (wire_a i) e = never e
  own_within k l t (wire_b i) e = never e
  own_within k l t (wire_c i) e = never e
  own_within k l t wire_true e = never e
  own_within k l t (helper i) e = let y = ltb-true i 0 e in absurd (omega arith)
  own_within k l t (own i) e = let y = ltb-true i owned e in (omega arith, omega arith)

  word_ordered : (w : ℕ) → ordered false owned 0 0 0 (term_gates (word_term_of w) blank) ≡ true
  unfolding ordered term_gates digits if◌equals◌then◌else◌
  word_ordered w = refl

  word_within : (k : ℕ) → k < c → (w : ℕ) → Clauses m (term_clauses 0 k (word_term_of w) blank)
  unfolding term_clauses
  word_within k l w =
      gates_within m false owned 0 (variable 0 k (word_term_of w)) (own_within k l (word_term_of w)) (term_gates (word_term_of w) blank)
      (ordered_valid false owned 0 0 0 (term_gates (word_term_of w) blank) (word_ordered w))

  goal_within : (r : Result) (g : Goal) → r.state.assumed < c → r.state.asserted < c → (r.halted ≡ false → r.value < c) → Clauses m (goal_clauses r g)
  unfolding goal_clauses when◌then◌else◌
  goal_within r Errs ls lt lv = go r.halted
    where
      go : (b : Bool) → Clauses m (pick b ((pos (truth_variable r.state.assumed) ∷ neg (truth_variable r.state.asserted) ∷ []) ∷ []) ((neg (truth_variable r.state.asserted) ∷ []) ∷ []))
      go true = ((truth_within r.state.assumed ls, (truth_within r.state.asserted lt, tt)), tt)
      go false = ((truth_within r.state.asserted lt, tt), tt)
  goal_within r Aborts ls lt lv = ((truth_within r.state.assumed ls, tt), ((truth_within r.state.asserted lt, tt), tt))
  goal_within r (Gives w) ls lt lv = go r.halted refl
    where
      go : (b : Bool) → r.halted ≡ b
          → Clauses m (pick b ([] ∷ []) ((pos (truth_variable r.state.assumed) ∷ []) ∷ (pos (truth_variable r.state.asserted) ∷ []) ∷ term_clauses 0 r.value (word_term_of w) blank))
      go true e = (tt, tt)
      go false e = ((truth_within r.state.assumed ls, tt), ((truth_within r.state.asserted lt, tt), word_within r.value (lv e) w))

-- Of a well-formed table over the two constants, and a result of its terms.
pub all_within : (ns : List ℕ) (n c : ℕ) (ts : List Term) → length ts ≡ c → well_formed n ts ≡ true → Sorted ns ts → (r : Result) (g : Goal)
    → r.state.assumed < c → r.state.asserted < c → (r.halted ≡ false → r.value < c) → Clauses (owned * c + helpers_in ts) (clauses_for c ts r g)
unfolding clauses_for
all_within ns n c ts e h s r g ls lt lv =
    clauses_append (owned * c + helpers_in ts) (table_clauses c ts) (goal_clauses r g) (table_within n c ns ts (omega arith) h s) (goal_within (owned * c + helpers_in ts) c (omega arith) r g ls lt lv)
