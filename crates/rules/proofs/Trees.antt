-- The tree test: what the list of marks holds, and that a pass which tests each record as it comes to it finds what the definition asks.
-- Children stand after their parents, so no later record has the one that it comes to for a child. Assumes nothing.
use mathlib.Core.Path.{◌≡◌, refl, sym, ap, ◌∙◌}
use mathlib.Core.Bool.{Bool, true, false}
use mathlib.Core.List.{List, [], ◌∷◌}
use Prim.Native.Nat.{ℕ, zero, suc, ◌+◌, ◌-◌, ◌<◌, ◌≤◌, min}
use native.Mathlib.Numerals.{add-one}
use native.Mathlib.Omega.{arith}
use lib.ListN.{length, get_or, set, length-set}
use lib.Seq.{get_or-set_same, get_or-set_other}
use lib.Dec.{eqb}
use borrow.Author.Tests.{eqb-true, eqb-false, eq-eqb, ne_eqb}
use Rattle.notation.specs.Notation.{pick, if◌equals◌then◌else◌, up_to, every}
use Rattle.notation.proofs.Every.{and_both, up_make, up_all}
use Rattle.semantics.specs.declared.Record.{Record}
use Rattle.semantics.specs.Records.{record_at}
use Rattle.semantics.specs.Rules.{Part, parts_of, inside_of, times_in, times_below, once_of, linked_of}
use Rattle.semantics.proofs.Scopes.{within}
use Rattle.children.specs.Children.{bumped_of, marked_of}
use Rattle.rules.specs.Passes.{Cleared}
use Rattle.rules.specs.Turns.{stands_of}

-- ---- the list of marks

-- the marks m of the first n records are f's counts, at most two
pub record Counts (n : ℕ) (f : ℕ → ℕ) (m : List ℕ) : Type 0 where
  pub long : n ≤ length m
  pub is : (j : ℕ) → j < n → get_or m j 0 ≡ min 2 (f j)

-- one mark more is one count more
bump_counts : (n : ℕ) (f : ℕ → ℕ) (m : List ℕ) (c : ℕ) → Counts n f m → Counts n (λ j. f j + (if j equals c then 1 else 0)) (bumped_of m c)
unfolding bumped_of if◌equals◌then◌else◌
bump_counts n f m c g = record { long = simp length-set g.long; is = λ j h. go j h (eqb j c) refl }
  where
    go : (j : ℕ) → j < n → (b : Bool) → eqb j c ≡ b → get_or (set m c (min 2 (get_or m c 0 + 1))) j 0 ≡ min 2 (f j + pick b 1 0)
    go j h true q =
        let e : c ≡ j = sym (eqb-true j c q) in
        let k : j < length m = omega (arith, g.long) in
        let i = g.is j h in
        rw e (get_or-set_same m j _ 0 k ∙ omega arith)
    go j h false q = let i = g.is j h in get_or-set_other m c j _ 0 (eqb-false j c q) ∙ omega arith

-- counts of equal numbers
counts_as : {n : ℕ} {f g : ℕ → ℕ} {m : List ℕ} → ((j : ℕ) → f j ≡ g j) → Counts n f m → Counts n g m
counts_as e c = record { long = c.long; is = λ j h. c.is j h ∙ ap (min 2) (e j) }

-- the counts after all children of a record were marked
mark_counts : (n : ℕ) (f : ℕ → ℕ) (cs : List Part) (m : List ℕ) → Counts n f m → Counts n (λ j. f j + times_in j cs) (marked_of cs m)
unfolding marked_of times_in
mark_counts n f [] m g = counts_as (λ j. omega arith) g
mark_counts n f (c ∷ cs) m g = counts_as (λ j. omega arith) (mark_counts n (λ j. f j + (if j equals c.child then 1 else 0)) cs _ (bump_counts n f m c.child g))

-- before the pass, and after a record of it
pub counts_start : (s : List ℕ) (n : ℕ) {m : List ℕ} → Cleared n m → Counts n (times_below s 0) m
unfolding times_below
counts_start s n g = record { long = g.long; is = λ j h. g.zero j }

pub counts_next : (s : List ℕ) (n i : ℕ) {m y : List ℕ} {x : Record} {cs : List Part}
    → Counts n (times_below s i) m → x ≡ record_at s i → cs ≡ parts_of x → y ≡ marked_of cs m → Counts n (times_below s (i + 1)) y
unfolding times_below
counts_next s n i {m} g ex ec ey = rw (ey, ec, ex, add-one) (mark_counts n (times_below s i) (parts_of (record_at s i)) m g)

-- ---- the tree

-- the children of record i of n are in order
abbrev Ordered : List ℕ → ℕ → ℕ → Type 0
Ordered s n i = every (inside_of i n) (parts_of (record_at s i)) ≡ true

-- children that are above i are none of the records up to i
none_below : (i n k : ℕ) (cs : List Part) → k ≤ i → every (inside_of i n) cs ≡ true → times_in k cs ≡ 0
none_below i n k cs l h = go (times_in k cs) refl
  where
    go : (t : ℕ) → times_in k cs ≡ t → t ≡ 0
    go zero e = refl
    go (suc t) e = let w = (within k i n cs h (omega arith)).0 in absurd (omega arith)

-- where all are in order, counting on past record i finds it no more
module _ (s : List ℕ) (n : ℕ) (order : (k : ℕ) → k < n → Ordered s n k) where
  still : (i d : ℕ) → d + i ≤ n → times_below s (d + i) i ≡ times_below s i i
  unfolding times_below
  still i zero h = let e : zero + i ≡ i = omega arith in rw e
  still i (suc d) h =
      let e : suc d + i ≡ suc (d + i) = omega arith in
      let z = none_below (d + i) n i (parts_of (record_at s (d + i))) (omega arith) (order (d + i) (omega arith)) in
      let r = still i d (omega arith) in
      rw (e, times_below) (omega arith)

  counted : (i : ℕ) → i < n → times_below s n i ≡ times_below s i i
  counted i l = let e : n - i + i ≡ n = omega arith in rw e at (still i (n - i) (omega arith))

-- so the records stand, each by those before it, exactly if they are a tree
module _ (s : List ℕ) (n : ℕ) where
  stands_linked : up_to n (stands_of s n) ≡ true → up_to n (linked_of s n) ≡ true
  unfolding linked_of stands_of
  stands_linked h = up_make (linked_of s n) n (λ k l. rw (order k l, counted s n order k l) (stand k l).1)
    where
      stand : (k : ℕ) → k < n → (Ordered s n k) × (once_of k (times_below s k k) ≡ true)
      stand k l = and_both _ (once_of k (times_below s k k)) (up_all (stands_of s n) n h k l)

      order : (k : ℕ) → k < n → Ordered s n k
      order k l = (stand k l).0

  linked_stands : up_to n (linked_of s n) ≡ true → up_to n (stands_of s n) ≡ true
  unfolding linked_of stands_of
  linked_stands h = up_make (stands_of s n) n (λ k l. rw (order k l, ← counted s n order k l) (link k l).1)
    where
      link : (k : ℕ) → k < n → (Ordered s n k) × (once_of k (times_below s n k) ≡ true)
      link k l = and_both _ (once_of k (times_below s n k)) (up_all (linked_of s n) n h k l)

      order : (k : ℕ) → k < n → Ordered s n k
      order k l = (link k l).0

  pub tree_by_standing : up_to n (linked_of s n) ≡ up_to n (stands_of s n)
  tree_by_standing = go (up_to n (linked_of s n)) (up_to n (stands_of s n)) refl refl
    where
      go : (x y : Bool) → up_to n (linked_of s n) ≡ x → up_to n (stands_of s n) ≡ y → x ≡ y
      go true y p q = sym (linked_stands p) ∙ q
      go false true p q = sym p ∙ stands_linked q
      go false false p q = refl

-- ---- the tests of record i as the pass makes them

-- by its mark
once_by : (s : List ℕ) (i : ℕ) {n : ℕ} {m : List ℕ} {b c : Bool}
    → Counts n (times_below s i) m → i < n → b ≡ once_of i (get_or m i 0) → b ≡ c → once_of i (times_below s i i) ≡ c
unfolding once_of
once_by s i g o eb ec = rw (sym (low (times_below s i i)), ← g.is i o) (sym eb ∙ ec)
  where
    low : (x : ℕ) → eqb (min 2 x) 1 ≡ eqb x 1
    low x = go (eqb x 1) refl
      where
        go : (b : Bool) → eqb x 1 ≡ b → eqb (min 2 x) 1 ≡ b
        go true q = eq-eqb (min 2 x) 1 (omega (arith, eqb-true x 1 q))
        go false q = ne_eqb (min 2 x) 1 (λ (e : min 2 x ≡ 1). eqb-false x 1 q (omega arith))

-- by its children
ordered_by : (s : List ℕ) (n i : ℕ) {x : Record} {cs : List Part} {b d : Bool}
    → x ≡ record_at s i → cs ≡ parts_of x → b ≡ every (inside_of i n) cs → b ≡ d → every (inside_of i n) (parts_of (record_at s i)) ≡ d
ordered_by s n i ex ec eb ed = rw (← ex, ← ec) (sym eb ∙ ed)

module _ (s : List ℕ) (n i : ℕ) {x : Record} {cs : List Part} {b : Bool} (ex : x ≡ record_at s i) (ec : cs ≡ parts_of x) (eb : b ≡ every (inside_of i n) cs) where
  pub not_ordered : b ≡ false → stands_of s n i ≡ false
  unfolding stands_of
  not_ordered h = rw (ordered_by s n i ex ec eb h)

  module _ {m : List ℕ} {c : Bool} (g : Counts n (times_below s i) m) (l : i < n) (h : b ≡ true) (eo : c ≡ once_of i (get_or m i 0)) where
    pub once_so : {d : Bool} → c ≡ d → stands_of s n i ≡ d
    unfolding stands_of
    once_so k = rw (ordered_by s n i ex ec eb h) (once_by s i g l eo k)
