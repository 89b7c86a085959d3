-- The bindings in scope where a rule's records are a tree: a child has its parent's, and what it has more. Assumes nothing.
use mathlib.Core.Path.{◌≡◌, refl, sym, ap}
use mathlib.Core.Bool.{Bool, true, false}
use mathlib.Core.List.{List, [], ◌∷◌}
use Prim.Native.Nat.{ℕ, zero, suc, ◌+◌, ◌<◌, ◌≤◌}
use native.Mathlib.Omega.{arith}
use lib.Dec.{eqb, ltb}
use borrow.Author.Tests.{eqb-true, eqb-false, eq-eqb, ne_eqb, ltb-true}
use Rattle.notation.specs.Notation.{pick, with, when◌then◌else◌, if◌equals◌then◌else◌, up_to, every, In, here, there}
use Rattle.notation.proofs.Every.{pick_both, and_both, up_all}
use Rattle.semantics.specs.Records.{record_at}
use Rattle.semantics.specs.Rules.{Part, part, parts_of, inside_of, times_in, times_below, once_of, linked_of, more_in, parent_below, entered_of, in_scope_at}

-- ---- a record among parts
module _ (c : ℕ) where
  pub times_here : (p : Part) (ps : List Part) → c ≡ p.child → times_in c (p ∷ ps) ≡ 1 + times_in c ps
  unfolding times_in if◌equals◌then◌else◌
  times_here p ps e = rw (eq-eqb c p.child e)

  pub times_there : (p : Part) (ps : List Part) → times_in c ps ≤ times_in c (p ∷ ps)
  unfolding times_in
  times_there p ps = omega arith

  pub in_times : {m : ℕ} (ps : List Part) → In (part c m) ps → 1 ≤ times_in c ps
  in_times {m} (p ∷ ps) here = let e = times_here (part c m) ps refl in omega arith
  in_times (p ∷ ps) (there i) = let r = in_times ps i in let t = times_there p ps in omega arith
  in_times {m = m} [] x' = elim x' [ ]

  -- the one part that it is says what it has more
  pub more_in_lem : {m : ℕ} (ps : List Part) → In (part c m) ps → times_in c ps ≤ 1 → more_in c ps ≡ m
  unfolding more_in if◌equals◌then◌else◌
  more_in_lem (p ∷ ps) here h = rw (eq-eqb c c refl)
  more_in_lem (p ∷ ps) (there i) h =
      let j = in_times ps i in
      let t = times_there p ps in
      rw (ne_eqb c p.child (λ e. let k = times_here p ps e in omega arith)) (more_in_lem ps i (omega arith))
  more_in_lem {m = m} [] x'' h = elim x'' [ ]

  -- "Each child's number is greater than its parent's", and below the count
  pub within : (i n : ℕ) (ps : List Part) → every (inside_of i n) ps ≡ true → 1 ≤ times_in c ps → (i < c) × (c < n)
  unfolding every when◌then◌else◌ if◌equals◌then◌else◌ times_in inside_of
  within i n [] h t = absurd (omega arith)
  within i n (p ∷ ps) h t =
      let b = pick_both (inside_of i n p) (every (inside_of i n) ps) h in
      go (eqb c p.child) refl t b.0 (within i n ps b.1)
    where
      go : (e : Bool) → eqb c p.child ≡ e → 1 ≤ pick e 1 0 + times_in c ps → inside_of i n p ≡ true
          → (1 ≤ times_in c ps → (i < c) × (c < n)) → (i < c) × (c < n)
      go true q u b r =
          let a = and_both (ltb i p.child) (ltb p.child n) b in
          let e = eqb-true c p.child q in
          (omega (arith, ltb-true i p.child a.0), omega (arith, ltb-true p.child n a.1))
      go false q u b r = r (omega arith)

-- ---- the parent
module _ (s : List ℕ) (c : ℕ) where
  -- a record's parts are counted among those of all records
  pub times_at : (n i : ℕ) → i < n → times_in c (parts_of (record_at s i)) ≤ times_below s n c
  unfolding times_below
  times_at zero i l = absurd (omega arith)
  times_at (suc n) i l = go (eqb i n) refl (times_at n i)
    where
      go : (b : Bool) → eqb i n ≡ b → (i < n → times_in c (parts_of (record_at s i)) ≤ times_below s n c)
          → times_in c (parts_of (record_at s i)) ≤ times_below s n c + times_in c (parts_of (record_at s n))
      go true e r = rw (eqb-true i n e) (omega arith)
      go false e r = let k = r (omega (arith, eqb-false i n e)) in omega arith

  pub times_mono : (k n : ℕ) → k ≤ n → times_below s k c ≤ times_below s n c
  unfolding times_below
  times_mono k zero l = let z : k ≡ 0 = omega arith in rw z (omega arith)
  times_mono k (suc n) l = go (eqb k (suc n)) refl (times_mono k n)
    where
      go : (b : Bool) → eqb k (suc n) ≡ b → (k ≤ n → times_below s k c ≤ times_below s n c) → times_below s k c ≤ times_below s (suc n) c
      go true e r = rw (eqb-true k (suc n) e) (omega arith)
      go false e r = let j = r (omega (arith, eqb-false k (suc n) e)) in omega arith

  -- the one record that has it for a child
  parent_is : (n i : ℕ) → i < n → 1 ≤ times_in c (parts_of (record_at s i)) → times_below s n c ≤ 1 → parent_below s n c ≡ i
  unfolding times_below parent_below if◌equals◌then◌else◌
  parent_is zero i l t h = absurd (omega arith)
  parent_is (suc n) i l t h = go (eqb i n) refl (λ k. parent_is n i k t)
    where
      go : (b : Bool) → eqb i n ≡ b → (i < n → times_below s n c ≤ 1 → parent_below s n c ≡ i)
          → pick (eqb (times_in c (parts_of (record_at s n))) 0) (parent_below s n c) n ≡ i
      go true e r =
          let q = eqb-true i n e in
          let u : 1 ≤ times_in c (parts_of (record_at s n)) = rw q at t in
          rw (ne_eqb (times_in c (parts_of (record_at s n))) 0 (λ z. omega arith)) (sym q)
      go false e r =
          let k : i < n = omega (arith, eqb-false i n e) in
          let a = times_at n i k in
          rw (eq-eqb (times_in c (parts_of (record_at s n))) 0 (omega arith)) (r k (omega arith))

  parent_low : (n : ℕ) → parent_below s (suc n) c ≤ n
  unfolding parent_below if◌equals◌then◌else◌
  parent_low zero = go (eqb (times_in c (parts_of (record_at s 0))) 0)
    where
      go : (b : Bool) → pick b 0 0 ≤ 0
      go true = omega arith
      go false = omega arith
  parent_low (suc n) = go (eqb (times_in c (parts_of (record_at s (suc n)))) 0) (parent_low n)
    where
      go : (b : Bool) → parent_below s (suc n) c ≤ n → pick b (parent_below s (suc n) c) (suc n) ≤ suc n
      go true r = omega arith
      go false r = omega arith

-- ---- the way from record 0
pub not_root : (c : ℕ) → eqb (suc c) 0 ≡ false
not_root c = ne_eqb (suc c) 0 (λ e. omega arith)

module _ (s : List ℕ) where
  -- no way has more parts than its last record's number
  enough : (h k c : ℕ) → c ≤ h → c ≤ k → entered_of s h c ≡ entered_of s k c
  unfolding entered_of if◌equals◌then◌else◌ with
  enough zero zero c p q = refl
  enough zero (suc k) c p q = let z : c ≡ 0 = omega arith in rw z
  enough (suc h) zero c p q = let z : c ≡ 0 = omega arith in rw z
  enough (suc h) (suc k) zero p q = refl
  enough (suc h) (suc k) (suc c) p q =
      let l = parent_low s (suc c) c in
      let u = parent_below s (suc c) (suc c) in
      rw (not_root c) (ap (λ d. d + more_in (suc c) (parts_of (record_at s u))) (enough h k u (omega arith) (omega arith)))

  pub root_scope : in_scope_at s 0 ≡ 0
  unfolding in_scope_at entered_of
  root_scope = refl

  below_parent : (c p : ℕ) → 0 < c → parent_below s c c ≡ p → in_scope_at s c ≡ in_scope_at s p + more_in c (parts_of (record_at s p))
  unfolding in_scope_at entered_of if◌equals◌then◌else◌ with
  below_parent zero p l e = absurd (omega arith)
  below_parent (suc c) p l e =
      let k = parent_low s (suc c) c in
      rw (not_root c, e) (ap (λ d. d + more_in (suc c) (parts_of (record_at s p))) (enough c p p (omega arith) (omega arith)))

-- ---- n records that are a tree
module _ (s : List ℕ) (n : ℕ) (all : up_to n (linked_of s n) ≡ true) where
  linked_both : (i : ℕ) → i < n → (every (inside_of i n) (parts_of (record_at s i)) ≡ true) × (once_of i (times_below s n i) ≡ true)
  unfolding linked_of
  linked_both i l = and_both (every (inside_of i n) (parts_of (record_at s i))) (once_of i (times_below s n i)) (up_all (linked_of s n) n all i l)

  -- "each record but 0 is a child once"
  pub child_once : (c : ℕ) → 0 < c → c < n → times_below s n c ≡ 1
  unfolding once_of if◌equals◌then◌else◌
  child_once c z l = eqb-true _ _ (rw (ne_eqb c 0 (λ e. omega arith)) at (linked_both c l).1)

  pub child_within : (i c : ℕ) → i < n → 1 ≤ times_in c (parts_of (record_at s i)) → (i < c) × (c < n)
  child_within i c l t = within c i n (parts_of (record_at s i)) (linked_both i l).0 t

  -- a child is one part of its parent
  pub one_part : (i c : ℕ) → i < n → times_in c (parts_of (record_at s i)) ≤ 1
  one_part i c l = go (times_in c (parts_of (record_at s i))) refl
    where
      go : (k : ℕ) → times_in c (parts_of (record_at s i)) ≡ k → times_in c (parts_of (record_at s i)) ≤ 1
      go zero e = omega arith
      go (suc k) e =
          let j = child_within i c l (omega arith) in
          let a = j.0 in
          let o = child_once c (omega arith) j.1 in
          let t = times_at s c n i l in
          omega arith

  pub child_scope : (i c : ℕ) → i < n → 1 ≤ times_in c (parts_of (record_at s i)) → in_scope_at s c ≡ in_scope_at s i + more_in c (parts_of (record_at s i))
  child_scope i c l t =
      let j = child_within i c l t in
      let a = j.0 in
      let b = j.1 in
      let o = child_once c (omega arith) b in
      let m = times_mono s c c n (omega arith) in
      below_parent s c i (omega arith) (parent_is s c c i a t (omega arith))

  pub part_scope : {c m : ℕ} (i : ℕ) → i < n → In (part c m) (parts_of (record_at s i)) → in_scope_at s c ≡ in_scope_at s i + m
  part_scope {c} i l p =
      rw (← more_in_lem c (parts_of (record_at s i)) p (one_part i c l)) (child_scope i c l (in_times c (parts_of (record_at s i)) p))
