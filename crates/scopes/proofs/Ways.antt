-- The bindings in scope in a rule that 4 to 6 take: they are those of the one way down from record 0, and 7 goes by them. Assumes nothing.
use mathlib.Core.Path.{◌≡◌, refl, sym, ◌∙◌}
use mathlib.Core.Bool.{Bool, true, false, not, ◌||◌, true≢false}
use mathlib.Core.List.{List, [], ◌∷◌}
use Prim.Native.Nat.{ℕ, zero, suc, ◌+◌, ◌%◌, ◌<◌, ◌≤◌}
use native.Mathlib.Omega.{arith}
use lib.Dec.{eqb, ltb}
use lib.ListN.{length}
use borrow.Author.Tests.{eqb-true, eqb-false, ltb-false, le-ltb}
use Rattle.notation.specs.Notation.{pick, with, when◌then◌else◌, if◌equals◌then◌else◌, unless◌then◌else◌, up_to, every, In, here, there}
use Rattle.notation.proofs.Every.{up_all, every_in}
use Rattle.semantics.specs.Numbers.{input_count, rule_bytes, bad_place}
use Rattle.semantics.specs.Records.{record_at, records_in}
use Rattle.semantics.specs.Rules.{bad_rule_size, Part, part, parts_of, times_in, times_below, linked_of, places_of, in_scope_at, scoped_of, tests_of, rule_refusal_of}
use Rattle.semantics.proofs.Scopes.{in_times, root_scope, child_within, child_once, part_scope}
use Rattle.scopes.specs.Scopes.{Way, start, enter, OutOfScope, ATree, ScopesHold}

-- ---- from a count to what is counted

-- a part that is record c
pub record PartIn (c : ℕ) (ps : List Part) : Type 0 where
  pub more : ℕ
  pub found : In (part c more) ps

part_in : (c : ℕ) (ps : List Part) → 1 ≤ times_in c ps → PartIn c ps
unfolding times_in if◌equals◌then◌else◌
part_in c [] t = absurd (omega arith)
part_in c (p ∷ ps) t = go (eqb c p.child) refl t (part_in c ps)
  where
    go : (b : Bool) → eqb c p.child ≡ b → 1 ≤ pick b 1 0 + times_in c ps → (1 ≤ times_in c ps → PartIn c ps) → PartIn c (p ∷ ps)
    go true q u r = let e = eqb-true c p.child q in record { more = p.more; found = rw e here }
    go false q u r = let f = r (omega arith) in record { more = f.more; found = there f.found }

-- a record that has record c for a child
pub record Parent (s : List ℕ) (n c : ℕ) : Type 0 where
  pub at : ℕ
  pub low : at < n
  pub child : PartIn c (parts_of (record_at s at))

parent : (s : List ℕ) (n c : ℕ) → 1 ≤ times_below s n c → Parent s n c
unfolding times_below
parent s zero c t = absurd (omega arith)
parent s (suc n) c t = go (times_in c (parts_of (record_at s n))) refl (parent s n c)
  where
    go : (k : ℕ) → times_in c (parts_of (record_at s n)) ≡ k → (1 ≤ times_below s n c → Parent s n c) → Parent s (suc n) c
    go zero e r = let p = r (omega arith) in record { at = p.at; low = omega (arith, p.low); child = p.child }
    go (suc k) e r = record { at = n; low = omega arith; child = part_in c (parts_of (record_at s n)) (omega arith) }

-- ---- the ways down
module _ (s : List ℕ) (n : ℕ) (tree : up_to n (linked_of s n) ≡ true) (some : 0 < n) where
  way_low : (a b : ℕ) → Way s a b → a < n
  way_low a b start = some
  way_low a b (enter {i} {d} {c} {m} w p) = (child_within s n tree i c (way_low i d w) (in_times c (parts_of (record_at s i)) p)).1

  way_scope : (a b : ℕ) → Way s a b → b ≡ in_scope_at s a
  way_scope a b start = sym (root_scope s)
  way_scope a b (enter {i} {d} {c} {m} w p) = rw (way_scope i d w) (sym (part_scope s n tree i (way_low i d w) p))

  -- k bounds the number of the last record on the way
  way_by : (k c : ℕ) → c ≤ k → c < n → Way s c (in_scope_at s c)
  way_by zero c h l = let z : c ≡ 0 = omega arith in rw (z, root_scope s) start
  way_by (suc k) c h l = go c h l (way_by k)
    where
      go : (c : ℕ) → c ≤ suc k → c < n → ((i : ℕ) → i ≤ k → i < n → Way s i (in_scope_at s i)) → Way s c (in_scope_at s c)
      go zero h l r = rw (root_scope s) start
      go (suc c) h l r =
          let o = child_once s n tree (suc c) (omega arith) l in
          let u = parent s n (suc c) (omega arith) in
          let f = u.child.found in
          let a = (child_within s n tree u.at (suc c) u.low (in_times (suc c) (parts_of (record_at s u.at)) f)).0 in
          rw (part_scope s n tree u.at u.low f) (enter (r u.at (omega arith) u.low) f)

-- ---- from a failed test to what fails

-- a place at or past a limit
pub record PlacePast (limit : ℕ) (ps : List ℕ) : Type 0 where
  pub place : ℕ
  pub used : In place ps
  pub past : limit ≤ place

place_past : (limit : ℕ) (ps : List ℕ) → every (λ p. ltb p limit) ps ≡ false → PlacePast limit ps
unfolding every when◌then◌else◌
place_past limit [] h = absurd (true≢false h)
place_past limit (p ∷ ps) h = go (ltb p limit) refl h (place_past limit ps)
  where
    go : (b : Bool) → ltb p limit ≡ b → pick b (every (λ q. ltb q limit) ps) false ≡ false
        → (every (λ q. ltb q limit) ps ≡ false → PlacePast limit ps) → PlacePast limit (p ∷ ps)
    go true q e r = let f = r e in record { place = f.place; used = there f.used; past = f.past }
    go false q e r = record { place = p; used = here; past = omega (arith, ltb-false p limit q) }

-- a number below n at which a test fails
pub record FailsAt (f : ℕ → Bool) (n : ℕ) : Type 0 where
  pub at : ℕ
  pub low : at < n
  pub fails : f at ≡ false

fails_at : (f : ℕ → Bool) (n : ℕ) → up_to n f ≡ false → FailsAt f n
unfolding up_to when◌then◌else◌
fails_at f zero h = absurd (true≢false h)
fails_at f (suc n) h = go (up_to n f) refl h (fails_at f n)
  where
    go : (b : Bool) → up_to n f ≡ b → pick b (f n) false ≡ false → (up_to n f ≡ false → FailsAt f n) → FailsAt f (suc n)
    go true q e r = record { at = n; low = omega arith; fails = e }
    go false q e r = let a = r q in record { at = a.at; low = omega (arith, a.low); fails = a.fails }

-- ---- 7

-- test 4 takes no rule without a record
some_record : (s : List ℕ) → bad_rule_size (length s) ≡ false → 0 < records_in s
unfolding bad_rule_size
some_record s h = go (eqb (length s) 0) (ltb rule_bytes (length s)) (eqb (length s % 8) 0) refl refl h
  where
    go : (x y z : Bool) → eqb (length s) 0 ≡ x → eqb (length s % 8) 0 ≡ z → (x || (y || not z)) ≡ false → 0 < records_in s
    go true y z p q e = absurd (true≢false e)
    go false true z p q e = absurd (true≢false e)
    go false false false p q e = absurd (true≢false e)
    go false false true p q e = let m = eqb-true (length s % 8) 0 q in omega (arith, eqb-false (length s) 0 p)

module _ (s : List ℕ) (t : ATree s) where
  by_places : rule_refusal_of s ≡ pick (up_to (records_in s) (scoped_of s)) 0 bad_place
  unfolding rule_refusal_of tests_of when◌then◌else◌ unless◌then◌else◌
  by_places = rw (t.sized, t.shaped, t.linked)

  out : up_to (records_in s) (scoped_of s) ≡ false → OutOfScope s
  unfolding scoped_of with
  out h =
      let f = fails_at (scoped_of s) (records_in s) h in
      let p = place_past (in_scope_at s f.at + input_count) (places_of (record_at s f.at)) f.fails in
      record { at = f.at; low = f.low; place = p.place; used = p.used; past = p.past }

  not_in : OutOfScope s → up_to (records_in s) (scoped_of s) ≡ true → ⊥
  unfolding scoped_of with
  not_in o h =
      let limit = in_scope_at s o.at + input_count in
      let e = every_in (λ p. ltb p limit) (places_of (record_at s o.at)) (up_all (scoped_of s) (records_in s) h o.at o.low) o.used in
      true≢false (sym e ∙ le-ltb o.place limit o.past)

  seven : rule_refusal_of s ≡ bad_place → OutOfScope s
  seven h = go (up_to (records_in s) (scoped_of s)) refl (sym by_places ∙ h)
    where
      go : (b : Bool) → up_to (records_in s) (scoped_of s) ≡ b → pick b 0 bad_place ≡ bad_place → OutOfScope s
      go true q e = absurd (omega arith)
      go false q e = out q

  refused : OutOfScope s → rule_refusal_of s ≡ bad_place
  refused o = by_places ∙ go (up_to (records_in s) (scoped_of s)) refl
    where
      go : (b : Bool) → up_to (records_in s) (scoped_of s) ≡ b → pick b 0 bad_place ≡ bad_place
      go true q = absurd (not_in o q)
      go false q = refl

  taken : (OutOfScope s → ⊥) → rule_refusal_of s ≡ 0
  taken n = by_places ∙ go (up_to (records_in s) (scoped_of s)) refl
    where
      go : (b : Bool) → up_to (records_in s) (scoped_of s) ≡ b → pick b 0 bad_place ≡ 0
      go true q = refl
      go false q = absurd (n (out q))

pub scopes_hold : (s : List ℕ) → ATree s → ScopesHold s
scopes_hold s t =
    let some = some_record s t.sized in
    record {
      way = λ i l. way_by s (records_in s) t.linked some i i (omega arith) l;
      only = way_scope s (records_in s) t.linked some;
      seven = seven s t;
      refused = refused s t;
      taken = taken s t;
    }
