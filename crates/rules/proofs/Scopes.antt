-- The scope test: the list of the pass keeps with each record the bindings in scope there, and they are so few that no sum wraps. Assumes nothing.
use mathlib.Core.Path.{◌≡◌, refl, sym, ap, ◌∙◌}
use mathlib.Core.Bool.{Bool, true, false, ◌&&◌, false≢true}
use mathlib.Core.List.{List, [], ◌∷◌}
use Prim.Native.Nat.{ℕ, zero, suc, ◌+◌, ◌<◌, ◌≤◌}
use native.Mathlib.Numerals.{add-one}
use native.Mathlib.Omega.{arith}
use lib.ListN.{length, get_or, set, length-set, replicate, length-replicate}
use lib.Seq.{set_out, get_or-set_same, get_or-set_other}
use lib.Dec.{eqb, ltb}
use borrow.Author.Tests.{eqb-true, eqb-false, ltb-true, ltb-false}
use Rattle.notation.specs.Notation.{pick, with, when◌then◌else◌, if◌equals◌then◌else◌, up_to, every}
use Rattle.notation.proofs.Every.{and_both}
use Rattle.semantics.specs.declared.Record.{Record}
use Rattle.semantics.specs.Numbers.{procedure_record, let_record, if_record, input_count}
use Rattle.semantics.specs.Records.{record_at}
use Rattle.semantics.specs.Rules.{Part, parts_of, inside_of, times_in, times_below, once_of, linked_of, places_of, more_in, in_scope_at, scoped_of}
use Rattle.semantics.proofs.Scopes.{times_here, times_there, not_root, root_scope, child_once, one_part, child_scope}
use Rattle.scopes.specs.Scopes.{KeptInScope}
use Rattle.rules.specs.Passes.{Cleared, told_of}
use Rattle.rules.specs.Turns.{stands_of}

-- lists of zeros
zeros : (k j : ℕ) → ◌≡◌ {A = ℕ} (get_or (replicate k 0) j 0) 0
zeros zero j = refl
zeros (suc k) zero = refl
zeros (suc k) (suc j) = zeros k j

pub cleared : (n k : ℕ) → n ≤ k → Cleared n (replicate k 0)
cleared n k h = record { long = rw (length-replicate {A = ℕ} k 0) h; zero = zeros k }

-- ---- what a record tells its children
told_length : (d : ℕ) (ps : List Part) (m : List ℕ) → length (told_of d ps m) ≡ length m
unfolding told_of
told_length d [] m = refl
told_length d (p ∷ ps) m = told_length d ps (set m p.child (d + p.more)) ∙ length-set m p.child (d + p.more)

module _ (c d : ℕ) where
  told_out : (ps : List Part) (m : List ℕ) → times_in c ps ≡ 0 → get_or (told_of d ps m) c 0 ≡ get_or m c 0
  unfolding told_of
  told_out [] m h = refl
  told_out (p ∷ ps) m h =
      let t = times_there c p ps in
      told_out ps (set m p.child (d + p.more)) (omega arith)
      ∙ get_or-set_other m p.child c (d + p.more) 0 (λ e. let k = times_here c p ps e in omega arith)

  told_in : (ps : List Part) (m : List ℕ) → times_in c ps ≡ 1 → c < length m → get_or (told_of d ps m) c 0 ≡ d + more_in c ps
  unfolding told_of more_in times_in if◌equals◌then◌else◌
  told_in [] m h l = absurd (omega arith)
  told_in (p ∷ ps) m h l = go (eqb c p.child) refl h (told_in ps (set m p.child (d + p.more)))
    where
      go : (b : Bool) → eqb c p.child ≡ b → pick b 1 0 + times_in c ps ≡ 1
          → (times_in c ps ≡ 1 → c < length (set m p.child (d + p.more)) → get_or (told_of d ps (set m p.child (d + p.more))) c 0 ≡ d + more_in c ps)
          → get_or (told_of d ps (set m p.child (d + p.more))) c 0 ≡ d + pick b p.more (more_in c ps)
      go true q h r =
          let e : p.child ≡ c = sym (eqb-true c p.child q) in
          rw e (told_out ps (set m c (d + p.more)) (omega arith) ∙ get_or-set_same m c (d + p.more) 0 l)
      go false q h r = let z = length-set m p.child (d + p.more) in r (omega arith) (omega arith)

-- ---- no count is above the number of records before

-- each child has at most one binding more
Few : List Part → Type 0
Few [] = Unit {0}
Few (c ∷ cs) = (c.more ≤ 1) × Few cs

-- whichever of three lists a condition picks
few_pick : (a b c : Bool) (k l m : List Part) → Few k → Few l → Few m → Few (pick a k (pick b l (pick c m [])))
unfolding Few
few_pick true b c k l m p q r = p
few_pick false true c k l m p q r = q
few_pick false false true k l m p q r = r
few_pick false false false k l m p q r = tt

few_parts : (x : Record) → Few (parts_of x)
unfolding Few parts_of if◌equals◌then◌else◌
few_parts x =
    few_pick (eqb x.kind procedure_record) (eqb x.kind let_record) (eqb x.kind if_record) _ _ _
    (omega arith, tt) (omega arith, (omega arith, tt)) (omega arith, (omega arith, tt))

-- all numbers of a list are at most b
Low : List ℕ → ℕ → Type 0
Low m b = (j : ℕ) → get_or m j 0 ≤ b

low_set : (m : List ℕ) (c v b : ℕ) → Low m b → v ≤ b → Low (set m c v) b
unfolding Low
low_set m c v b l h j = go (eqb j c) refl
  where
    inside : (e : Bool) → ltb j (length m) ≡ e → get_or (set m j v) j 0 ≤ b
    inside true q = rw (get_or-set_same m j v 0 (ltb-true j (length m) q)) h
    inside false q = rw (set_out m j v (ltb-false j (length m) q)) (l j)

    go : (e : Bool) → eqb j c ≡ e → get_or (set m c v) j 0 ≤ b
    go true q = let e : c ≡ j = sym (eqb-true j c q) in rw e (inside (ltb j (length m)) refl)
    go false q = rw (get_or-set_other m c j v 0 (eqb-false j c q)) (l j)

low_told : (d : ℕ) (cs : List Part) (m : List ℕ) (b : ℕ) → Few cs → d + 1 ≤ b → Low m b → Low (told_of d cs m) b
unfolding told_of Few
low_told d [] m b f h l = l
low_told d (c ∷ cs) m b f h l =
    low_told d cs (set m c.child (d + c.more)) b f.1 h (low_set m c.child (d + c.more) b l (omega (arith, f.0)))

-- ---- the list of the pass, after the first i of n records
pub record Kept (s : List ℕ) (n i : ℕ) (m : List ℕ) : Type 0 where
  pub long : n ≤ length m
  pub low : (j : ℕ) → get_or m j 0 ≤ i
  -- In a tree, a record that one of these has for a child has its bindings in scope, and record 0 has its own. Whether the records are a tree is
  -- not known before the pass ends.
  pub is : up_to n (linked_of s n) ≡ true → (j : ℕ) → j < n → once_of j (times_below s i j) ≡ true → get_or m j 0 ≡ in_scope_at s j

pub kept_start : (s : List ℕ) (n : ℕ) {m : List ℕ} → Cleared n m → Kept s n 0 m
unfolding once_of times_below if◌equals◌then◌else◌
kept_start s n {m} g = record { long = g.long; low = λ j. omega (arith, g.zero j); is = λ tree j l o. go j o }
  where
    go : (j : ℕ) → once_of j (times_below s 0 j) ≡ true → get_or m j 0 ≡ in_scope_at s j
    go zero o = g.zero 0 ∙ sym (root_scope s)
    go (suc j) o = absurd (false≢true (rw (not_root j) at o))

-- a record that stands has been told
stood : (s : List ℕ) (n i : ℕ) → stands_of s n i ≡ true → once_of i (times_below s i i) ≡ true
unfolding stands_of
stood s n i w = (and_both (every (inside_of i n) (parts_of (record_at s i))) (once_of i (times_below s i i)) w).1

-- the count kept with the record that the pass comes to
pub kept_here : (s : List ℕ) (n i : ℕ) {m : List ℕ} → Kept s n i m → i < n → stands_of s n i ≡ true → up_to n (linked_of s n) ≡ true → get_or m i 0 ≡ in_scope_at s i
kept_here s n i g l w tree = g.is tree i l (stood s n i w)

pub kept_next : (s : List ℕ) (n i : ℕ) {m y : List ℕ} {x : Record} {cs : List Part}
    → Kept s n i m → i < n → stands_of s n i ≡ true → x ≡ record_at s i → cs ≡ parts_of x → y ≡ told_of (get_or m i 0) cs m → Kept s n (i + 1) y
unfolding times_below Low
kept_next s n i {m} {y} g l w ex ec ey = rw (ey, ec, ex) told
  where
    told_is : up_to n (linked_of s n) ≡ true → (j : ℕ) → j < n → once_of j (times_below s (i + 1) j) ≡ true
        → (t : ℕ) → times_in j (parts_of (record_at s i)) ≡ t → get_or (told_of (get_or m i 0) (parts_of (record_at s i)) m) j 0 ≡ in_scope_at s j
    told_is tree j k o zero e =
        let a : times_below s (i + 1) j ≡ times_below s i j = rw (add-one, times_below, e) (omega arith) in
        told_out j (get_or m i 0) (parts_of (record_at s i)) m e ∙ g.is tree j k (rw a at o)
    told_is tree j k o (suc t) e =
        let one = one_part s n tree i j l in
        let z = g.long in
        told_in j (get_or m i 0) (parts_of (record_at s i)) m (omega arith) (omega arith)
        ∙ ap (λ b. b + more_in j (parts_of (record_at s i))) (kept_here s n i g l w tree)
        ∙ sym (child_scope s n tree i j l (omega arith))

    told : Kept s n (i + 1) (told_of (get_or m i 0) (parts_of (record_at s i)) m)
    told =
        record {
          long = let e = told_length (get_or m i 0) (parts_of (record_at s i)) m in let z = g.long in omega arith;
          low = low_told (get_or m i 0) (parts_of (record_at s i)) m (i + 1) (few_parts (record_at s i)) (omega (arith, g.low i)) (λ j. omega (arith, g.low j));
          is = λ tree j k o. told_is tree j k o (times_in j (parts_of (record_at s i))) refl;
        }

-- at its end: in a tree every record but 0 is a child of one
pub kept_is_in_scope : (s : List ℕ) (n i : ℕ) {m : List ℕ} → Kept s n i m → i ≤ n → n ≤ i → KeptInScope s n m
unfolding once_of if◌equals◌then◌else◌
kept_is_in_scope s n i {m} g a b = record { is = λ tree j l. g.is tree j l (once tree j l) }
  where
    once : up_to n (linked_of s n) ≡ true → (j : ℕ) → j < n → once_of j (times_below s i j) ≡ true
    once tree zero l = refl
    once tree (suc j) l = let e : i ≡ n = omega arith in rw (e, not_root j, child_once s n tree (suc j) (omega arith) l)

-- no count is kept of what is no tree
pub no_tree : (s : List ℕ) (n : ℕ) (m : List ℕ) → false ≡ up_to n (linked_of s n) → KeptInScope s n m
no_tree s n m f = record { is = λ tree. absurd (false≢true (f ∙ tree)) }

-- ---- whether the records before i are in scope

-- b says so, in a tree
abbrev pub Sees : List ℕ → ℕ → ℕ → Bool → Type 0
Sees s n i b = up_to n (linked_of s n) ≡ true → up_to i (scoped_of s) ≡ b

pub sees_start : (s : List ℕ) (n : ℕ) → Sees s n 0 true
unfolding up_to
sees_start s n tree = refl

-- record i is tested by the count kept with it
pub sees_next : (s : List ℕ) (n i : ℕ) {m : List ℕ} {x : Record} {b c d : Bool}
    → Sees s n i b → Kept s n i m → i < n → stands_of s n i ≡ true → x ≡ record_at s i
    → c ≡ every (λ p. ltb p (get_or m i 0 + input_count)) (places_of x) → d ≡ (b && c) → Sees s n (i + 1) d
unfolding up_to when◌then◌else◌ scoped_of with
sees_next s n i {m} {x} {b} {c} h g l w ex ec e tree = rw (add-one, up_to, h tree, ← kept_here s n i g l w tree, ← ex, ← ec, e) (go b c)
  where
    go : (b c : Bool) → pick b c false ≡ (b && c)
    go true c = refl
    go false c = refl

pub sees_end : (s : List ℕ) (n i : ℕ) {b c : Bool} → Sees s n i b → i ≤ n → n ≤ i → up_to n (linked_of s n) ≡ true → b ≡ c → c ≡ up_to n (scoped_of s)
sees_end s n i h l k tree e = let q : n ≡ i = omega arith in rw q (sym (h tree ∙ e))
