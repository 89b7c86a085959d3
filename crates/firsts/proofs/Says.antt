-- THE DEFINITION IS THE FULL SPECIFICATION: what it gives is the first reading in the box for which p holds, or there is none (`first_says`); and no
-- other answer is that (`says_one`). Assumes nothing.
use mathlib.Core.Path.{◌≡◌, refl, sym, subst, ◌∙◌}
use mathlib.Core.Bool.{Bool, true, false, false≢true}
use mathlib.Core.List.{List, [], ◌∷◌}
use Prim.Native.Nat.{ℕ, zero, suc, ◌-◌, ◌<◌, ◌≤◌}
use native.Mathlib.Omega.{arith}
use lib.Dec.{ltb}
use lib.ListN.{length}
use borrow.Author.Tests.{ltb-true, ltb-false}
use Rattle.notation.specs.Notation.{pick, when◌then◌else◌}
use Rattle.firsts.specs.Witness.{First, none, some, readings_from, first_that}
use Rattle.firsts.specs.Firsts.{InBox, end, one, Before, here, later, Found, Says}
use Rattle.firsts.proofs.Nested.{or_else, onto, first_from, first_of, first_nested}
use Rattle.firsts.proofs.Boxes.{in_length}

-- ---- what was found first, of numbers from n on
module _ (p : List ℕ → Bool) (ls hs : List ℕ) (rest : (n : ℕ) → Says (λ ns. p (n ∷ ns)) ls hs (first_of (λ ns. p (n ∷ ns)) ls hs)) where
  -- p holds of none in the box with a number from a on, and below n, before it
  abbrev NoneBelow : ℕ → ℕ → Type 0
  NoneBelow a n = (ms : List ℕ) (m : ℕ) → a ≤ m → m < n → InBox ls hs ms → p (m ∷ ms) ≡ false

  -- the numbers from a to h, k of them from n on
  from_says : (a h k n : ℕ) → a ≤ n → k ≡ suc h - n → NoneBelow a n → Says p (a ∷ ls) (h ∷ hs) (first_from (λ m. onto m (first_of (λ ns. p (m ∷ ns)) ls hs)) n k)
  unfolding first_from
  from_says a h zero n l e none_below = nowhere
    where
      nowhere : (ms : List ℕ) → InBox (a ∷ ls) (h ∷ hs) ms → p ms ≡ false
      nowhere [] i = elim i [ ]
      nowhere (m ∷ ms) (one x y z) = none_below ms m x (omega arith) z
  from_says a h (suc k) n l e none_below = go (first_of (λ ns. p (n ∷ ns)) ls hs) (rest n) (from_says a h k (suc n) (omega arith) (omega arith))
    where
      go : (f : First) → Says (λ ns. p (n ∷ ns)) ls hs f
          → (NoneBelow a (suc n) → Says p (a ∷ ls) (h ∷ hs) (first_from (λ m. onto m (first_of (λ ns. p (m ∷ ns)) ls hs)) (suc n) k))
          → Says p (a ∷ ls) (h ∷ hs) (or_else (onto n f) (first_from (λ m. onto m (first_of (λ ns. p (m ∷ ns)) ls hs)) (suc n) k))
      go none never next = next below
        where
          below : NoneBelow a (suc n)
          below ms m x y z = split (ltb m n) refl
            where
              split : (b : Bool) → ltb m n ≡ b → p (m ∷ ms) ≡ false
              split true i = none_below ms m x (ltb-true m n i) z
              split false i = let j : m ≡ n = omega (arith, ltb-false m n i) in rw j (never ms z)
      go (some ns) found next =
          record {
            inside = one {l = a} {h = h} {n = n} l (omega arith) found.inside;
            reached = found.reached;
            least = first;
          }
        where
          first : (ms : List ℕ) → InBox (a ∷ ls) (h ∷ hs) ms → Before ms (n ∷ ns) → p ms ≡ false
          first [] x7 _ = elim x7 [ ]
          first (m ∷ ms) (one x y z) (here q) = none_below ms m x q z
          first (m ∷ ms) (one x y z) (later q) = found.least ms z q

not_before : {ms ns : List ℕ} → Before ms ns → ns ≡ [] → ⊥
not_before (here q) e = let z : ◌≡◌ {A = ℕ} 0 1 = cc in omega arith
not_before (later q) e = let z : ◌≡◌ {A = ℕ} 0 1 = cc in omega arith

nested_says : (p : List ℕ → Bool) (ls hs : List ℕ) → length ls ≡ length hs → Says p ls hs (first_of p ls hs)
unfolding first_of when◌then◌else◌
nested_says p [] hs e = go (p []) refl
  where
    nowhere : p [] ≡ false → (ms : List ℕ) → InBox [] hs ms → p ms ≡ false
    nowhere q [] end = q
    nowhere q (m ∷ ms) i = elim i [ ]

    first : (ms : List ℕ) → InBox [] hs ms → Before ms [] → p ms ≡ false
    first ms i b = absurd (not_before b refl)

    go : (b : Bool) → p [] ≡ b → Says p [] hs (pick b (some []) none)
    go true q = record { inside = end; reached = q; least = first }
    go false q = nowhere q
nested_says p (l ∷ ls) [] e = absurd (omega arith)
nested_says p (l ∷ ls) (h ∷ hs) e =
    from_says p ls hs (λ n. nested_says (λ ns. p (n ∷ ns)) ls hs (omega arith)) l h (suc h - l) l (omega arith) refl (λ ms m x y z. absurd (omega arith))

-- THE DEFINITION gives the first reading in the box for which p holds, or says rightly that there is none.
pub first_says : (p : List ℕ → Bool) (ls hs : List ℕ) → length ls ≡ length hs → Says p ls hs (first_that p (readings_from ls hs))
first_says p ls hs e = subst (Says p ls hs) (sym (first_nested p ls hs)) (nested_says p ls hs e)

-- ---- and there is no other

-- one of two lists of one length comes first, or they are the same
data Ordering : List ℕ → List ℕ → Type 0 where
  before : {ns ms : List ℕ} → Before ns ms → Ordering ns ms
  same : {ns : List ℕ} → Ordering ns ns
  after : {ns ms : List ℕ} → Before ms ns → Ordering ns ms

order_later : (k : ℕ) {ns ms : List ℕ} → Ordering ns ms → Ordering (k ∷ ns) (k ∷ ms)
order_later k (before b) = before (later b)
order_later k same = same
order_later k (after b) = after (later b)

order : (ns ms : List ℕ) → length ns ≡ length ms → Ordering ns ms
order [] [] e = same
order [] (m ∷ ms) e = absurd (omega arith)
order (n ∷ ns) [] e = absurd (omega arith)
order (n ∷ ns) (m ∷ ms) e = go (ltb n m) (ltb m n) refl refl (order ns ms (omega arith))
  where
    go : (a b : Bool) → ltb n m ≡ a → ltb m n ≡ b → Ordering ns ms → Ordering (n ∷ ns) (m ∷ ms)
    go true b p q o = before (here (ltb-true n m p))
    go false true p q o = after (here (ltb-true m n q))
    go false false p q o = let i : n ≡ m = omega (arith, ltb-false n m p, ltb-false m n q) in subst (λ k. Ordering (n ∷ ns) (k ∷ ms)) i (order_later n o)

clash : {P : Type 0} {b : Bool} → b ≡ true → b ≡ false → P
clash p q = absurd (false≢true (sym q ∙ p))

-- WHAT `Says` ASKS, one answer alone meets.
pub says_one : (p : List ℕ → Bool) (ls hs : List ℕ) (x y : First) → Says p ls hs x → Says p ls hs y → x ≡ y
says_one p ls hs none none f g = refl
says_one p ls hs none (some ms) f g = clash g.reached (f ms g.inside)
says_one p ls hs (some ns) none f g = clash f.reached (g ns f.inside)
says_one p ls hs (some ns) (some ms) f g = go (order ns ms (in_length f.inside ∙ sym (in_length g.inside))) f g
  where
    go : {ns ms : List ℕ} → Ordering ns ms → Found p ls hs ns → Found p ls hs ms → some ns ≡ some ms
    go (before b) f g = clash f.reached (g.least _ f.inside b)
    go same f g = refl
    go (after b) f g = clash g.reached (f.least _ g.inside b)
