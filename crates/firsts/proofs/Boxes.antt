-- The first reading of a box cut in two, of a box of one reading, of one in which none will do, and of one that is narrowed where an input does not
-- matter. Assumes nothing.
use mathlib.Core.Path.{◌≡◌, refl, sym, ap, ◌∙◌}
use mathlib.Core.Logic.{◌⊎◌, inl, inr}
use mathlib.Core.Bool.{Bool, true, false}
use mathlib.Core.List.{List, [], ◌∷◌}
use Prim.Native.Nat.{ℕ, zero, suc, ◌+◌, ◌-◌, ◌<◌, ◌≤◌}
use native.Mathlib.Omega.{arith}
use lib.ListN.{length, get_or, set}
use Rattle.notation.specs.Notation.{pick, when◌then◌else◌}
use Rattle.firsts.specs.Witness.{First, none, some}
use Rattle.firsts.specs.Firsts.{InBox, end, one}
use Rattle.firsts.proofs.Nested.{or_else, onto, or_none, or_or, onto_or, first_from, first_of, from_same, first_same}

-- ---- the numbers from one on
from_split : (f : ℕ → First) (n a b k : ℕ) → k ≡ a + b → first_from f n k ≡ or_else (first_from f n a) (first_from f (n + a) b)
unfolding first_from
from_split f n zero b k e = let i : k ≡ b = omega arith in let j : n + 0 ≡ n = omega arith in rw (i, j)
from_split f n (suc a) b zero e = absurd (omega arith)
from_split f n (suc a) b (suc k) e =
    let i : n + suc a ≡ suc n + a = omega arith in
    rw (i, from_split f (suc n) a b k (omega arith)) (or_or (f n) _ _)

from_one : (f : ℕ → First) (l h : ℕ) → l ≡ h → first_from f l (suc h - l) ≡ f l
unfolding first_from
from_one f l h e = let i : suc h - l ≡ 1 = omega arith in rw i (or_none (f l))

from_none : (f : ℕ → First) (n k : ℕ) → ((m : ℕ) → n ≤ m → m < n + k → f m ≡ none) → first_from f n k ≡ none
unfolding first_from
from_none f n zero h = refl
from_none f n (suc k) h = rw (h n (omega arith) (omega arith), from_none f (suc n) k (λ m a b. h m (omega arith) (omega arith)))

-- ---- a box cut in two at its first input that is not one value
pub box_split : (p : List ℕ → Bool) (i m : ℕ) (ls hs : List ℕ) → ((j : ℕ) → j < i → get_or ls j 0 ≡ get_or hs j 0) → i < length ls → i < length hs → get_or ls i 0 ≤ m → m < get_or hs i 0
    → first_of p ls hs ≡ or_else (first_of p ls (set hs i m)) (first_of p (set ls i (m + 1)) hs)
unfolding first_of
box_split p i m [] hs s a b c d = absurd (omega arith)
box_split p i m (l ∷ ls) [] s a b c d = absurd (omega arith)
box_split p zero m (l ∷ ls) (h ∷ hs) s a b c d =
    let e : l + (suc m - l) ≡ m + 1 = omega arith in
    from_split _ l (suc m - l) (suc h - (m + 1)) (suc h - l) (omega arith) ∙ rw e
box_split p (suc i) m (l ∷ ls) (h ∷ hs) s a b c d =
    let e : l ≡ h = s 0 (omega arith) in
    rw (
      from_one (λ n. onto n (first_of (λ ns. p (n ∷ ns)) ls hs)) l h e,
      from_one (λ n. onto n (first_of (λ ns. p (n ∷ ns)) ls (set hs i m))) l h e,
      from_one (λ n. onto n (first_of (λ ns. p (n ∷ ns)) (set ls i (m + 1)) hs)) l h e,
      box_split (λ ns. p (l ∷ ns)) i m ls hs (λ j k. s (suc j) (omega arith)) (omega arith) (omega arith) c d,
    )
    (onto_or l (first_of (λ ns. p (l ∷ ns)) ls (set hs i m)) (first_of (λ ns. p (l ∷ ns)) (set ls i (m + 1)) hs))

-- ---- a box of one reading
pub box_single : (p : List ℕ → Bool) (ls hs : List ℕ) → length ls ≡ length hs → ((j : ℕ) → j < length ls → get_or ls j 0 ≡ get_or hs j 0) → first_of p ls hs ≡ (when p ls then some ls else none)
unfolding first_of when◌then◌else◌
box_single p [] hs n s = refl
box_single p (l ∷ ls) [] n s = absurd (omega arith)
box_single p (l ∷ ls) (h ∷ hs) n s =
    rw (from_one (λ m. onto m (first_of (λ ns. p (m ∷ ns)) ls hs)) l h (s 0 (omega arith)), box_single (λ ns. p (l ∷ ns)) ls hs (omega arith) (λ j k. s (suc j) (omega arith))) (go (p (l ∷ ls)))
  where
    go : (b : Bool) → onto l (pick b (some ls) none) ≡ pick b (some (l ∷ ls)) none
    go true = refl
    go false = refl

-- ---- a box in which p never holds
pub box_none : (p : List ℕ → Bool) (ls hs : List ℕ) → ((ns : List ℕ) → InBox ls hs ns → p ns ≡ false) → first_of p ls hs ≡ none
unfolding first_of when◌then◌else◌
box_none p [] hs h = rw (h [] end)
box_none p (l ∷ ls) [] h = refl
box_none p (l ∷ ls) (k ∷ hs) h = from_none _ l (suc k - l) (λ m a b. rw (box_none (λ ns. p (m ∷ ns)) ls hs (λ ns c. h (m ∷ ns) (one (omega arith) (omega arith) c))))

-- the numbers of a list in a box
pub in_low : {ls hs ns : List ℕ} → InBox ls hs ns → (i : ℕ) → get_or ls i 0 ≤ get_or ns i 0
in_low end i = omega arith
in_low (one a b c) zero = a
in_low (one a b c) (suc i) = in_low c i

pub in_high : {ls hs ns : List ℕ} → InBox ls hs ns → (i : ℕ) → get_or ns i 0 ≤ get_or hs i 0
in_high (end {hs = hs}) i = omega arith
in_high (one a b c) zero = b
in_high (one a b c) (suc i) = in_high c i

pub in_length : {ls hs ns : List ℕ} → InBox ls hs ns → length ns ≡ length ls
in_length end = refl
in_length (one a b c) = ap suc (in_length c)

-- ---- a box narrowed where an input does not matter

-- p is the same whatever number stands at i
abbrev pub Apart : (List ℕ → Bool) → ℕ → Type 0
Apart p i = (ns : List ℕ) (n : ℕ) → p (set ns i n) ≡ p ns

-- the high of input i is as it was, or is the low of an input that does not matter
abbrev pub Narrowed : (List ℕ → Bool) → List ℕ → List ℕ → List ℕ → Type 0
Narrowed p ls hs ts = (i : ℕ) → i < length ls → (get_or ts i 0 ≡ get_or hs i 0) ⊎ ((get_or ts i 0 ≡ get_or ls i 0) × (get_or ls i 0 ≤ get_or hs i 0) × Apart p i)

-- where f finds the same from every number, the first is enough
from_apart : (x : First) (l h : ℕ) → l ≤ h → first_from (λ n. onto n x) l (suc h - l) ≡ onto l x
unfolding first_from
from_apart none l h e = from_none _ l (suc h - l) (λ m a b. refl)
from_apart (some ns) l h e = let i : suc h - l ≡ suc (h - l) = omega arith in rw i

pub box_narrow : (p : List ℕ → Bool) (ls hs ts : List ℕ) → length hs ≡ length ls → length ts ≡ length ls → Narrowed p ls hs ts → first_of p ls hs ≡ first_of p ls ts
unfolding first_of when◌then◌else◌
box_narrow p [] hs ts a b c = refl
box_narrow p (l ∷ ls) [] ts a b c = absurd (omega arith)
box_narrow p (l ∷ ls) (h ∷ hs) [] a b c = absurd (omega arith)
box_narrow p (l ∷ ls) (h ∷ hs) (t ∷ ts) a b c =
    from_same _ _ (λ n. ap (onto n) (box_narrow (λ ns. p (n ∷ ns)) ls hs ts (omega arith) (omega arith) (λ i k. lower n i (c (suc i) (omega arith))))) l (suc h - l) ∙ go (c 0 (omega arith))
  where
    lower : (n i : ℕ) → (get_or ts i 0 ≡ get_or hs i 0) ⊎ ((get_or ts i 0 ≡ get_or ls i 0) × (get_or ls i 0 ≤ get_or hs i 0) × Apart p (suc i))
        → (get_or ts i 0 ≡ get_or hs i 0) ⊎ ((get_or ts i 0 ≡ get_or ls i 0) × (get_or ls i 0 ≤ get_or hs i 0) × Apart (λ ns. p (n ∷ ns)) i)
    lower n i (inl e) = inl e
    lower n i (inr e) = inr (e.0, e.1, λ ns m. e.2 (n ∷ ns) m)

    go : (t ≡ h) ⊎ ((t ≡ l) × (l ≤ h) × Apart p 0) → first_from (λ n. onto n (first_of (λ ns. p (n ∷ ns)) ls ts)) l (suc h - l) ≡ first_from (λ n. onto n (first_of (λ ns. p (n ∷ ns)) ls ts)) l (suc t - l)
    go (inl e) = rw e
    go (inr e) =
        from_same _ (λ n. onto n (first_of (λ ns. p (l ∷ ns)) ls ts)) (λ n. ap (onto n) (first_same _ _ (λ ns. e.2 (l ∷ ns) n) ls ts)) l (suc h - l)
        ∙ (from_apart (first_of (λ ns. p (l ∷ ns)) ls ts) l h e.1 ∙ sym (from_one (λ n. onto n (first_of (λ ns. p (n ∷ ns)) ls ts)) l t (sym e.0)))
