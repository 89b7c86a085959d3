-- The first reading by loops inside one another, one for each input, and that these find what the definition does. Assumes nothing.
use mathlib.Core.Path.{◌≡◌, refl, ap, ◌∙◌}
use mathlib.Core.Bool.{Bool, true, false}
use mathlib.Core.List.{List, [], ◌∷◌, ◌++◌, map, flat_map}
use Prim.Native.Nat.{ℕ, zero, suc, ◌+◌, ◌-◌}
use Rattle.notation.specs.Notation.{pick, when◌then◌else◌}
use Rattle.firsts.specs.Witness.{First, none, some, up_from, readings_from, first_that}

-- ---- one or the other, and one more number before
abbrev pub or_else : First → First → First
or_else none y = y
or_else (some ns) y = some ns

abbrev pub onto : ℕ → First → First
onto n none = none
onto n (some ns) = some (n ∷ ns)

pub or_none : (x : First) → or_else x none ≡ x
or_none none = refl
or_none (some ns) = refl

pub or_or : (x y z : First) → or_else x (or_else y z) ≡ or_else (or_else x y) z
or_or none y z = refl
or_or (some ns) y z = refl

pub onto_or : (n : ℕ) (x y : First) → onto n (or_else x y) ≡ or_else (onto n x) (onto n y)
onto_or n none y = refl
onto_or n (some ns) y = refl

-- ---- the loops

-- the first that f finds, of n, n + 1 and so on, k of them
unfoldable pub first_from : (ℕ → First) → ℕ → ℕ → First
first_from f n zero = none
first_from f n (suc k) = or_else (f n) (first_from f (suc n) k)

unfoldable pub first_of : (List ℕ → Bool) → List ℕ → List ℕ → First
first_of p [] hs = when p [] then some [] else none
first_of p (l ∷ ls) [] = none
first_of p (l ∷ ls) (h ∷ hs) = first_from (λ n. onto n (first_of (λ ns. p (n ∷ ns)) ls hs)) l (suc h - l)

-- ---- they find what the definition does
first_append : (p : List ℕ → Bool) (xs ys : List (List ℕ)) → first_that p (xs ++ ys) ≡ or_else (first_that p xs) (first_that p ys)
unfolding first_that when◌then◌else◌
first_append p [] ys = refl
first_append p (x ∷ xs) ys = rw (first_append p xs ys) (go (p x))
  where
    go : (b : Bool) → pick b (some x) (or_else (first_that p xs) (first_that p ys)) ≡ or_else (pick b (some x) (first_that p xs)) (first_that p ys)
    go true = refl
    go false = refl

first_onto : (p : List ℕ → Bool) (n : ℕ) (xs : List (List ℕ)) → first_that p (map (λ ns. n ∷ ns) xs) ≡ onto n (first_that (λ ns. p (n ∷ ns)) xs)
unfolding first_that when◌then◌else◌
first_onto p n [] = refl
first_onto p n (x ∷ xs) = rw (first_onto p n xs) (go (p (n ∷ x)))
  where
    go : (b : Bool) → pick b (some (n ∷ x)) (onto n (first_that (λ ns. p (n ∷ ns)) xs)) ≡ onto n (pick b (some x) (first_that (λ ns. p (n ∷ ns)) xs))
    go true = refl
    go false = refl

-- the same function, pointwise
pub from_same : (f g : ℕ → First) → ((n : ℕ) → f n ≡ g n) → (n k : ℕ) → first_from f n k ≡ first_from g n k
unfolding first_from
from_same f g e n zero = refl
from_same f g e n (suc k) = rw (e n, from_same f g e (suc n) k)

first_up : (p : List ℕ → Bool) (xs : List (List ℕ)) (n k : ℕ) → first_that p (flat_map (λ m. map (λ ns. m ∷ ns) xs) (up_from n k)) ≡ first_from (λ m. onto m (first_that (λ ns. p (m ∷ ns)) xs)) n k
unfolding first_from first_that flat_map up_from
first_up p xs n zero = refl
first_up p xs n (suc k) =
    first_append p (map (λ ns. n ∷ ns) xs) (flat_map (λ m. map (λ ns. m ∷ ns) xs) (up_from (suc n) k)) ∙ rw (first_onto p n xs, first_up p xs (suc n) k)

pub first_nested : (p : List ℕ → Bool) (ls hs : List ℕ) → first_that p (readings_from ls hs) ≡ first_of p ls hs
unfolding first_of readings_from first_that
first_nested p [] hs = refl
first_nested p (l ∷ ls) [] = refl
first_nested p (l ∷ ls) (h ∷ hs) =
    first_up p (readings_from ls hs) l (suc h - l)
    ∙ from_same _ _ (λ n. ap (onto n) (first_nested (λ ns. p (n ∷ ns)) ls hs)) l (suc h - l)

-- ---- tests that hold of the same lists
pub first_same : (p q : List ℕ → Bool) → ((ns : List ℕ) → p ns ≡ q ns) → (ls hs : List ℕ) → first_of p ls hs ≡ first_of q ls hs
unfolding first_of when◌then◌else◌
first_same p q e [] hs = rw (e [])
first_same p q e (l ∷ ls) [] = refl
first_same p q e (l ∷ ls) (h ∷ hs) = from_same _ _ (λ n. ap (onto n) (first_same (λ ns. p (n ∷ ns)) (λ ns. q (n ∷ ns)) (λ ns. e (n ∷ ns)) ls hs)) l (suc h - l)
