-- Tests of many: of every number below another, as a pass over records makes them, and of every element of a list, by the elements' places.
-- Assumes nothing.
use mathlib.Core.Path.{◌≡◌, refl, sym}
use mathlib.Core.Bool.{Bool, true, false, ◌&&◌, false≢true}
use mathlib.Core.List.{List, [], ◌∷◌}
use Prim.Native.Nat.{ℕ, zero, suc, ◌+◌, ◌-◌, ◌<◌, ◌≤◌}
use native.Mathlib.Numerals.{add-one}
use native.Mathlib.Omega.{arith}
use lib.Dec.{eqb}
use lib.ListN.{length, get_or}
use borrow.Author.Tests.{eqb-true, eqb-false}
use Rattle.notation.specs.Notation.{pick, when◌then◌else◌, up_to, every, In, here, there}

-- what passed conditions say
pub pick_both : (x y : Bool) → pick x y false ≡ true → (x ≡ true) × (y ≡ true)
pick_both true y h = (refl, h)
pick_both false y h = absurd (false≢true h)

pub and_both : (x y : Bool) → (x && y) ≡ true → (x ≡ true) × (y ≡ true)
and_both true y h = (refl, h)
and_both false y h = absurd (false≢true h)

-- what holds of each number before i, and of i, holds of each before i + 1
pub last : (P : ℕ → Type 0) (i : ℕ) → ((k : ℕ) → k < i → P k) → P i → (k : ℕ) → k < i + 1 → P k
last P i f p k h = go (eqb k i) refl
  where
    go : (b : Bool) → eqb k i ≡ b → P k
    go true q = rw (eqb-true k i q) p
    go false q = f k (omega (arith, eqb-false k i q))

-- ---- every number below another
module _ (f : ℕ → Bool) where
  pub up_start : up_to 0 f ≡ true
  unfolding up_to
  up_start = refl

  pub up_next : (i : ℕ) → up_to i f ≡ true → f i ≡ true → up_to (i + 1) f ≡ true
  unfolding up_to when◌then◌else◌
  up_next i h g = rw (add-one, up_to, h, g)

  up_more : (i k : ℕ) → f i ≡ false → up_to (suc k + i) f ≡ false
  unfolding up_to when◌then◌else◌
  up_more i zero g = let e : suc zero + i ≡ suc i = omega arith in rw (e, up_to) (go (up_to i f))
    where
      go : (b : Bool) → pick b (f i) false ≡ false
      go true = g
      go false = refl
  up_more i (suc k) g = let e : suc (suc k) + i ≡ suc (suc k + i) = omega arith in rw (e, up_to, up_more i k g)

  -- it stops at the first that fails
  pub up_stop : (i n : ℕ) → i < n → f i ≡ false → false ≡ up_to n f
  up_stop i n h g = let e : n ≡ suc (n - suc i) + i = omega arith in rw e (sym (up_more i (n - suc i) g))

  pub up_end : (i n : ℕ) → up_to i f ≡ true → i ≤ n → n ≤ i → true ≡ up_to n f
  up_end i n h l k = let e : n ≡ i = omega arith in rw e (sym h)

  pub up_make : (n : ℕ) → ((k : ℕ) → k < n → f k ≡ true) → up_to n f ≡ true
  unfolding up_to when◌then◌else◌
  up_make zero h = refl
  up_make (suc n) h = rw (up_make n (λ k l. h k (omega arith))) (h n (omega arith))

  pub up_all : (n : ℕ) → up_to n f ≡ true → (k : ℕ) → k < n → f k ≡ true
  unfolding up_to when◌then◌else◌
  up_all zero h k l = absurd (omega arith)
  up_all (suc n) h k l = let b = pick_both (up_to n f) (f n) h in last (λ j. f j ≡ true) n (up_all n b.0) b.1 k (omega arith)

-- two tests that agree below n
pub up_same : (n : ℕ) (f g : ℕ → Bool) → ((i : ℕ) → i < n → f i ≡ g i) → up_to n f ≡ up_to n g
unfolding up_to
up_same zero f g h = refl
up_same (suc n) f g h = rw (up_same n f g (λ i l. h i (omega arith)), h n (omega arith))

-- ---- every element
module _ {A : Type 0} (f : A → Bool) (d : A) where
  pub every_all : (xs : List A) → ((k : ℕ) → k < length xs → f (get_or xs k d) ≡ true) → true ≡ every f xs
  unfolding every when◌then◌else◌
  every_all [] h = refl
  every_all (x ∷ xs) h = rw (h 0 (omega arith)) (every_all xs (λ k l. h (suc k) (omega arith)))

  pub every_miss : (xs : List A) (k : ℕ) → k < length xs → f (get_or xs k d) ≡ false → false ≡ every f xs
  unfolding every when◌then◌else◌
  every_miss [] k l e = absurd (omega arith)
  every_miss (x ∷ xs) zero l e = rw e
  every_miss (x ∷ xs) (suc k) l e = go (f x) (every_miss xs k (omega arith) e)
    where
      go : (b : Bool) → false ≡ every f xs → false ≡ pick b (every f xs) false
      go true r = r
      go false r = refl

  pub every_at : (xs : List A) (k : ℕ) → every f xs ≡ true → k < length xs → f (get_or xs k d) ≡ true
  unfolding every when◌then◌else◌
  every_at [] k h l = absurd (omega arith)
  every_at (x ∷ xs) zero h l = (pick_both (f x) (every f xs) h).0
  every_at (x ∷ xs) (suc k) h l = every_at xs k (pick_both (f x) (every f xs) h).1 (omega arith)

pub every_in : {A : Type 0} (f : A → Bool) {x : A} (xs : List A) → every f xs ≡ true → In x xs → f x ≡ true
unfolding every when◌then◌else◌
every_in f (x ∷ xs) h here = (pick_both (f x) (every f xs) h).0
every_in f (y ∷ xs) h (there i) = every_in f xs (pick_both (f y) (every f xs) h).1 i
every_in {A = A} f [] h x3 = elim x3 [ ]
