-- How the definitions write a condition, a named value, a test of many and an element of a list. Code that is proved equal to a definition
-- follows its text, and the laws of proofs/Follow.antt and proofs/Every.antt are stated over these forms. Assumes nothing.
use Rattle.std.specs.Prelude.{ℕ, zero, suc, Bool, true, false, List, [], ◌∷◌, eqb, ltb}

-- the first for true, the second for false
abbrev pub pick : {A : Type 0} → Bool → A → A → A
pick true x y = x
pick false x y = y

infixr 5 when◌then◌else◌
infixr 5 if◌equals◌then◌else◌
infixr 5 if◌below◌then◌else◌
infixr 5 unless◌then◌else◌
unfoldable pub when◌then◌else◌ : {A : Type 0} → Bool → A → A → A
when b then x else y = pick b x y

-- by whether i = j
unfoldable pub if◌equals◌then◌else◌ : {A : Type 0} → ℕ → ℕ → A → A → A
if i equals j then x else y = pick (eqb i j) x y

-- by whether i < j
unfoldable pub if◌below◌then◌else◌ : {A : Type 0} → ℕ → ℕ → A → A → A
if i below j then x else y = pick (ltb i j) x y

-- a test that must be passed: x where it is not
unfoldable pub unless◌then◌else◌ : {A : Type 0} → Bool → A → A → A
unless b then x else y = pick b y x

-- f of a value that is worked out first
unfoldable pub with : {A B : Type 0} → A → (A → B) → B
with v f = f v

-- f of every number below n
unfoldable pub up_to : ℕ → (ℕ → Bool) → Bool
up_to zero f = true
up_to (suc n) f = when up_to n f then f n else false

-- f of every element
unfoldable pub every : {A : Type 0} → (A → Bool) → List A → Bool
every f [] = true
every f (x ∷ xs) = when f x then every f xs else false

-- an element of a list
pub data In {A : Type 0} (x : A) : List A → Type 0 where
  here : {xs : List A} → In x (x ∷ xs)
  there : {y : A} {xs : List A} → In x xs → In x (y ∷ xs)
