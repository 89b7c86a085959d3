-- A test of no element, of one and of two: what a function that takes them one by one has to show. Assumes nothing.
use mathlib.Core.Path.{◌≡◌}
use mathlib.Core.Bool.{Bool, true, false, ◌&&◌}
use mathlib.Core.List.{List, [], ◌∷◌}
use Rattle.notation.specs.Notation.{pick, when◌then◌else◌, every}

module _ {A : Type 0} (f : A → Bool) {l : List A} {z : Bool} where
  pub each_none : [] ≡ l → z ≡ true → z ≡ every f l
  unfolding every
  each_none h g = rw (← h) g

  pub each_one : (x : A) → x ∷ [] ≡ l → z ≡ f x → z ≡ every f l
  unfolding every when◌then◌else◌
  each_one x h g = rw (← h) (go (f x) g)
    where
      go : (b : Bool) → z ≡ b → z ≡ pick b true false
      go true q = q
      go false q = q

  pub each_two : (x y : A) → x ∷ y ∷ [] ≡ l → z ≡ (f x && f y) → z ≡ every f l
  unfolding every when◌then◌else◌
  each_two x y h g = rw (← h) (go (f x) (f y) g)
    where
      go : (b c : Bool) → z ≡ (b && c) → z ≡ pick b (pick c true false) false
      go true true q = q
      go true false q = q
      go false c q = q
