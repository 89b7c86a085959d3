-- An array as the list of its first elements: one more of them. Assumes nothing.
use mathlib.Core.Path.{◌≡◌, refl, ap, subst, ◌∙◌}
use mathlib.Core.List.{List, [], ◌∷◌, ◌++◌}
use Prim.Native.Nat.{ℕ, zero, suc, ◌+◌, ◌<◌, ◌≤◌}
use native.Mathlib.Omega.{arith}
use lib.ListN.{length, get_or, set}
use lib.Seq.{get_or-set_same, get_or-set_other}
use Rattle.terms.specs.Gives.{from}

module _ {A : Type 0} (z : A) where
  from_snoc : (l : List A) (i k : ℕ) → from z l i (suc k) ≡ from z l i k ++ (get_or l (i + k) z ∷ [])
  unfolding from
  from_snoc l i zero = let e : i + zero ≡ i = omega arith in rw e
  from_snoc l i (suc k) = let e : i + suc k ≡ i + 1 + k = omega arith in rw e (ap (λ (u : List A). get_or l i z ∷ u) (from_snoc l (i + 1) k))

  from_set : (l : List A) (v : A) (j i k : ℕ) → i + k ≤ j → from z (set l j v) i k ≡ from z l i k
  unfolding from
  from_set l v j i zero h = refl
  from_set l v j i (suc k) h = rw (get_or-set_other l j i v z (omega arith), from_set l v j (i + 1) k (omega arith))

  pub from_push : (l : List A) (v : A) (k : ℕ) → k < length l → from z (set l k v) 0 (k + 1) ≡ from z l 0 k ++ (v ∷ [])
  from_push l v k h =
      let e : k ≡ 0 + k = omega arith in
      let f : suc k ≡ k + 1 = omega arith in
      subst (λ (j : ℕ). from z (set l k v) 0 j ≡ from z l 0 k ++ (v ∷ [])) f
      (from_snoc (set l k v) 0 k
      ∙ (ap (λ (u : List A). u ++ (get_or (set l k v) (0 + k) z ∷ [])) (from_set l v k 0 k (omega arith))
      ∙ ap (λ (x : A). from z l 0 k ++ (x ∷ [])) (subst (λ (j : ℕ). get_or (set l k v) j z ≡ v) e (get_or-set_same l k v z h))))
