-- Steps one after another, as equations. Assumes nothing.
use mathlib.Core.Path.{◌≡◌, refl, ap, fun_ext, ◌∙◌}
use mathlib.Core.List.{List, [], ◌∷◌, ◌++◌}
use Prim.Native.Nat.{ℕ, max}
use native.Mathlib.Omega.{arith}
use Rattle.semantics.specs.Steps.{Setting, Got, gave, refused, Make, deeper, next, ◌>>=◌, ◌▹◌, give, each}
use Rattle.terms.proofs.Gives.{deeper_zero}

pub give_then : {A B : Type 0} (a : A) (f : A → Make B) → give a >>= f ≡ f a
unfolding ◌>>=◌ give
give_then a f = fun_ext λ z. fun_ext λ ts. deeper_zero (f a z ts)

module _ {A B C : Type 0} (f : A → Make B) (g : B → Make C) where
  deeper_both : (u w : ℕ) (c : Got C) → deeper (max u w) c ≡ deeper u (deeper w c)
  deeper_both u w (gave ts c v) = let e : max (max u w) v ≡ max u (max w v) = omega arith in ap (gave ts c) e
  deeper_both u w (refused k) = refl

  then_deeper : (z : Setting) (u : ℕ) (b : Got B) → next z (deeper u b) g ≡ deeper u (next z b g)
  then_deeper z u (gave ts b w) = deeper_both u w (g b z ts)
  then_deeper z u (refused k) = refl

  pub then_then : (m : Make A) → m >>= f >>= g ≡ m >>= λ a. f a >>= g
  unfolding ◌>>=◌
  then_then m = fun_ext λ z. fun_ext λ ts. go z (m z ts)
    where
      go : (z : Setting) (a : Got A) → next z (next z a f) g ≡ next z a (λ x. λ z ts. next z (f x z ts) g)
      go z (gave ts a u) = then_deeper z u (f a z ts)
      go z (refused k) = refl

pub then_give : {A : Type 0} (m : Make A) → m >>= give ≡ m
unfolding ◌>>=◌ give
then_give {A} m = fun_ext λ z. fun_ext λ ts. go z (m z ts)
  where
    go : (z : Setting) (a : Got A) → next z a (λ x. λ z ts. gave ts x 0) ≡ a
    go z (gave ts a u) = let e : max u 0 ≡ u = omega arith in ap (gave ts a) e
    go z (refused k) = refl

pub then_as : {A B : Type 0} (m : Make A) {f g : A → Make B} → ((a : A) → f a ≡ g a) → m >>= f ≡ m >>= g
then_as m e = ap (λ k. m >>= k) (fun_ext e)

module _ {A B C : Type 0} where
  pub map_then : (m : Make A) (h : A → B) (k : B → Make C) → (m ▹ h) >>= k ≡ m >>= λ a. k (h a)
  unfolding ◌▹◌
  map_then m h k = then_then (λ a. give (h a)) k m ∙ then_as m (λ a. give_then (h a) k)

  pub then_map : (m : Make A) (f : A → Make B) (h : B → C) → (m >>= f) ▹ h ≡ m >>= λ a. f a ▹ h
  unfolding ◌▹◌
  then_map m f h = then_then f (λ b. give (h b)) m

module _ {A B : Type 0} (f : A → B → Make A) where
  pub each_append : (a : A) (xs ys : List B) → each f a xs >>= (λ b. each f b ys) ≡ each f a (xs ++ ys)
  unfolding each
  each_append a [] ys = give_then a (λ b. each f b ys)
  each_append a (x ∷ xs) ys = then_then (λ b. each f b xs) (λ b. each f b ys) (f a x) ∙ then_as (f a x) (λ b. each_append b xs ys)

  pub each_one : (a : A) (x : B) → each f a (x ∷ []) ≡ f a x
  unfolding each
  each_one a x = then_give (f a x)
