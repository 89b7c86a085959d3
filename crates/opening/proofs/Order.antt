-- Document 01 makes all inputs' terms and then their bindings; made on the way down and on the way back they are the same. Assumes nothing.
use mathlib.Core.Path.{◌≡◌, refl, sym, ap, ◌∙◌}
use mathlib.Core.List.{List, [], ◌∷◌}
use Prim.Native.Nat.{ℕ, suc, ◌+◌, max}
use native.Mathlib.Numerals.{add-one}
use native.Mathlib.Omega.{arith}
use Rattle.semantics.specs.declared.Term.{Term}
use Rattle.semantics.specs.declared.Input.{Input}
use Rattle.semantics.specs.Numbers.{truth_term, binding_term}
use Rattle.semantics.specs.Terms.{term}
use Rattle.semantics.specs.Steps.{Setting, Got, gave, refused, Make, deeper, next, ◌>>=◌, ◌▹◌, give, make_of}
use Rattle.semantics.specs.Opening.{input_term, inputs_of, chain_of, opening_of}
use Rattle.opening.specs.Openings.{open_from, open_all}

deeper_twice : {A : Type 0} (u w m : ℕ) → m ≡ max u w → (x : Got A) → deeper u (deeper w x) ≡ deeper m x
deeper_twice u w m h (gave ts a d) = ap (gave ts a) (omega arith)
deeper_twice u w m h (refused k) = refl

module _ (z : Setting) where
  next_alike : {A B : Type 0} (x : Got A) (f g : A → Make B) → ((a : A) (ts : List Term) → f a z ts ≡ g a z ts) → next z x f ≡ next z x g
  next_alike (gave ts a u) f g h = ap (deeper u) (h a ts)
  next_alike (refused k) f g h = refl

  -- the binding of an input is made after those of the later ones
  bound : (v : ℕ) (u w : ℕ) (q : Got ℕ) → deeper (max u (max w 0)) (next z q (λ e. make_of (term binding_term 0 v e 0)))
      ≡ deeper u (next z (deeper w q) (λ e. make_of (term binding_term 0 v e 0)))
  bound v u w (gave ts e d) =
      deeper_twice (max u (max w 0)) d (max u (max w d)) (omega arith) (make_of (term binding_term 0 v e 0) z ts)
      ∙ sym (deeper_twice u (max w d) (max u (max w d)) refl (make_of (term binding_term 0 v e 0) z ts))
  bound v u w (refused k) = refl

  later : (v u : ℕ) (r : Got (List ℕ)) (o : Got ℕ) → next z r chain_of ≡ o
      → next z (deeper u (next z r (λ vs. give (v ∷ vs)))) chain_of ≡ deeper u (next z o (λ e. make_of (term binding_term 0 v e 0)))
  unfolding chain_of give ◌>>=◌
  later v u (gave ts vs w) o h = rw (← h) (bound v u w (chain_of vs z ts))
  later v u (refused k) o h = rw (← h)

  first : (i : ℕ) (xs : List Input) → ((ts : List Term) → next z (inputs_of (suc i) xs z ts) chain_of ≡ open_from (i + 1) xs z ts) → (y : Got ℕ)
      → next z (next z y (λ v. inputs_of (suc i) xs ▹ λ vs. v ∷ vs)) chain_of ≡ next z y (λ v. open_from (i + 1) xs >>= λ e. make_of (term binding_term 0 v e 0))
  unfolding ◌▹◌ ◌>>=◌
  first i xs ih (gave ts v u) = later v u (inputs_of (suc i) xs z ts) (open_from (i + 1) xs z ts) (ih ts)
  first i xs ih (refused k) = refl

  chained : (i : ℕ) (xs : List Input) (ts : List Term) → next z (inputs_of i xs z ts) chain_of ≡ open_from i xs z ts
  unfolding inputs_of chain_of open_from give ◌>>=◌
  chained i [] ts = refl
  chained i (x ∷ xs) ts = first i xs (λ us. rw add-one (chained (suc i) xs us)) (make_of (input_term i x) z ts)

pub same_opening : (xs : List Input) (z : Setting) (ts : List Term) → opening_of xs z ts ≡ open_all xs z ts
unfolding opening_of open_all ◌>>=◌
same_opening xs z ts =
    next_alike z (make_of (term truth_term 0 0 0 0) z ts) _ _ (λ f us.
    next_alike z (make_of (term truth_term 0 1 0 0) z us) _ _ (λ t ws. chained z 0 xs ws))
