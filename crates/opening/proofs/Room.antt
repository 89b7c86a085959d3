-- A table that 1 takes has room for every opening, so that the terms do not depend on its length, nor on the search; and they are well formed.
-- Assumes nothing.
use mathlib.Core.Path.{◌≡◌, refl}
use mathlib.Core.Bool.{Bool, true, false, or-true}
use mathlib.Core.List.{List, [], ◌∷◌}
use Prim.Native.Nat.{ℕ, ◌+◌, ◌<◌, ◌≤◌}
use native.Mathlib.Omega.{arith}
use lib.ListN.{length}
use lib.Dec.{eqb, ltb}
use borrow.Author.Tests.{lt-ltb}
use Rattle.notation.specs.Notation.{pick, if◌equals◌then◌else◌}
use Rattle.semantics.specs.declared.Term.{Term}
use Rattle.semantics.specs.declared.Input.{Input}
use Rattle.semantics.specs.Numbers.{constant_truth, constant_word, free_truth, truth_term, word_term, free_truth_term, free_word_term, binding_term, no_binding, input_count, most_table}
use Rattle.semantics.specs.Terms.{term, word_term_of, truth_number, at, find_of, sort_of, laid_out, well_formed}
use Rattle.semantics.specs.Steps.{setting_of, room_of, Got, gave, Make, deeper, next, ◌>>=◌, give, make_of}
use Rattle.semantics.specs.Opening.{input_term}
use Rattle.terms.specs.Search.{code_setting}
use Rattle.typing.proofs.Grown.{Grown, still, more, grown_on, at_newest, Sort, Value, value_grown, value_of, binding_named}
use Rattle.typing.proofs.Formed.{There, find_there, find_same}
use Rattle.typing.proofs.Does.{Lies}
use Rattle.typing.proofs.Factory.{there_sort, laid_constant, laid_word, binding_sort}
use Rattle.opening.specs.Openings.{open_from, open_all}

-- at most k terms more, of which Q holds, in both settings alike
pub data Roomy (k : ℕ) (ts : List Term) (Q : List Term → ℕ → Type 0) : Got ℕ → Got ℕ → Type 0 where
  roomy : {us : List Term} {a : ℕ} → Grown ts us → well_formed 0 us ≡ true → length us ≤ length ts + k → Q us a → Roomy k ts Q (gave us a 0) (gave us a 0)

module _ (l : ℕ) where
  make_roomy : (ts : List Term) (t : Term) → well_formed 0 ts ≡ true → laid_out 0 ts t ≡ true → length ts < room_of l → length ts < room_of most_table
      → Roomy 1 ts (There t) (make_of t (code_setting l) ts) (make_of t (setting_of most_table) ts)
  unfolding make_of well_formed
  make_roomy ts t f h r m = rw (find_same 0 t ts f, lt-ltb _ _ r, lt-ltb _ _ m) (go (find_of ts t).is refl)
    where
      formed : (find_of ts t).is ≡ false → well_formed 0 (t ∷ ts) ≡ true
      formed e = rw (h, e, f)

      go : (i : Bool) → (find_of ts t).is ≡ i
          → Roomy 1 ts (There t) (pick i (gave ts (find_of ts t).at 0) (gave (t ∷ ts) (length ts) 0)) (pick i (gave ts (find_of ts t).at 0) (gave (t ∷ ts) (length ts) 0))
      go true e = roomy still f (omega arith) (find_there t ts e)
      go false e = roomy {a = length ts} (more still) (formed e) (omega arith) (record { low = omega arith; is = at_newest t ts })

  then_roomy : {k j : ℕ} (m : Make ℕ) (f : ℕ → Make ℕ) {ts : List Term} {Q R : List Term → ℕ → Type 0} → Roomy k ts Q (m (code_setting l) ts) (m (setting_of most_table) ts)
      → ((us : List Term) (a : ℕ) → Grown ts us → well_formed 0 us ≡ true → length us ≤ length ts + k → Q us a → Roomy j us R (f a (code_setting l) us) (f a (setting_of most_table) us))
      → Roomy (k + j) ts R ((m >>= f) (code_setting l) ts) ((m >>= f) (setting_of most_table) ts)
  unfolding ◌>>=◌
  then_roomy {k} {j} m f {ts} {Q} {R} d g = go (m (code_setting l) ts) (m (setting_of most_table) ts) d
    where
      wider : {us : List Term} {x y : Got ℕ} → Grown ts us → length us ≤ length ts + k → Roomy j us R x y → Roomy (k + j) ts R (deeper 0 x) (deeper 0 y)
      wider p b (roomy q w c r) = roomy (grown_on p q) w (omega arith) r

      go : (x y : Got ℕ) → Roomy k ts Q x y → Roomy (k + j) ts R (next (code_setting l) x f) (next (setting_of most_table) y f)
      go x y (roomy {us = us} {a = a} p w b q) = wider p b (g us a p w b q)

-- ---- the terms of the inputs
input_cases : (P : Term → Type 0) (i : ℕ) (x : Input) → P (term truth_term 0 (truth_number x.value) 0 0) → P (word_term_of x.value)
    → P (term free_truth_term 0 i 0 0) → P (term free_word_term 0 i 0 0) → P (input_term i x)
unfolding input_term if◌equals◌then◌else◌
input_cases P i x a b c d = go (eqb x.kind constant_truth) (eqb x.kind constant_word) (eqb x.kind free_truth)
  where
    go : (i₁ i₂ i₃ : Bool)
        → P (pick i₁ (term truth_term 0 (truth_number x.value) 0 0) (pick i₂ (word_term_of x.value) (pick i₃ (term free_truth_term 0 i 0 0) (term free_word_term 0 i 0 0))))
    go true j k = a
    go false true k = b
    go false false true = c
    go false false false = d

input_laid : (ts : List Term) (i : ℕ) (x : Input) → i < input_count → Lies 0 ts (input_term i x)
unfolding laid_out if◌equals◌then◌else◌
input_laid ts i x l =
    input_cases (Lies 0 ts) i x (laid_constant x.value) (laid_word x.value) (record { is = rw (lt-ltb _ _ l) }) (record { is = rw (lt-ltb _ _ l) })

record Valued (us : List Term) (a : ℕ) (t : Term) : Type 0 where
  is : There t us a → Value us a

input_value_lem : (us : List Term) (a i : ℕ) (x : Input) → There (input_term i x) us a → Value us a
unfolding sort_of if◌equals◌then◌else◌
input_value_lem us a i x =
    (input_cases (Valued us a) i x
    (record { is = λ t. value_of truth_term refl refl (there_sort truth_term refl t) }) (record { is = λ t. value_of word_term refl refl (there_sort word_term refl t) })
    (record { is = λ t. value_of truth_term refl refl (there_sort truth_term refl t) }) (record { is = λ t. value_of word_term refl refl (there_sort word_term refl t) })
    ).is

-- the end of the chain, or a binding
pub data Link (ts : List Term) (e : ℕ) : Type 0 where
  end : e ≡ no_binding → Link ts e
  bound : Sort binding_term ts e → Link ts e

link_laid : (ts : List Term) (v e : ℕ) → Value ts v → Link ts e → laid_out 0 ts (term binding_term 0 v e 0) ≡ true
unfolding laid_out if◌equals◌then◌else◌
link_laid ts v e h (end k) = rw (h.is, k)
link_laid ts v e h (bound k) = rw (h.is, binding_named k, or-true (eqb e no_binding))

module _ (l : ℕ) where
  -- an input's term and, once the later ones are made, its binding
  pub input_roomy : (i : ℕ) (x : Input) (xs : List Input) (ts : List Term) → i < input_count → well_formed 0 ts ≡ true
      → length ts + (1 + (length xs + length xs + 1)) ≤ room_of l → length ts + (1 + (length xs + length xs + 1)) ≤ room_of most_table
      → ((us : List Term) → well_formed 0 us ≡ true → length us ≤ length ts + 1
      → Roomy (length xs + length xs) us Link (open_from (i + 1) xs (code_setting l) us) (open_from (i + 1) xs (setting_of most_table) us))
      → Roomy (1 + (length xs + length xs + 1)) ts (Sort binding_term) (open_from i (x ∷ xs) (code_setting l) ts) (open_from i (x ∷ xs) (setting_of most_table) ts)
  unfolding open_from
  input_roomy i x xs ts n f r m later =
      then_roomy l (make_of (input_term i x)) (λ v. open_from (i + 1) xs >>= λ e. make_of (term binding_term 0 v e 0))
      (make_roomy l ts (input_term i x) f (input_laid ts i x n).is (omega arith) (omega arith)) (λ us v g w b t.
      then_roomy l (open_from (i + 1) xs) (λ e. make_of (term binding_term 0 v e 0)) (later us w b) (λ ws e u y c k.
      binds (make_roomy l ws (term binding_term 0 v e 0) y (link_laid ws v e (value_grown u (input_value_lem us v i x t)) k) (omega arith) (omega arith))))
    where
      binds : {ws : List Term} {v e : ℕ} {y z : Got ℕ} → Roomy 1 ws (There (term binding_term 0 v e 0)) y z → Roomy 1 ws (Sort binding_term) y z
      binds {v = v} {e} (roomy g w b q) = roomy g w b (there_sort binding_term (binding_sort v e) q)

  pub from_roomy : (i : ℕ) (xs : List Input) (ts : List Term) → i + length xs ≤ input_count → well_formed 0 ts ≡ true
      → length ts + (length xs + length xs) ≤ room_of l → length ts + (length xs + length xs) ≤ room_of most_table
      → Roomy (length xs + length xs) ts Link (open_from i xs (code_setting l) ts) (open_from i xs (setting_of most_table) ts)
  unfolding open_from give
  from_roomy i [] ts n f r m = roomy still f (omega arith) (end refl)
  from_roomy i (x ∷ xs) ts n f r m =
      widen (input_roomy i x xs ts (omega arith) f (omega arith) (omega arith) (λ us w b. from_roomy (i + 1) xs us (omega arith) w (omega arith) (omega arith)))
    where
      widen : {y z : Got ℕ} → Roomy (1 + (length xs + length xs + 1)) ts (Sort binding_term) y z → Roomy (length (x ∷ xs) + length (x ∷ xs)) ts Link y z
      widen (roomy g w b q) = roomy g w (omega arith) (bound q)

  -- "Terms: false, true, inputs 0 to 15, then bindings"
  pub all_roomy : (xs : List Input) → length xs ≡ input_count → 34 ≤ room_of l
      → Roomy 34 [] Link (open_all xs (code_setting l) []) (open_all xs (setting_of most_table) [])
  unfolding open_all laid_out if◌equals◌then◌else◌ well_formed
  all_roomy xs n r =
      widen (then_roomy l (make_of (term truth_term 0 0 0 0)) (λ f. make_of (term truth_term 0 1 0 0) >>= λ t. open_from 0 xs)
      (make_roomy l [] (term truth_term 0 0 0 0) refl refl (omega arith) (omega arith)) (λ us f g w b q.
      then_roomy l (make_of (term truth_term 0 1 0 0)) (λ t. open_from 0 xs) (make_roomy l us (term truth_term 0 1 0 0) w refl (omega arith) (omega arith))
      (λ ws t u y c p. from_roomy 0 xs ws (omega arith) y (omega arith) (omega arith))))
    where
      widen : {y z : Got ℕ} → Roomy (1 + (1 + (length xs + length xs))) [] Link y z → Roomy 34 [] Link y z
      widen (roomy g w b q) = roomy g w (omega arith) q
