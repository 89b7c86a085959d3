-- The terms of an opening: each free truth among them is given 0 or 1 by numbers that reading takes, and with constant inputs all are constants.
-- Assumes nothing.
use mathlib.Core.Path.{◌≡◌, refl, ap, subst, ◌∙◌}
use mathlib.Core.Bool.{Bool, true, false}
use mathlib.Core.List.{List, [], ◌∷◌}
use Prim.Native.Nat.{ℕ, suc, ◌+◌, ◌<◌, ◌≤◌}
use native.Mathlib.Omega.{arith}
use lib.ListN.{length, get_or}
use lib.Dec.{eqb, ltb}
use borrow.Author.Tests.{eqb-true, eqb-false, ltb-true}
use Rattle.notation.specs.Notation.{pick, if◌equals◌then◌else◌}
use Rattle.semantics.specs.declared.Term.{Term}
use Rattle.semantics.specs.declared.Input.{Input}
use Rattle.semantics.specs.Numbers.{truth_term, free_truth_term, free_word_term, binding_term, constant_truth, constant_word, free_truth, table_full}
use Rattle.semantics.specs.Terms.{term, word_term_of, truth_number}
use Rattle.semantics.specs.Steps.{Setting, Got, gave, refused, Make, deeper, next, ◌>>=◌, ◌▹◌, give, make_of}
use Rattle.semantics.specs.Opening.{input_term, inputs_of, chain_of, opening_of}
use Rattle.semantics.specs.Reading.{numbers_taken}
use Rattle.semantics.proofs.Fold.{Each}
use Rattle.typing.proofs.Formed.{both}
use Rattle.soundness.proofs.Constants.{is_constant, Const, const_none, const_more}
use Rattle.soundness.proofs.Link.{SmallTerm, Small}

-- ---- what holds of each term stays so
abbrev pub All : (Term → Type 0) → List Term → Type 0
All P ts = Each (λ us t. P t) ts

-- of the terms that a step leaves
pub data Leaves (P : Term → Type 0) {A : Type 0} : Got A → Type 0 where
  leaves : {us : List Term} {a : A} {u : ℕ} → All P us → Leaves P (gave us a u)
  nothing : {k : ℕ} → Leaves P (refused k)

pub record Keeps (P : Term → Type 0) {A : Type 0} (m : Make A) : Type 0 where
  pub at : (z : Setting) (ts : List Term) → All P ts → Leaves P (m z ts)

module _ {P : Term → Type 0} where
  leaves_deeper : {A : Type 0} {x : Got A} (u : ℕ) → Leaves P x → Leaves P (deeper u x)
  leaves_deeper u (leaves h) = leaves h
  leaves_deeper u nothing = nothing

  pub keeps_give : {A : Type 0} (a : A) → Keeps P (give a)
  unfolding give
  keeps_give a = record { at = λ z ts h. leaves h }

  pub keeps_then : {A B : Type 0} {m : Make A} {f : A → Make B} → Keeps P m → ((a : A) → Keeps P (f a)) → Keeps P (m >>= f)
  unfolding ◌>>=◌
  keeps_then {A} {B} {m} {f} k g = record { at = λ z ts h. go z (m z ts) (k.at z ts h) }
    where
      go : (z : Setting) (x : Got A) → Leaves P x → Leaves P (next z x f)
      go z x (leaves {us = us} {a = a} {u = u} h) = leaves_deeper u ((g a).at z us h)
      go z x nothing = nothing

  keeps_map : {A B : Type 0} {m : Make A} (f : A → B) → Keeps P m → Keeps P (m ▹ f)
  unfolding ◌▹◌
  keeps_map f k = keeps_then k (λ a. keeps_give (f a))

  pub keeps_make : (t : Term) → P t → Keeps P (make_of t)
  unfolding make_of
  keeps_make t p = record { at = λ z ts h. go z ts h (z.search ts t).is (ltb (length ts) z.room) }
    where
      go : (z : Setting) (ts : List Term) → All P ts → (i j : Bool) → Leaves P (pick i (gave ts (z.search ts t).at 0) (pick j (gave (t ∷ ts) (length ts) 0) (refused table_full)))
      go z ts h true j = leaves h
      go z ts h false true = leaves {us = t ∷ ts} {a = length ts} (p, h)
      go z ts h false false = nothing

-- what holds of each input, numbered from i on
abbrev pub EachIn : (ℕ → Input → Type 0) → ℕ → List Input → Type 0
EachIn Q i [] = Unit {0}
EachIn Q i (x ∷ xs) = Q i x × EachIn Q (suc i) xs

-- ---- the opening, where it holds of the inputs' terms and of the others
module _ (P : Term → Type 0) (no : P (term truth_term 0 0 0 0)) (yes : P (term truth_term 0 1 0 0)) (chain : (v e : ℕ) → P (term binding_term 0 v e 0)) where
  keeps_inputs : (i : ℕ) (xs : List Input) → EachIn (λ j x. P (input_term j x)) i xs → Keeps P (inputs_of i xs)
  unfolding inputs_of
  keeps_inputs i [] h = keeps_give []
  keeps_inputs i (x ∷ xs) h = keeps_then (keeps_make (input_term i x) h.0) (λ v. keeps_map _ (keeps_inputs (suc i) xs h.1))

  keeps_chain : (vs : List ℕ) → Keeps P (chain_of vs)
  unfolding chain_of
  keeps_chain [] = keeps_give _
  keeps_chain (v ∷ vs) = keeps_then (keeps_chain vs) (λ e. keeps_make (term binding_term 0 v e 0) (chain v e))

  keeps_opening : (xs : List Input) → EachIn (λ j x. P (input_term j x)) 0 xs → Keeps P (opening_of xs)
  unfolding opening_of
  keeps_opening xs h =
      keeps_then (keeps_make (term truth_term 0 0 0 0) no) (λ f. keeps_then (keeps_make (term truth_term 0 1 0 0) yes) (λ t.
      keeps_then (keeps_inputs 0 xs h) (λ vs. keeps_chain vs)))

  pub opening_all : (xs : List Input) → EachIn (λ j x. P (input_term j x)) 0 xs → (z : Setting) {ts : List Term} {e u : ℕ} → opening_of xs z [] ≡ gave ts e u → All P ts
  opening_all xs h z {ts} {e} {u} q = go (opening_of xs z []) ((keeps_opening xs h).at z [] tt) q
    where
      go : (x : Got ℕ) → Leaves P x → x ≡ gave ts e u → All P ts
      go x (leaves {us = us} a) k = let i : us ≡ ts = cc in subst (All P) i a
      go x nothing k = let w : ◌≡◌ {A = ℕ} 0 1 = cc in absurd (omega arith)

-- ---- the numbers that reading takes
small_input : (ns : List ℕ) (i : ℕ) (x : Input) → (x.kind ≡ free_truth → get_or ns i 0 < 2) → SmallTerm ns (input_term i x)
unfolding input_term if◌equals◌then◌else◌
small_input ns i x h = go (eqb x.kind constant_truth) (eqb x.kind constant_word) (eqb x.kind free_truth) refl
  where
    go : (a b c : Bool) → eqb x.kind free_truth ≡ c
        → SmallTerm ns (pick a (term truth_term 0 (truth_number x.value) 0 0) (pick b (word_term_of x.value) (pick c (term free_truth_term 0 i 0 0) (term free_word_term 0 i 0 0))))
    go true b c e k = absurd (omega arith)
    go false true c e k = absurd (omega arith)
    go false false true e k = h (eqb-true _ _ e)
    go false false false e k = absurd (omega arith)

small_inputs : (ns : List ℕ) (i : ℕ) (xs : List Input) (ms : List ℕ) → length xs ≤ length ms → ((j : ℕ) → get_or ms j 0 ≡ get_or ns (i + j) 0) → numbers_taken xs ms ≡ true
    → EachIn (λ j x. SmallTerm ns (input_term j x)) i xs
unfolding numbers_taken if◌equals◌then◌else◌
small_inputs ns i [] ms l k h = tt
small_inputs ns i (x ∷ xs) [] l k h = absurd (omega arith)
small_inputs ns i (x ∷ xs) (m ∷ ms) l k h =
    both (pick (eqb x.kind free_truth) (ltb m 2) true) (numbers_taken xs ms) h λ p q. (
      small_input ns i x (λ e. small e p),
      small_inputs ns (suc i) xs ms (omega arith) (λ j. k (suc j) ∙ ap (λ j. get_or ns j 0) (next_index i j)) q,
    )
  where
    right : (i : ℕ) → i + 0 ≡ i
    right i = omega arith

    next_index : (i j : ℕ) → i + suc j ≡ suc i + j
    next_index i j = omega arith

    small : x.kind ≡ free_truth → pick (eqb x.kind free_truth) (ltb m 2) true ≡ true → get_or ns i 0 < 2
    small e p =
        let a : m ≡ get_or ns i 0 = k 0 ∙ ap (λ j. get_or ns j 0) (right i) in
        let b : m < 2 = ltb-true m 2 (rw e at p) in omega arith

pub opening_small : (ns : List ℕ) (xs : List Input) → length xs ≤ length ns → numbers_taken xs ns ≡ true → (z : Setting) {ts : List Term} {e u : ℕ}
    → opening_of xs z [] ≡ gave ts e u → Small ns ts
opening_small ns xs l h z {ts} q =
    opening_all (SmallTerm ns) (λ k. absurd (omega arith)) (λ k. absurd (omega arith)) (λ v e k. absurd (omega arith)) xs
    (small_inputs ns 0 xs ns l (λ j. ap (λ k. get_or ns k 0) (left j)) h) z q
  where
    left : (j : ℕ) → j ≡ 0 + j
    left j = omega arith

-- ---- constant inputs
module _ (i : ℕ) (x : Input) where
  constant_input : x.kind < free_truth → is_constant (input_term i x) ≡ true
  unfolding input_term is_constant if◌equals◌then◌else◌
  constant_input h = go (eqb x.kind constant_truth) (eqb x.kind constant_word) refl refl
    where
      go : (a b : Bool) → eqb x.kind constant_truth ≡ a → eqb x.kind constant_word ≡ b
          → is_constant (pick a (term truth_term 0 (truth_number x.value) 0 0) (pick b (word_term_of x.value) (pick (eqb x.kind free_truth) (term free_truth_term 0 i 0 0) (term free_word_term 0 i 0 0)))) ≡ true
      go true b p q = refl
      go false true p q = refl
      go false false p q = absurd (omega (arith, eqb-false x.kind constant_truth p, eqb-false x.kind constant_word q))

constant_inputs : (i : ℕ) (xs : List Input) → EachIn (λ j x. x.kind < free_truth) i xs → EachIn (λ j x. is_constant (input_term j x) ≡ true) i xs
constant_inputs i [] h = tt
constant_inputs i (x ∷ xs) h = (constant_input i x h.0, constant_inputs (suc i) xs h.1)

constant_term : (k a e : ℕ) → k ≡ truth_term → is_constant (term k 0 a e 0) ≡ true
unfolding is_constant if◌equals◌then◌else◌
constant_term k a e h = rw h

constant_binding : (v e : ℕ) → is_constant (term binding_term 0 v e 0) ≡ true
unfolding is_constant if◌equals◌then◌else◌
constant_binding v e = refl

pub opening_constant : (xs : List Input) → EachIn (λ j x. x.kind < free_truth) 0 xs → (z : Setting) {ts : List Term} {e u : ℕ} → opening_of xs z [] ≡ gave ts e u → Const ts
opening_constant xs h z {ts} q =
    const_of ts (opening_all (λ t. is_constant t ≡ true) (constant_term truth_term 0 0 refl) (constant_term truth_term 1 0 refl) constant_binding xs (constant_inputs 0 xs h) z q)
  where
    const_of : (ts : List Term) → All (λ t. is_constant t ≡ true) ts → Const ts
    const_of [] a = const_none
    const_of (t ∷ ts) a = const_more a.0 (const_of ts a.1)
