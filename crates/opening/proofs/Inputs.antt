-- The terms of the inputs, one input at a time, as `open_from` makes them. Assumes nothing.
use mathlib.Core.Path.{◌≡◌, refl, sym}
use mathlib.Core.Bool.{Bool, true, false, ◌&&◌}
use mathlib.Core.List.{List, [], ◌∷◌}
use Prim.Native.Nat.{ℕ, zero, suc, ◌+◌, ◌-◌, ◌<◌, ◌≤◌}
use native.Mathlib.Omega.{arith}
use lib.ListN.{length, get_or, get_or-eq_default}
use borrow.Author.Tests.{ne_eqb}
use Rattle.std.specs.declared.result.Result.{Result}
use Rattle.std.specs.List.{list_all}
use Rattle.notation.specs.Notation.{when◌then◌else◌, if◌equals◌then◌else◌, every}
use Rattle.semantics.specs.declared.Input.{Input}
use Rattle.semantics.specs.Numbers.{constant_truth, constant_word, free_truth, free_truth_term, free_word_term, no_binding}
use Rattle.semantics.specs.Terms.{truth_number}
use Rattle.semantics.specs.declared.refusal.Refusal.{Refusal}
use Rattle.semantics.specs.Steps.{◌>>=◌, give, make_of}
use Rattle.semantics.specs.Factory.{make_truth_of, make_word_of, make_free_of, make_binding_of}
use Rattle.semantics.specs.Opening.{input_term}
use Rattle.terms.specs.Gives.{from, Gives}
use Rattle.terms.proofs.Arrays.{from_all}
use Rattle.terms.specs.declared.table.Table.{Table}
use Rattle.opening.specs.Openings.{no_input, open_from}

pub no_input_lem : (xs : List Input) (i : ℕ) → length xs ≤ i → no_input ≡ get_or xs i no_input
no_input_lem xs i h = sym (get_or-eq_default xs no_input h)

-- ---- the term of an input, by its kind
module _ (i : ℕ) (x : Input) {s y : Table} {r : Result ℕ Refusal} where
  pub input_truth : x.kind ≡ constant_truth → {a : ℕ} → a ≡ truth_number x.value → Gives (make_truth_of a) s 0 r y → Gives (make_of (input_term i x)) s 0 r y
  unfolding input_term if◌equals◌then◌else◌
  input_truth h e g = rw (h, ← e) g

  pub input_word : x.kind ≡ constant_word → Gives (make_word_of x.value) s 0 r y → Gives (make_of (input_term i x)) s 0 r y
  unfolding input_term if◌equals◌then◌else◌
  input_word h g = rw h g

  pub input_free_truth : x.kind ≡ free_truth → Gives (make_free_of free_truth_term i) s 0 r y → Gives (make_of (input_term i x)) s 0 r y
  unfolding input_term if◌equals◌then◌else◌
  input_free_truth h g = rw h g

  pub input_free_word : (x.kind ≡ constant_truth → ⊥) → (x.kind ≡ constant_word → ⊥) → (x.kind ≡ free_truth → ⊥) → Gives (make_free_of free_word_term i) s 0 r y → Gives (make_of (input_term i x)) s 0 r y
  unfolding input_term if◌equals◌then◌else◌
  input_free_word h k l g = rw (ne_eqb _ _ h, ne_eqb _ _ k, ne_eqb _ _ l) g

pub ruleset inputs = (input_truth, input_word, input_free_truth, input_free_word)

-- the inputs from number i on, where there is one more, and where there is none
module _ (xs : List Input) (i : ℕ) {s y : Table} {r : Result ℕ Refusal} where
  pub open_end : 16 ≤ i → Gives (give no_binding) s 0 r y → Gives (open_from i (from no_input xs i (16 - i))) s 0 r y
  unfolding open_from from
  open_end h g = let e : 16 - i ≡ zero = omega arith in rw (e, from, open_from) g

  pub open_next : i < 16
      → Gives (make_of (input_term i (get_or xs i no_input)) >>= λ v. open_from (i + 1) (from no_input xs (i + 1) (16 - (i + 1))) >>= λ e. make_binding_of v e) s 0 r y
      → Gives (open_from i (from no_input xs i (16 - i))) s 0 r y
  unfolding open_from from
  open_next h g = let q : 16 - i ≡ suc (16 - (i + 1)) = omega arith in rw (q, from, open_from) g

-- all are taken, in the library's word
pub all_every : {A : Type 0} (f : A → Bool) (xs : List A) → list_all f xs ≡ every f xs
unfolding when◌then◌else◌ every
all_every f [] = refl
all_every f (x ∷ xs) = rw (all_every f xs) (go (f x))
  where
    go : (b : Bool) → (b && every f xs) ≡ (when b then every f xs else false)
    go true = refl
    go false = refl

-- sixteen inputs are all of them
pub all_inputs : (xs : List Input) → length xs ≡ 16 → from no_input xs 0 16 ≡ xs
all_inputs xs h = rw h at (from_all no_input xs)

-- all sixteen
pub open_whole : (xs : List Input) → length xs ≡ 16 → {s y : Table} {r : Result ℕ Refusal} → Gives (open_from 0 (from no_input xs 0 (16 - 0))) s 0 r y → Gives (open_from 0 xs) s 0 r y
open_whole xs h g = rw (all_inputs xs h) at g
