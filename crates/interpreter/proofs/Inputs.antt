-- Binding the inputs, the last first. Assumes nothing.
use mathlib.Core.Path.{◌≡◌, refl, ap, ◌∙◌}
use mathlib.Core.List.{List, [], ◌∷◌}
use Prim.Native.Nat.{ℕ, suc, ◌+◌, ◌-◌, ◌<◌, ◌≤◌}
use native.Mathlib.Omega.{arith}
use borrow.Author.Tests.{lt-ltb, le-ltb}
use Rattle.notation.specs.Notation.{with, if◌below◌then◌else◌}
use lib.ListN.{length, get_or, drop, drop_of_length-le}
use lib.Seq.{drop-cons}
use Rattle.semantics.specs.declared.Input.{Input}
use Rattle.semantics.specs.Run.{Value, binding, input_value, inputs_bound}
use Rattle.semantics.specs.PlainRun.{started_of, places_in}
use Rattle.std.specs.declared.result.Result.{Result}
use Rattle.std.specs.declared.result.Result.TheVariants.{Err}
use Rattle.interpreter.specs.declared.Held.{Held}
use Rattle.interpreter.specs.declared.Stop.{Stop}
use Rattle.interpreter.specs.declared.Stop.TheVariants.{StoreFull}
use Rattle.interpreter.specs.Store.{chain_in, link_of, value_in, shown}
use Rattle.interpreter.specs.declared.Run.{Run}
use Rattle.interpreter.specs.Promise.{Kept, Bound, Full, run_in, Runs}
use Rattle.interpreter.proofs.Runs.{kept_on}
use Rattle.interpreter.proofs.Chains.{chain_empty, value_shown}

-- the last k + 1 of sixteen
from : {A : Type 0} (xs : List A) (k : ℕ) (d : A) → length xs ≡ 16 → k < 16 → drop (15 - k) xs ≡ get_or xs (15 - k) d ∷ drop (16 - k) xs
from xs k d l h = let b : suc (15 - k) ≡ 16 - k = omega arith in drop-cons xs (15 - k) d (omega arith) ∙ rw b

module _ (s : List ℕ) (xs : List Input) (ns : List ℕ) (lx : length xs ≡ 16) (ln : length ns ≡ 16) where
  -- none is bound
  pub inputs_none : chain_in s 0 ≡ inputs_bound (drop 16 xs) (drop 16 ns)
  unfolding inputs_bound
  inputs_none =
      let e : drop 16 xs ≡ [] = drop_of_length-le xs {i = 16} (omega arith) in
      rw (chain_empty s, e)

  -- one more, below those that are bound
  module _ (k : ℕ) (h : k < 16) (inv : chain_in s k ≡ inputs_bound (drop (16 - k) xs) (drop (16 - k) ns)) (d : Input) where
    inputs_more : (v : Held) → shown v ≡ input_value (get_or xs (15 - k) d) (get_or ns (15 - k) 0) → link_of v ≡ 0
        → {c : Value} → c ≡ binding (value_in s v) (chain_in s k) → c ≡ inputs_bound (drop (16 - (k + 1)) xs) (drop (16 - (k + 1)) ns)
    unfolding inputs_bound
    inputs_more v e l q =
        let a : 16 - (k + 1) ≡ 15 - k = omega arith in
        let value : value_in s v ≡ input_value (get_or xs (15 - k) d) (get_or ns (15 - k) 0) = value_shown s v l ∙ e in
        rw (q, a, from xs k d lx h, from ns k 0 ln h) (rw (value, inv))

-- all are
inputs_all : (s : List ℕ) (xs : List Input) (ns : List ℕ) (k : ℕ) → k ≡ 16 → chain_in s k ≡ inputs_bound (drop (16 - k) xs) (drop (16 - k) ns)
    → chain_in s 16 ≡ inputs_bound xs ns
inputs_all s xs ns k h inv = rw h at inv

-- ---- the start of a run, from x: k inputs are bound in y
module _ (xs : List Input) (ns : List ℕ) {x y : Run} (kept : Kept x y) (k : ℕ) (t : y.taken ≡ k) where
  -- one more
  pub start_more : length xs ≡ 16 → length ns ≡ 16 → k < 16 → chain_in y.store.now k ≡ inputs_bound (drop (16 - k) xs) (drop (16 - k) ns)
      → (d : Input) {v : Held} → shown v ≡ input_value (get_or xs (15 - k) d) (get_or ns (15 - k) 0) → link_of v ≡ 0 → {z : Run} {u : ℕ} → Bound v k y z u
      → (z.taken ≡ k + 1) × (Kept x z × ((k + 1 ≤ places_in (length x.store.now)) × (chain_in z.store.now (k + 1) ≡ inputs_bound (drop (16 - (k + 1)) xs) (drop (16 - (k + 1)) ns))))
  start_more lx ln h inv d {v} e l {z} {u} b =
      let a : u ≡ k + 1 = b.chain ∙ ap (λ (n : ℕ). n + 1) t in
      let room : y.taken < places_in (length x.store.now) = rw kept.long at b.room in (
        b.taken ∙ ap (λ (n : ℕ). n + 1) t,
        (
          kept_on kept b.kept,
          (
            omega arith,
            inputs_more y.store.now xs ns lx ln k h inv d v e l (rw a at b.is),
          ),
        ),
      )

  -- no place is left for one
  pub start_full : (allowance : ℕ) (e : Value) → k < 16 → {z : Run} → Full y z → Runs (started_of (places_in (length x.store.now)) x.rule.now allowance e) x z (Err StoreFull)
  unfolding started_of with if◌below◌then◌else◌
  start_full allowance e h f =
      let room : places_in (length x.store.now) ≤ y.taken = rw kept.long at f.room in
      let few : places_in (length x.store.now) < 16 = omega arith in
      record { is = rw (lt-ltb _ _ few) refl; low = tt; kept = kept_on kept f.kept }

  -- record 0 under all of them
  pub start_run : (allowance : ℕ) → k ≡ 16 → k ≤ places_in (length x.store.now) → chain_in y.store.now k ≡ inputs_bound (drop (16 - k) xs) (drop (16 - k) ns)
      → {z : Run} {o : Result Held Stop} → Runs (run_in y allowance 0 16) y z o
      → Runs (started_of (places_in (length x.store.now)) x.rule.now allowance (inputs_bound xs ns)) x z o
  unfolding started_of with if◌below◌then◌else◌
  start_run allowance h l inv r =
      let room : 16 ≤ places_in (length x.store.now) = omega arith in
      let all : chain_in y.store.now 16 ≡ inputs_bound xs ns = inputs_all y.store.now xs ns k h inv in
      let taken : y.taken ≡ 16 = t ∙ h in
      record { is = r.is ∙ rw (kept.long, kept.rule, taken, all, le-ltb _ _ room) refl; low = r.low; kept = kept_on kept r.kept }
