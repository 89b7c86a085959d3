-- The inputs at the start of what is read. Assumes nothing.
use mathlib.Core.Path.{◌≡◌, refl, ap, ◌∙◌}
use mathlib.Core.Bool.{Bool, true, false, ◌&&◌}
use mathlib.Core.List.{List}
use Prim.Native.Nat.{ℕ, zero, suc, ◌<◌, ◌≤◌}
use native.Mathlib.Omega.{arith}
use lib.Dec.{leb}
use lib.ListN.{length}
use borrow.Author.Tests.{le-leb, lt-leb, leb-true}
use Rattle.semantics.specs.declared.Input.{Input}
use Rattle.semantics.specs.Numbers.{input_count}
use Rattle.semantics.specs.Print.{input_bytes, inputs_from, inputs_whole}
use Rattle.forms.specs.Forms.{each_below, inputs_in, inputs_zeroed}

-- ---- the test

pub cut_short : (s : List ℕ) → length s < input_bytes → false ≡ inputs_whole s
unfolding inputs_whole
cut_short s h = rw (lt-leb _ _ h)

pub not_cut : (s : List ℕ) → input_bytes ≤ length s → {b : Bool} → b ≡ inputs_zeroed s → b ≡ inputs_whole s
unfolding inputs_whole inputs_zeroed
not_cut s h e = e ∙ rw (le-leb _ _ h)

pub long_enough : (s : List ℕ) → inputs_whole s ≡ true → input_bytes ≤ length s
unfolding inputs_whole inputs_zeroed
long_enough s h = go (leb input_bytes (length s)) refl h
  where
    go : (b : Bool) → leb input_bytes (length s) ≡ b → (b && inputs_zeroed s) ≡ true → input_bytes ≤ length s
    go true e r = leb-true _ _ e
    go false e r = let w : ◌≡◌ {A = ℕ} 0 1 = cc in absurd (omega arith)

-- ---- the sixteen

-- the library's form of inputs is the printing program's
pub inputs_same : (s : List ℕ) {xs : List Input} → xs ≡ inputs_in s → xs ≡ inputs_from s 0 input_count
unfolding inputs_in each_below inputs_from
inputs_same s e = e

pub inputs_length_lem : (s : List ℕ) (i n : ℕ) → length (inputs_from s i n) ≡ n
unfolding inputs_from
inputs_length_lem s i zero = refl
inputs_length_lem s i (suc n) = ap suc (inputs_length_lem s (suc i) n)
