-- What the wires of a term hold, as a reading. Assumes nothing.
use mathlib.Core.Path.{◌≡◌, refl}
use mathlib.Core.Bool.{Bool, true, false, not, ◌&&◌, ◌||◌, cond}
use Prim.Native.Nat.{ℕ, zero, suc, ◌+◌, ◌*◌}
use lib.Dec.{eqb}
use Rattle.notation.specs.Notation.{pick, if◌equals◌then◌else◌}
use Rattle.words.specs.Words.{width}
use Rattle.operators.specs.Operators.{bit_of}
use Rattle.semantics.specs.declared.Reading.{Reading}
use Rattle.semantics.specs.Numbers.{truth_term, word_term, procedure_term}
use Rattle.semantics.specs.Reading.{reading_of, nothing, truth_reading, is_true, is_truth, is_word, passes}
use Rattle.circuits.specs.Templates.{literals}
use Rattle.circuits.proofs.Sums.{number}
use Rattle.typing.proofs.Formed.{never}

-- the word of n wires from number s on
unfoldable pub word_of : (ℕ → Bool) → ℕ → ℕ → ℕ
word_of b s zero = 0
word_of b s (suc n) = bit_of (b s) + 2 * word_of b (suc s) n

pub number_word : {W : Type 0} (τ : W → Bool) (f : ℕ → W) (s n : ℕ) → number τ (literals f s n) ≡ word_of (λ i. τ (f i)) s n
unfolding word_of
number_word τ f s zero = refl
number_word τ f s (suc n) = rw (number_word τ f (suc s) n)

abbrev pub shape : Bool → Bool → ℕ → Bool → Reading
shape true true n b = nothing
shape true false n b = reading_of word_term n
shape false true n b = reading_of procedure_term n
shape false false n b = truth_reading b

-- what wires read as
abbrev pub held : (ℕ → Bool) → Reading
held b = shape (b 0) (b 1) (word_of b 2 width) (b 2)

module _ (b : ℕ → Bool) where
  pub held_as : {p q : Bool} → b 0 ≡ p → b 1 ≡ q → held b ≡ shape p q (word_of b 2 width) (b 2)
  held_as e f = rw (e, f)

  pub held_word : is_word (held b) ≡ (b 0 && not (b 1))
  unfolding is_word
  held_word = go (b 0) (b 1)
    where
      go : (p q : Bool) → eqb (shape p q (word_of b 2 width) (b 2)).sort word_term ≡ (p && not q)
      go true true = refl
      go true false = refl
      go false true = refl
      go false false = refl

  pub held_procedure : eqb (held b).sort procedure_term ≡ (not (b 0) && b 1)
  held_procedure = go (b 0) (b 1)
    where
      go : (p q : Bool) → eqb (shape p q (word_of b 2 width) (b 2)).sort procedure_term ≡ (not p && q)
      go true true = refl
      go true false = refl
      go false true = refl
      go false false = refl

  pub held_passes : (if (held b).sort equals 0 then truth_reading false else truth_reading (passes (held b))) ≡ truth_reading (cond (b 0) (not (b 1)) (b 1 || b 2))
  unfolding passes if◌equals◌then◌else◌
  held_passes = go (b 0) (b 1) (b 2)
    where
      go : (p q r : Bool)
          → pick (eqb (shape p q (word_of b 2 width) r).sort 0) (truth_reading false) (truth_reading (pick (eqb (shape p q (word_of b 2 width) r).sort truth_term) (eqb (shape p q (word_of b 2 width) r).number 1) true))
          ≡ truth_reading (cond p (not q) (q || r))
      go true true r = refl
      go true false r = refl
      go false true r = refl
      go false false true = refl
      go false false false = refl

  -- a truth's wires
  pub record Truths : Type 0 where
    pub kind : b 0 ≡ false
    pub other : b 1 ≡ false

  pub held_truth : is_truth (held b) ≡ true → Truths
  unfolding is_truth
  held_truth = go (b 0) (b 1) refl refl
    where
      go : (p q : Bool) → b 0 ≡ p → b 1 ≡ q → eqb (shape p q (word_of b 2 width) (b 2)).sort truth_term ≡ true → Truths
      go true true e f h = never h
      go true false e f h = never h
      go false true e f h = never h
      go false false e f h = record { kind = e; other = f }

  pub truth_held : Truths → is_true (held b) ≡ b 2
  unfolding is_true if◌equals◌then◌else◌
  truth_held h = rw (h.kind, h.other) (go (b 2))
    where
      go : (c : Bool) → eqb (bit_of c) 1 ≡ c
      go true = refl
      go false = refl
