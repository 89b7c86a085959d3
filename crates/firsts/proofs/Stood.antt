-- The inputs that a result stands on: those that the free terms under it name. Two readings that agree on them read the same, so that the other inputs
-- need not be tried. Assumes nothing.
use mathlib.Core.Path.{◌≡◌, refl, sym, ap, ◌∙◌}
use mathlib.Core.Bool.{Bool, true, false}
use mathlib.Core.List.{List, [], ◌∷◌}
use Prim.Native.Nat.{ℕ, ◌<◌, ◌≤◌}
use native.Mathlib.Omega.{arith}
use lib.Dec.{eqb}
use lib.ListN.{length, get_or, set}
use lib.Seq.{get_or-set_other}
use borrow.Author.Tests.{eqb-true, eqb-false, ne_eqb, eq-eqb}
use Rattle.notation.specs.Notation.{with, if◌equals◌then◌else◌}
use Rattle.semantics.specs.declared.Term.{Term}
use Rattle.semantics.specs.declared.Goal.{Goal}
use Rattle.semantics.specs.declared.Result.{Result}
use Rattle.semantics.specs.declared.Reading.{Reading}
use Rattle.semantics.specs.Numbers.{free_truth_term, free_word_term}
use Rattle.semantics.specs.Terms.{at}
use Rattle.semantics.specs.Fold.{FromLower, fold_at}
use Rattle.semantics.specs.Reading.{nothing, term_reading, readings, read_in}
use Rattle.semantics.specs.Under.{under_of, ReadFrom, Closed}
use Rattle.firsts.specs.Witness.{reaches, reached_at}
use Rattle.semantics.proofs.Fold.{fold_newest, fold_lower, fold_past}
use Rattle.semantics.proofs.Under.{same_step, under_closed, read_under}
use Rattle.firsts.proofs.Boxes.{Apart}

-- the numbers of a free term's input agree
pub record Agree (ns ms : List ℕ) (t : Term) : Type 0 where
  pub truth : t.kind ≡ free_truth_term → get_or ns t.a 0 ≡ get_or ms t.a 0
  pub word : t.kind ≡ free_word_term → get_or ns t.a 0 ≡ get_or ms t.a 0

module _ (ns ms : List ℕ) where
  -- a term of the same readings
  term_agrees : (t : Term) (x y z : Reading) → Agree ns ms t → term_reading ns t x y z ≡ term_reading ms t x y z
  unfolding term_reading with if◌equals◌then◌else◌
  term_agrees t x y z g = go (eqb t.kind free_truth_term) (eqb t.kind free_word_term) refl refl
    where
      go : (b c : Bool) → eqb t.kind free_truth_term ≡ b → eqb t.kind free_word_term ≡ c → term_reading ns t x y z ≡ term_reading ms t x y z
      go true c p q = let k = eqb-true t.kind free_truth_term p in rw (k, g.truth k)
      go false true p q = let k = eqb-true t.kind free_word_term q in rw (k, g.word k)
      go false false p q = rw (p, q)

  -- the marked terms, each read from marked ones
  fold_agrees : (ts : List Term) (m : ℕ → Bool) → Closed ts m → ((k : ℕ) → k < length ts → m k ≡ true → Agree ns ms (at ts k))
      → (k : ℕ) → m k ≡ true → fold_at (term_reading ns) nothing ts k ≡ fold_at (term_reading ms) nothing ts k
  unfolding at
  fold_agrees [] m c s k h = fold_past (term_reading ns) nothing [] k (omega arith) ∙ sym (fold_past (term_reading ms) nothing [] k (omega arith))
  fold_agrees (t ∷ ts) m c s k h = go (eqb k (length ts)) refl (fold_agrees ts m closed same)
    where
      f : FromLower Reading
      f = term_reading ns

      g : FromLower Reading
      g = term_reading ms

      closed : Closed ts m
      closed i j l p q = c i j (omega arith) p (rw (ne_eqb i (length ts) (λ e. omega arith)) q)

      same : (j : ℕ) → j < length ts → m j ≡ true → Agree ns ms (at ts j)
      same j l p = rw (ne_eqb j (length ts) (λ e. omega arith)) at (s j (omega arith) p)

      go : (b : Bool) → eqb k (length ts) ≡ b → ((j : ℕ) → m j ≡ true → fold_at f nothing ts j ≡ fold_at g nothing ts j) → fold_at f nothing (t ∷ ts) k ≡ fold_at g nothing (t ∷ ts) k
      go true q r =
          let n : k ≡ length ts = eqb-true k (length ts) q in
          let agree : Agree ns ms t = rw (eq-eqb k (length ts) n) at (s k (omega arith) h) in
          let past : (j : ℕ) → length ts ≤ j → fold_at f nothing ts j ≡ fold_at g nothing ts j = λ j l. fold_past f nothing ts j l ∙ sym (fold_past g nothing ts j l) in
          let lower : (j : ℕ) → ReadFrom (length ts) t j → fold_at f nothing ts j ≡ fold_at g nothing ts j = λ j p. r j (c k j (omega arith) h (rw (q, n) p)) in
          ap (fold_at f nothing (t ∷ ts)) n ∙ (fold_newest f nothing t ts ∙ (same_step ns (length ts) t _ _ past lower ∙ (term_agrees t _ _ _ agree ∙ (sym (fold_newest g nothing t ts) ∙ ap (fold_at g nothing (t ∷ ts)) (sym n)))))
      go false q r = let d = eqb-false k (length ts) q in fold_lower f nothing t ts k d ∙ (r k h ∙ sym (fold_lower g nothing t ts k d))

  -- Two readings that agree on the inputs that a result stands on read the same.
  pub stood_on : (ts : List Term) (r : Result) → ((k : ℕ) → k < length ts → under_of ts r k ≡ true → Agree ns ms (at ts k)) → read_in (readings ns ts) r ≡ read_in (readings ms ts) r
  unfolding read_in readings
  stood_on ts r s =
      read_under ts r (fold_at (term_reading ns) nothing ts) (fold_at (term_reading ms) nothing ts)
      (λ k l. fold_past (term_reading ns) nothing ts k l ∙ sym (fold_past (term_reading ms) nothing ts k l))
      (fold_agrees ts (under_of ts r) (under_closed ts r) s)

-- ---- an input that no free term under the result names does not matter
abbrev pub NotNamed : List Term → Result → ℕ → Type 0
NotNamed ts r i = (k : ℕ) → k < length ts → under_of ts r k ≡ true → (t : Term) → at ts k ≡ t → (t.kind ≡ free_truth_term → t.a ≡ i → ⊥) × (t.kind ≡ free_word_term → t.a ≡ i → ⊥)

pub reached_apart : (g : Goal) (r : Result) (ts : List Term) (i : ℕ) → NotNamed ts r i → Apart (reached_at g r ts) i
unfolding reached_at
reached_apart g r ts i unnamed ns n = ap (reaches g) (stood_on (set ns i n) ns ts r agrees)
  where
    agrees : (k : ℕ) → k < length ts → under_of ts r k ≡ true → Agree (set ns i n) ns (at ts k)
    agrees k l u =
        let z = unnamed k l u (at ts k) refl in
        record { truth = λ e. get_or-set_other ns i (at ts k).a n 0 (z.0 e); word = λ e. get_or-set_other ns i (at ts k).a n 0 (z.1 e) }
