-- Numbers within the spans lie between the ends of each free input, and 17 does not refuse spans that have such numbers. Assumes nothing.
use mathlib.Core.Path.{◌≡◌, refl}
use mathlib.Core.Bool.{Bool, true, false}
use mathlib.Core.List.{List, [], ◌∷◌}
use Prim.Native.Nat.{ℕ, zero, suc, ◌<◌, ◌≤◌}
use native.Mathlib.Omega.{arith}
use lib.Dec.{eqb, ltb, leb}
use lib.ListN.{length, get_or}
use borrow.Author.Tests.{eqb-true, ltb-true, le-leb}
use Rattle.notation.specs.Notation.{pick, if◌equals◌then◌else◌}
use Rattle.words.specs.Words.{word_limit}
use Rattle.semantics.specs.declared.Input.{Input}
use Rattle.semantics.specs.Numbers.{free_truth, free_word, input_count}
use Rattle.semantics.specs.Reading.{numbers_taken}
use Rattle.semantics.specs.Spans.{end_of, ends_of, span_taken, spans_taken}
use Rattle.semantics.proofs.Spans.{ends_at}
use Rattle.typing.proofs.Formed.{both}
use Rattle.certainty.specs.Certain.{Words, no_input, Within}
use Rattle.certainty.proofs.Reports.{Between}

-- a free truth's number is 0 or 1, where 13 does not refuse it
pub number_taken_lem : (xs : List Input) (ns : List ℕ) → numbers_taken xs ns ≡ true → (i : ℕ) → i < length xs → i < length ns → (get_or xs i no_input).kind ≡ free_truth → get_or ns i 0 < 2
unfolding numbers_taken if◌equals◌then◌else◌
number_taken_lem [] ns h i l m k = absurd (omega arith)
number_taken_lem (x ∷ xs) [] h i l m k = absurd (omega arith)
number_taken_lem (x ∷ xs) (n ∷ ns) h zero l m k = both (pick (eqb x.kind free_truth) (ltb n 2) true) (numbers_taken xs ns) h λ p q. ltb-true n 2 (rw k at p)
number_taken_lem (x ∷ xs) (n ∷ ns) h (suc i) l m k =
    both (pick (eqb x.kind free_truth) (ltb n 2) true) (numbers_taken xs ns) h λ p q. number_taken_lem xs ns q i (omega arith) (omega arith) k

-- ---- 17, of any spans

-- one input's
span_taken_lem : (x : Input) (l h : ℕ) → (x.kind ≡ free_word → l ≤ h) → span_taken x l h ≡ true
unfolding span_taken if◌equals◌then◌else◌
span_taken_lem x l h f = go (eqb x.kind free_word) refl
  where
    go : (b : Bool) → eqb x.kind free_word ≡ b → pick b (leb l h) true ≡ true
    go true e = le-leb l h (f (eqb-true _ _ e))
    go false e = refl

-- those of all
spans_each : (ys : List Input) (ls hs : List ℕ) → ((i : ℕ) → i < length ys → (get_or ys i no_input).kind ≡ free_word → get_or ls i 0 ≤ get_or hs i 0) → spans_taken ys ls hs ≡ true
unfolding spans_taken
spans_each [] ls hs f = refl
spans_each (y ∷ ys) [] hs f = refl
spans_each (y ∷ ys) (l ∷ ls) [] f = refl
spans_each (y ∷ ys) (l ∷ ls) (h ∷ hs) f = rw (span_taken_lem y l h (f 0 (omega arith)), spans_each ys ls hs (λ i k. f (suc i) (omega arith)))

-- ---- numbers within the spans
module _ (xs : List Input) (lows highs ns : List ℕ) (sixteen : length xs ≡ input_count) (nl : length lows ≡ input_count) (nh : length highs ≡ input_count) (within : Within xs lows highs ns) where
  module _ (words : Words highs) (i : ℕ) (l : i < length xs) where
    -- "a free truth both truths"
    pub truth_between : (get_or xs i no_input).kind ≡ free_truth → Between 2 (ends_of 0 xs lows) (ends_of 1 xs highs) ns i
    unfolding end_of if◌equals◌then◌else◌
    truth_between k =
        let n = within.sixteen in
        let a : get_or (ends_of 0 xs lows) i 0 ≡ 0 = rw k at (ends_at 0 xs lows i no_input l (omega arith)) in
        let b : get_or (ends_of 1 xs highs) i 0 ≡ 1 = rw k at (ends_at 1 xs highs i no_input l (omega arith)) in
        let z = number_taken_lem xs ns within.taken i l (omega arith) k in
        record { from_low = omega arith; to_high = omega arith; small = omega arith }

    -- a free word its own span
    pub word_between : (get_or xs i no_input).kind ≡ free_word → Between word_limit (ends_of 0 xs lows) (ends_of 1 xs highs) ns i
    unfolding end_of if◌equals◌then◌else◌
    word_between k =
        let a : get_or (ends_of 0 xs lows) i 0 ≡ get_or lows i 0 = rw k at (ends_at 0 xs lows i no_input l (omega arith)) in
        let b : get_or (ends_of 1 xs highs) i 0 ≡ get_or highs i 0 = rw k at (ends_at 1 xs highs i no_input l (omega arith)) in
        let z = within.inside i (omega arith) k in let c = z.0 in let d = z.1 in let w = words i in
        record { from_low = omega arith; to_high = omega arith; small = omega arith }

  -- some number lies in each span, so that no low exceeds its high
  pub spans_taken_lem : spans_taken xs lows highs ≡ true
  spans_taken_lem = spans_each xs lows highs (λ i l k. let z = within.inside i (omega arith) k in omega (arith, z.0, z.1))
