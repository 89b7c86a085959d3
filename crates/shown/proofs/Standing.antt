-- A reading as it stands in an answer, with 0 for each constant input: it lies in the box that is searched, comes no later, and reads the same.
-- Assumes nothing.
use mathlib.Core.Path.{◌≡◌, refl, ap, ◌∙◌}
use mathlib.Core.Bool.{Bool, true, false}
use mathlib.Core.List.{List, [], ◌∷◌}
use Prim.Native.Nat.{ℕ, zero, suc, ◌<◌, ◌≤◌}
use native.Mathlib.Omega.{arith}
use lib.Dec.{eqb}
use lib.ListN.{length, get_or, replicate}
use borrow.Author.Tests.{eqb-true, eqb-false}
use Rattle.notation.specs.Notation.{pick, when◌then◌else◌, if◌equals◌then◌else◌}
use Rattle.words.specs.Words.{last_word}
use Rattle.semantics.specs.declared.Term.{Term}
use Rattle.semantics.specs.declared.Input.{Input}
use Rattle.semantics.specs.declared.Result.{Result}
use Rattle.semantics.specs.declared.Session.{Session}
use Rattle.semantics.specs.Numbers.{free_truth, free_word, input_count}
use Rattle.semantics.specs.Terms.{terms_in, at}
use Rattle.semantics.specs.Fits.{fits_of}
use Rattle.semantics.specs.Reading.{readings, read_in}
use Rattle.semantics.specs.Spans.{end_of}
use Rattle.firsts.specs.Witness.{least_of, greatest_of}
use Rattle.semantics.proofs.Spans.{ends_at, ends_length}
use Rattle.soundness.proofs.Inputs.{All}
use Rattle.certainty.specs.Certain.{no_input}
use Rattle.certainty.proofs.Ends.{number_taken_lem}
use Rattle.certainty.proofs.Free.{Free, fitting}
use Rattle.firsts.specs.Firsts.{InBox, end, one, Before, here, later}
use Rattle.firsts.proofs.Ends.{given, same_at}
use Rattle.firsts.proofs.Stood.{Agree, stood_on}
use Rattle.shown.specs.Shown.{Counts}

-- ---- with 0 for each constant
unfoldable pub stand_of : Input → ℕ → ℕ
stand_of x n = if x.kind equals free_word then n else if x.kind equals free_truth then n else 0

unfoldable pub standing : List Input → List ℕ → List ℕ
standing [] ns = []
standing (x ∷ xs) [] = []
standing (x ∷ xs) (n ∷ ns) = stand_of x n ∷ standing xs ns

stand_low : (x : Input) (n : ℕ) → stand_of x n ≤ n
unfolding stand_of if◌equals◌then◌else◌
stand_low x n = go (eqb x.kind free_word) (eqb x.kind free_truth)
  where
    go : (b c : Bool) → pick b n (pick c n 0) ≤ n
    go true c = omega arith
    go false true = omega arith
    go false false = omega arith

standing_length : (xs : List Input) (ns : List ℕ) → length xs ≡ length ns → length (standing xs ns) ≡ length ns
unfolding standing
standing_length [] [] e = refl
standing_length [] (n ∷ ns) e = absurd (omega arith)
standing_length (x ∷ xs) [] e = absurd (omega arith)
standing_length (x ∷ xs) (n ∷ ns) e = ap suc (standing_length xs ns (omega arith))

standing_at : (xs : List Input) (ns : List ℕ) (i : ℕ) → i < length xs → i < length ns → get_or (standing xs ns) i 0 ≡ stand_of (get_or xs i no_input) (get_or ns i 0)
unfolding standing
standing_at [] ns i h l = absurd (omega arith)
standing_at (x ∷ xs) [] i h l = absurd (omega arith)
standing_at (x ∷ xs) (n ∷ ns) zero h l = refl
standing_at (x ∷ xs) (n ∷ ns) (suc i) h l = standing_at xs ns i (omega arith) (omega arith)

-- it comes no later
pub standing_before : (xs : List Input) {ms ns : List ℕ} → length xs ≡ length ms → Before ms ns → Before (standing xs ms) ns
unfolding standing
standing_before [] e (here l) = absurd (omega arith)
standing_before [] e (later b) = absurd (omega arith)
standing_before (x ∷ xs) e (here {n = n} {m = m} l) = here {n = stand_of x n} {m = m} (omega (arith, stand_low x n, l))
standing_before (x ∷ xs) e (later {n = n} b) = go (eqb (stand_of x n) n) refl (standing_before xs (omega arith) b)
  where
    go : {ms ns : List ℕ} (c : Bool) → eqb (stand_of x n) n ≡ c → Before ms ns → Before (stand_of x n ∷ ms) (n ∷ ns)
    go true q b = rw (eqb-true (stand_of x n) n q) (later b)
    go false q b = here {n = stand_of x n} {m = n} (omega (arith, stand_low x n, eqb-false (stand_of x n) n q))

-- ---- a list of numbers that lie between two others lies in their box
pub in_box : (ls hs ns : List ℕ) → length ls ≡ length ns → length hs ≡ length ns → ((i : ℕ) → i < length ns → (get_or ls i 0 ≤ get_or ns i 0) × (get_or ns i 0 ≤ get_or hs i 0)) → InBox ls hs ns
in_box [] hs [] a b f = end
in_box (l ∷ ls) hs [] a b f = absurd (omega arith)
in_box [] hs (n ∷ ns) a b f = absurd (omega arith)
in_box (l ∷ ls) [] (n ∷ ns) a b f = absurd (omega arith)
in_box (l ∷ ls) (h ∷ hs) (n ∷ ns) a b f = let z = f 0 (omega arith) in one z.0 z.1 (in_box ls hs ns (omega arith) (omega arith) (λ i k. f (suc i) (omega arith)))

-- ---- the ends of spans, or of none
module _ (xs : List Input) (spanned : Bool) (lows highs : List ℕ) (n : length xs ≡ input_count) (nl : length lows ≡ input_count) (nh : length highs ≡ input_count) where
  -- input i's low, and its high
  abbrev pub low : ℕ → ℕ
  low i = get_or (pick spanned lows (replicate input_count 0)) i 0

  abbrev pub high : ℕ → ℕ
  high i = get_or (pick spanned highs (replicate input_count last_word)) i 0

  pub least_length : length (least_of spanned xs lows) ≡ input_count
  unfolding least_of when◌then◌else◌
  least_length = let g = given spanned lows 0 nl in ends_length 0 xs (pick spanned lows (replicate input_count 0)) (omega arith) ∙ g

  pub greatest_length : length (greatest_of spanned xs highs) ≡ input_count
  unfolding greatest_of when◌then◌else◌
  greatest_length = let g = given spanned highs last_word nh in ends_length 1 xs (pick spanned highs (replicate input_count last_word)) (omega arith) ∙ g

  pub least_at : (i : ℕ) → i < input_count → get_or (least_of spanned xs lows) i 0 ≡ end_of 0 (get_or xs i no_input) (low i)
  unfolding least_of when◌then◌else◌
  least_at i h = let g = given spanned lows 0 nl in ends_at 0 xs (pick spanned lows (replicate input_count 0)) i no_input (omega arith) (omega arith)

  pub greatest_at : (i : ℕ) → i < input_count → get_or (greatest_of spanned xs highs) i 0 ≡ end_of 1 (get_or xs i no_input) (high i)
  unfolding greatest_of when◌then◌else◌
  greatest_at i h = let g = given spanned highs last_word nh in ends_at 1 xs (pick spanned highs (replicate input_count last_word)) i no_input (omega arith) (omega arith)

  -- ---- a reading that counts, as it stands, lies in the box
  module _ (ms : List ℕ) (counts : Counts xs spanned lows highs ms) where
    -- a free word's number lies in its span
    word_in : (i : ℕ) → i < input_count → (get_or xs i no_input).kind ≡ free_word → (low i ≤ get_or ms i 0) × (get_or ms i 0 ≤ high i)
    word_in i h k = go spanned counts.inside
      where
        go : (b : Bool) → (b ≡ true → (j : ℕ) → j < input_count → (get_or xs j no_input).kind ≡ free_word → (get_or lows j 0 ≤ get_or ms j 0) × (get_or ms j 0 ≤ get_or highs j 0))
            → (get_or (pick b lows (replicate input_count 0)) i 0 ≤ get_or ms i 0) × (get_or ms i 0 ≤ get_or (pick b highs (replicate input_count last_word)) i 0)
        go true f = f refl i h k
        go false f = let w = counts.words i in rw (same_at 0 input_count i h, same_at last_word input_count i h) (omega arith, omega arith)

    number_in : (i : ℕ) → i < input_count → (get_or (least_of spanned xs lows) i 0 ≤ get_or (standing xs ms) i 0) × (get_or (standing xs ms) i 0 ≤ get_or (greatest_of spanned xs highs) i 0)
    unfolding end_of stand_of if◌equals◌then◌else◌
    number_in i h =
        let m = counts.sixteen in
        rw (least_at i h, greatest_at i h, standing_at xs ms i (omega arith) (omega arith)) (go (eqb (get_or xs i no_input).kind free_word) (eqb (get_or xs i no_input).kind free_truth) refl refl)
      where
        go : (b c : Bool) → eqb (get_or xs i no_input).kind free_word ≡ b → eqb (get_or xs i no_input).kind free_truth ≡ c
            → (pick b (low i) (pick c 0 0) ≤ pick b (get_or ms i 0) (pick c (get_or ms i 0) 0)) × (pick b (get_or ms i 0) (pick c (get_or ms i 0) 0) ≤ pick b (high i) (pick c 1 0))
        go true c p q = word_in i h (eqb-true _ _ p)
        go false true p q = let m = counts.sixteen in let t = number_taken_lem xs ms counts.taken i (omega arith) (omega arith) (eqb-true _ _ q) in (omega arith, omega arith)
        go false false p q = (omega arith, omega arith)

    pub stands_in : InBox (least_of spanned xs lows) (greatest_of spanned xs highs) (standing xs ms)
    stands_in =
        let m = counts.sixteen in let l = standing_length xs ms (omega arith) in let a = least_length in let b = greatest_length in
        in_box (least_of spanned xs lows) (greatest_of spanned xs highs) (standing xs ms) (omega arith) (omega arith) (λ i k. number_in i (omega arith))

-- ---- and it reads the same: a free term names a free input

-- what holds of each term
all_at : (P : Term → Type 0) (ts : List Term) → All P ts → (k : ℕ) → k < length ts → P (at ts k)
unfolding at if◌equals◌then◌else◌
all_at P [] a k l = absurd (omega arith)
all_at P (t ∷ ts) a k l = go (eqb k (length ts)) refl (all_at P ts a.1 k)
  where
    go : (b : Bool) → eqb k (length ts) ≡ b → (k < length ts → P (at ts k)) → P (pick b t (at ts k))
    go true q r = a.0
    go false q r = r (omega (arith, eqb-false k (length ts) q))

-- a free input's number stands
module _ (xs : List Input) (ms : List ℕ) (i : ℕ) (h : i < length xs) (l : i < length ms) where
  free_word_lem : (get_or xs i no_input).kind ≡ free_word → get_or (standing xs ms) i 0 ≡ get_or ms i 0
  unfolding stand_of if◌equals◌then◌else◌
  free_word_lem k = standing_at xs ms i h l ∙ rw k

  free_truth_lem : (get_or xs i no_input).kind ≡ free_truth → get_or (standing xs ms) i 0 ≡ get_or ms i 0
  unfolding stand_of if◌equals◌then◌else◌
  free_truth_lem k = standing_at xs ms i h l ∙ rw k

pub stands_read : (x : Session) (s ms : List ℕ) (r : Result) → length x.inputs ≡ input_count → length ms ≡ input_count → fits_of x s ≡ true
    → read_in (readings (standing x.inputs ms) (terms_in s x.count)) r ≡ read_in (readings ms (terms_in s x.count)) r
stands_read x s ms r n m fits =
    stood_on (standing x.inputs ms) ms (terms_in s x.count) r (λ k l u. agrees (at (terms_in s x.count) k) (all_at (Free x.inputs) (terms_in s x.count) (fitting x s n fits).free k l))
  where
    agrees : (t : Term) → Free x.inputs t → Agree (standing x.inputs ms) ms t
    agrees t f =
        record {
          truth = λ k. let z = f.truth k in free_truth_lem x.inputs ms t.a z.0 (omega (arith, z.0, n, m)) z.1;
          word = λ k. let z = f.word k in free_word_lem x.inputs ms t.a z.0 (omega (arith, z.0, n, m)) z.1;
        }
