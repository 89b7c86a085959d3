-- The halves of a box: ordered and ready as it was, and closer. What is found in them is what is found in the box. Assumes nothing.
use mathlib.Core.Path.{◌≡◌, refl, sym, subst, ◌∙◌}
use mathlib.Core.Bool.{Bool, true, false}
use Rattle.std.specs.declared.option.Option.{Option}
use Rattle.std.specs.declared.option.Option.TheVariants.{None, Some}
use mathlib.Core.List.{List, [], ◌∷◌}
use Prim.Native.Nat.{ℕ, zero, suc, ◌+◌, ◌*◌, ◌^◌, ◌<◌, ◌≤◌}
use native.Mathlib.Nat.{mul-le-mul}
use native.Mathlib.Omega.{arith}
use lib.Dec.{eqb}
use lib.ListN.{length, get_or, set}
use lib.Seq.{get_or-set_same, get_or-set_other}
use borrow.Author.Tests.{eqb-true, eqb-false}
use Rattle.notation.specs.Notation.{pick, when◌then◌else◌}
use Rattle.words.specs.Words.{word_limit}
use Rattle.semantics.specs.declared.Term.{Term}
use Rattle.semantics.specs.declared.Goal.{Goal}
use Rattle.semantics.specs.declared.Result.{Result}
use Rattle.semantics.specs.declared.Outcome.{Outcome}
use Rattle.semantics.specs.Numbers.{input_count}
use Rattle.semantics.specs.Terms.{terms_in}
use Rattle.semantics.specs.Reading.{readings, read_in}
use Rattle.firsts.specs.Witness.{reaches, reached_at, First, none, some, first_reached}
use Rattle.semantics.proofs.Fold.{Each}
use Rattle.marked.specs.Marked.{Under}
use Rattle.boxes.specs.Boxes.{Ranges, Ready, NotReached}
use Rattle.firsts.proofs.Nested.{or_else, first_nested}
use Rattle.firsts.proofs.Boxes.{box_split, box_single, box_none, in_low, in_high}
use Rattle.witness.specs.Told.{numbers_of}
use Rattle.witness.specs.Search.{Ordered, OpenAt, Single, FirstAt, middle_of, spread, SearchedFor, single_hit, Searched}

-- ---- lower highs are as ready
pub ready_lower : (s : List ℕ) (count : ℕ) (hs ts : List ℕ) → ((j : ℕ) → get_or ts j 0 ≤ get_or hs j 0) → Ready s count hs → Ready s count ts
ready_lower s count hs ts low r = record { accepted = r.accepted; each = go (terms_in s count) r.each; words = λ j. omega (arith, low j, r.words j) }
  where
    go : (us : List Term) → Each (Ranges r.accepted hs) us → Each (Ranges r.accepted ts) us
    go [] e = tt
    go (t ∷ us) e = (record { laid = e.0.laid; constant = e.0.constant; truth = λ k. omega (arith, low t.a, e.0.truth k) }, go us e.1)

-- ---- a number put at i
set_at : (P : ℕ → ℕ → Type 0) (l : List ℕ) (i m : ℕ) → i < length l → P i m → ((j : ℕ) → P j (get_or l j 0)) → (j : ℕ) → P j (get_or (set l i m) j 0)
set_at P l i m h p f j = go (eqb j i) refl
  where
    go : (b : Bool) → eqb j i ≡ b → P j (get_or (set l i m) j 0)
    go true e = subst (λ n. P n (get_or (set l i m) n 0)) (sym (eqb-true j i e)) (rw (get_or-set_same l i m 0 h) p)
    go false e = rw (get_or-set_other l i j m 0 (eqb-false j i e)) (f j)

-- the middle lies between
middle_low : (l h : ℕ) → l ≤ middle_of l h
unfolding middle_of
middle_low l h = omega arith

middle_high : (l h : ℕ) → l < h → middle_of l h < h
unfolding middle_of
middle_high l h p = omega arith

-- ---- the measure
spread_below : (ls hs : List ℕ) (i m : ℕ) → i < length ls → i < length hs → get_or ls i 0 ≤ m → m < get_or hs i 0 → spread ls (set hs i m) < spread ls hs
unfolding spread
spread_below [] hs i m a b c d = absurd (omega arith)
spread_below (l ∷ ls) [] i m a b c d = absurd (omega arith)
spread_below (l ∷ ls) (h ∷ hs) zero m a b c d = omega arith
spread_below (l ∷ ls) (h ∷ hs) (suc i) m a b c d = let z = spread_below ls hs i m (omega arith) (omega arith) c d in omega arith

spread_above : (ls hs : List ℕ) (i m : ℕ) → i < length ls → i < length hs → get_or ls i 0 ≤ m → m < get_or hs i 0 → spread (set ls i (m + 1)) hs < spread ls hs
unfolding spread
spread_above [] hs i m a b c d = absurd (omega arith)
spread_above (l ∷ ls) [] i m a b c d = absurd (omega arith)
spread_above (l ∷ ls) (h ∷ hs) zero m a b c d = omega arith
spread_above (l ∷ ls) (h ∷ hs) (suc i) m a b c d = let z = spread_above ls hs i m (omega arith) (omega arith) c d in omega arith

-- ---- the halves
module _ (ls hs : List ℕ) (nl : length ls ≡ input_count) (nh : length hs ≡ input_count) (i : ℕ) where
  -- the first input that is not one value has room
  pub open_at : FirstAt ls hs i → Ordered ls hs → OpenAt ls hs i
  open_at f o = record { input = f.within; room = omega (arith, o.at i, f.apart) }

  module _ (a : OpenAt ls hs i) where
    abbrev m : ℕ
    m = middle_of (get_or ls i 0) (get_or hs i 0)

    low : get_or ls i 0 ≤ m
    low = middle_low (get_or ls i 0) (get_or hs i 0)

    high : m < get_or hs i 0
    high = middle_high (get_or ls i 0) (get_or hs i 0) a.room

    in_lows : i < length ls
    in_lows = omega (arith, a.input, nl)

    in_highs : i < length hs
    in_highs = omega (arith, a.input, nh)

    pub below_less : {t : ℕ} → spread ls hs ≡ t → {bs ts : List ℕ} → bs ≡ ls → ts ≡ set hs i m → spread bs ts < t
    below_less q d e = rw (← q, d, e) (spread_below ls hs i m in_lows in_highs low high)

    pub above_less : {t : ℕ} → spread ls hs ≡ t → {bs ts : List ℕ} → bs ≡ set ls i (m + 1) → ts ≡ hs → spread bs ts < t
    above_less q d e = rw (← q, d, e) (spread_above ls hs i m in_lows in_highs low high)

    module _ (s : List ℕ) (count : ℕ) (r : Result) (work : List ℕ) (u : Under s count r work) (o : Ordered ls hs) (d : Ready s count hs) where
      pub below_for : {bs ts : List ℕ} → bs ≡ ls → ts ≡ set hs i m → SearchedFor s count r bs ts work
      below_for q e =
          rw (q, e) (record {
            under = u;
            ordered = record { at = set_at (λ j n. get_or ls j 0 ≤ n) hs i m in_highs low o.at };
            ready = ready_lower s count hs (set hs i m) (set_at (λ j n. n ≤ get_or hs j 0) hs i m in_highs (omega (arith, high)) (λ j. omega arith)) d;
          })

      pub above_for : {bs ts : List ℕ} → bs ≡ set ls i (m + 1) → ts ≡ hs → SearchedFor s count r bs ts work
      above_for e q =
          rw (e, q) (record { under = u; ordered = record { at = set_at (λ j n. n ≤ get_or hs j 0) ls i (m + 1) in_lows (omega (arith, high)) o.at }; ready = d })

    module _ (s : List ℕ) (count : ℕ) (r : Result) (g : Goal) (f : FirstAt ls hs i) where
      abbrev p : List ℕ → Bool
      p = reached_at g r (terms_in s count)

      split : first_reached (terms_in s count) r g ls hs ≡ or_else (first_reached (terms_in s count) r g ls (set hs i m)) (first_reached (terms_in s count) r g (set ls i (m + 1)) hs)
      unfolding first_reached
      split = rw (first_nested p ls hs, first_nested p ls (set hs i m), first_nested p (set ls i (m + 1)) hs) (box_split p i m ls hs f.single in_lows in_highs low high)

      -- the halves, as the search makes them
      module _ {bs ts : List ℕ} (el : bs ≡ ls) (et : ts ≡ set hs i m) {h : Option (List ℕ)} (q : Searched s count r g bs ts h) where
        lower : h ≡ numbers_of (first_reached (terms_in s count) r g ls (set hs i m))
        lower = rw (el, et) at q

        -- what is found in the lower half is the first
        pub half_hit : {ns : List ℕ} → h ≡ Some ns → Searched s count r g ls hs (Some ns)
        half_hit {ns} t = sym t ∙ rw split (go (first_reached (terms_in s count) r g ls (set hs i m)) lower t)
          where
            go : (x : First) → h ≡ numbers_of x → h ≡ Some ns → h ≡ numbers_of (or_else x (first_reached (terms_in s count) r g (set ls i (m + 1)) hs))
            go none q t = cc
            go (some ms) q t = q

        -- else the first of the upper half is
        pub half_miss : h ≡ None → {cs us : List ℕ} {k : Option (List ℕ)} → cs ≡ set ls i (m + 1) → us ≡ hs → Searched s count r g cs us k → Searched s count r g ls hs k
        half_miss t {cs} {us} {k} b u w = rw split (go (first_reached (terms_in s count) r g ls (set hs i m)) lower t)
          where
            go : (x : First) → h ≡ numbers_of x → h ≡ None → k ≡ numbers_of (or_else x (first_reached (terms_in s count) r g (set ls i (m + 1)) hs))
            go none q t = rw (b, u) at w
            go (some ms) q t = cc

-- ---- a single reading
module _ (g : Goal) (r : Result) (ts : List Term) (ns : List ℕ) {o : Outcome} (eo : o ≡ read_in (readings ns ts) r) {b : Bool} (eb : b ≡ reaches g o) where
  pub single_found : b ≡ true → Some ns ≡ single_hit (reached_at g r ts ns) ns
  unfolding reached_at
  single_found h = rw (← eo, ← eb, h)

  pub single_missed : b ≡ false → None ≡ single_hit (reached_at g r ts ns) ns
  unfolding reached_at
  single_missed h = rw (← eo, ← eb, h)

-- ---- no halves
module _ (s : List ℕ) (count : ℕ) (r : Result) (g : Goal) (ls hs : List ℕ) where
  -- a box of one reading
  pub one_found : length ls ≡ input_count → length hs ≡ input_count → Single ls hs input_count → {h : Option (List ℕ)} → h ≡ single_hit (reached_at g r (terms_in s count) ls) ls → Searched s count r g ls hs h
  unfolding first_reached when◌then◌else◌
  one_found nl nh f q =
      rw (first_nested (reached_at g r (terms_in s count)) ls hs, box_single (reached_at g r (terms_in s count)) ls hs (omega arith) (λ j k. f j (omega arith)))
      (q ∙ go (reached_at g r (terms_in s count) ls))
    where
      go : (b : Bool) → single_hit b ls ≡ numbers_of (pick b (some ls) none)
      go true = refl
      go false = refl

  -- one that is passed over
  pub passed_over : NotReached s count r g ls hs → Searched s count r g ls hs None
  unfolding first_reached
  passed_over n =
      rw (first_nested (reached_at g r (terms_in s count)) ls hs, box_none (reached_at g r (terms_in s count)) ls hs (λ ns b. n ns (record { low = in_low b; high = in_high b })))

-- a count of few bits for each input stays below 2 ^ 32
pub product_small : (n x : ℕ) → n < 32 → x ≤ word_limit → n * x < 2 ^ 32
product_small n x h l = let p : n * x ≤ 32 * word_limit = mul-le-mul {n₁ = n} {n₂ = 32} (omega arith) l in omega arith
