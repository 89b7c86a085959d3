-- WITNESS REACHES, WITNESS FIRST, NONE MEANS NONE. Assumes nothing.
use mathlib.Core.Path.{◌≡◌, refl, sym, ap, subst, ◌∙◌}
use mathlib.Core.Bool.{Bool, true, false, false≢true}
use mathlib.Core.List.{List}
use Prim.Native.Nat.{ℕ, ◌<◌, ◌≤◌}
use native.Mathlib.Omega.{arith}
use lib.Dec.{eqb, ltb}
use lib.ListN.{length, get_or, replicate}
use borrow.Author.Tests.{eqb-true, eqb-false, ne_eqb, ltb-true, ltb-false}
use Rattle.notation.specs.Notation.{pick, if◌equals◌then◌else◌}
use Rattle.words.specs.Words.{word_limit, last_word}
use Rattle.semantics.specs.declared.Session.{Session}
use Rattle.semantics.specs.declared.Result.{Result}
use Rattle.semantics.specs.declared.Goal.{Goal}
use Rattle.semantics.specs.Numbers.{free_truth, free_word, input_count}
use Rattle.semantics.specs.Terms.{terms_in}
use Rattle.semantics.specs.Reading.{readings, read_in, read_of}
use Rattle.semantics.specs.Goals.{goal_outcome}
use Rattle.semantics.specs.Spans.{end_of}
use Rattle.firsts.specs.Witness.{reaches, reached_at, First, none, some, no_hit, first_reached, least_of, greatest_of}
use Rattle.certainty.specs.Certain.{no_input}
use Rattle.firsts.specs.Firsts.{InBox, Says}
use Rattle.firsts.proofs.Boxes.{in_low, in_high, in_length}
use Rattle.firsts.proofs.Ends.{past, lasts_word}
use Rattle.firsts.proofs.Says.{first_says}
use Rattle.firsts.proofs.Taken.{Taken}
use Rattle.shown.specs.Shown.{Counts, Lent, WitnessReaches, WitnessFirst, NoneMeansNone}
use Rattle.shown.proofs.Standing.{standing, standing_before, least_length, greatest_length, least_at, greatest_at, low, high, stands_in, stands_read}
use Rattle.shown.proofs.Readings.{reaches_is, is_reaches, truths_taken, read_taken, first_here, answered, found_some, none_none}

module _ (x : Session) (s : List ℕ) (r : Result) (g : Goal) (spanned : Bool) (lows highs work : List ℕ) (lent : Lent x lows highs) (taken : Taken x s r spanned lows highs (length work)) where
  abbrev least : List ℕ
  least = least_of spanned x.inputs lows

  abbrev greatest : List ℕ
  greatest = greatest_of spanned x.inputs highs

  abbrev reached : List ℕ → Bool
  reached = reached_at g r (terms_in s x.count)

  -- what the first of the ordered readings says
  says : (f : First) → first_here x s r g spanned lows highs work ≡ f → Says reached least greatest f
  unfolding first_reached
  says f e =
      let a = least_length x.inputs spanned lows highs lent.inputs lent.lows_sixteen lent.highs_sixteen in
      let b = greatest_length x.inputs spanned lows highs lent.inputs lent.lows_sixteen lent.highs_sixteen in
      subst (Says reached least greatest) e (first_says reached least greatest (omega arith))

  -- a reading that counts and comes to the goal reaches it, as it stands
  stands_reached : (ms : List ℕ) → Counts x.inputs spanned lows highs ms → (read_of x s ms r work).0 ≡ goal_outcome g → reached (standing x.inputs ms) ≡ true
  unfolding reached_at
  stands_reached ms c e =
      ap (reaches g) (stands_read x s ms r lent.inputs c.sixteen taken.fits ∙ (sym (read_taken x s ms r work taken.fits c.taken taken.result taken.enough) ∙ e)) ∙ is_reaches g

  stands_here : (ms : List ℕ) → Counts x.inputs spanned lows highs ms → InBox least greatest (standing x.inputs ms)
  stands_here ms c = stands_in x.inputs spanned lows highs lent.inputs lent.lows_sixteen lent.highs_sixteen ms c

  -- ---- a reading in the box counts, and its constants are 0
  module _ (ns : List ℕ) (inside : InBox least greatest ns) where
    sixteen : length ns ≡ input_count
    sixteen = in_length inside ∙ least_length x.inputs spanned lows highs lent.inputs lent.lows_sixteen lent.highs_sixteen

    from : (i : ℕ) → i < input_count → end_of 0 (get_or x.inputs i no_input) (low x.inputs spanned lows highs lent.inputs lent.lows_sixteen lent.highs_sixteen i) ≤ get_or ns i 0
    from i h = rw (← least_at x.inputs spanned lows highs lent.inputs lent.lows_sixteen lent.highs_sixteen i h) (in_low inside i)

    upto : (i : ℕ) → i < input_count → get_or ns i 0 ≤ end_of 1 (get_or x.inputs i no_input) (high x.inputs spanned lows highs lent.inputs lent.lows_sixteen lent.highs_sixteen i)
    upto i h = rw (← greatest_at x.inputs spanned lows highs lent.inputs lent.lows_sixteen lent.highs_sixteen i h) (in_high inside i)

    -- a free word's number lies between its ends, a free truth's is 0 or 1, and a constant's is 0
    word_low : (i : ℕ) → i < input_count → (get_or x.inputs i no_input).kind ≡ free_word → get_or (pick spanned lows (replicate input_count 0)) i 0 ≤ get_or ns i 0
    unfolding end_of if◌equals◌then◌else◌
    word_low i h k = rw k at (from i h)

    word_high : (i : ℕ) → i < input_count → (get_or x.inputs i no_input).kind ≡ free_word → get_or ns i 0 ≤ get_or (pick spanned highs (replicate input_count last_word)) i 0
    unfolding end_of if◌equals◌then◌else◌
    word_high i h k = rw k at (upto i h)

    truth_high : (i : ℕ) → i < input_count → (get_or x.inputs i no_input).kind ≡ free_truth → get_or ns i 0 < 2
    unfolding end_of if◌equals◌then◌else◌
    truth_high i h k = let z : get_or ns i 0 ≤ 1 = rw k at (upto i h) in omega arith

    constant_zero : (i : ℕ) → i < input_count → ((get_or x.inputs i no_input).kind ≡ free_truth → ⊥) → ((get_or x.inputs i no_input).kind ≡ free_word → ⊥) → get_or ns i 0 ≡ 0
    unfolding end_of if◌equals◌then◌else◌
    constant_zero i h t w =
        let z : get_or ns i 0 ≤ 0 = rw (ne_eqb (get_or x.inputs i no_input).kind free_word w, ne_eqb (get_or x.inputs i no_input).kind free_truth t) at (upto i h) in omega arith

    -- every number is a word
    high_word : (i : ℕ) → i < input_count → get_or (pick spanned highs (replicate input_count last_word)) i 0 < word_limit
    high_word i h = go spanned
      where
        go : (b : Bool) → get_or (pick b highs (replicate input_count last_word)) i 0 < word_limit
        go true = lent.words i
        go false = lasts_word input_count i

    number_word : (i : ℕ) → get_or ns i 0 < word_limit
    number_word i = go (ltb i input_count) refl
      where
        inside_word : i < input_count → (a b : Bool) → eqb (get_or x.inputs i no_input).kind free_word ≡ a → eqb (get_or x.inputs i no_input).kind free_truth ≡ b → get_or ns i 0 < word_limit
        inside_word h true b p q = let w = word_high i h (eqb-true _ _ p) in let z = high_word i h in omega arith
        inside_word h false true p q = let t = truth_high i h (eqb-true _ _ q) in omega arith
        inside_word h false false p q = let c = constant_zero i h (eqb-false _ _ q) (eqb-false _ _ p) in omega arith

        go : (c : Bool) → ltb i input_count ≡ c → get_or ns i 0 < word_limit
        go true e = inside_word (ltb-true i input_count e) (eqb (get_or x.inputs i no_input).kind free_word) (eqb (get_or x.inputs i no_input).kind free_truth) refl refl
        go false e = let l = ltb-false i input_count e in let n = sixteen in rw (past ns i (omega arith)) (omega arith)

    counts : Counts x.inputs spanned lows highs ns
    counts =
        record {
          sixteen = sixteen;
          words = number_word;
          taken = truths_taken x.inputs ns (λ i l k. truth_high i (omega (arith, l, lent.inputs)) k);
          inside = λ e i h k. (rw e at (word_low i h k), rw e at (word_high i h k));
        }

-- WITNESS REACHES
pub witness_reaches : WitnessReaches
unfolding reached_at
witness_reaches x s r g spanned lows highs work ns lent e =
    let a = answered x s r g spanned lows highs work (record { found = true; numbers = ns }) e in
    let f = says x s r g spanned lows highs work lent a.taken (some ns) (found_some _ ns a.is) in
    let c = counts x s r g spanned lows highs work lent a.taken ns f.inside in
    record {
      counts = c;
      reads = read_taken x s ns r work a.taken.fits c.taken a.taken.result a.taken.enough ∙ reaches_is g (read_in (readings ns (terms_in s x.count)) r) f.reached;
      constants = constant_zero x s r g spanned lows highs work lent a.taken ns f.inside;
    }

-- WITNESS FIRST
pub witness_first : WitnessFirst
witness_first x s r g spanned lows highs work ns lent e ms c b z =
    let a = answered x s r g spanned lows highs work (record { found = true; numbers = ns }) e in
    let f = says x s r g spanned lows highs work lent a.taken (some ns) (found_some _ ns a.is) in
    false≢true (sym (f.least (standing x.inputs ms) (stands_here x s r g spanned lows highs work lent a.taken ms c) (standing_before x.inputs (lent.inputs ∙ sym c.sixteen) b))
    ∙ stands_reached x s r g spanned lows highs work lent a.taken ms c z)

-- NONE MEANS NONE
pub none_means_none : NoneMeansNone
none_means_none x s r g spanned lows highs work lent e ms c z =
    let a = answered x s r g spanned lows highs work no_hit e in
    let f = says x s r g spanned lows highs work lent a.taken none (none_none _ a.is) in
    false≢true (sym (f (standing x.inputs ms) (stands_here x s r g spanned lows highs work lent a.taken ms c)) ∙ stands_reached x s r g spanned lows highs work lent a.taken ms c z)
