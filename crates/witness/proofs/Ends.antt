-- The box from the least numbers to the greatest, and the same narrowed to the inputs that a result stands on. Assumes nothing.
use mathlib.Core.Path.{◌≡◌, refl, sym, ap, subst, ◌∙◌}
use mathlib.Core.Logic.{◌⊎◌, inl, inr}
use mathlib.Core.Bool.{Bool, true, false}
use mathlib.Core.List.{List, [], ◌∷◌}
use Prim.Native.Nat.{ℕ, zero, suc, ◌+◌, ◌<◌, ◌≤◌}
use native.Mathlib.Omega.{arith}
use lib.Dec.{eqb, leb, ltb}
use lib.ListN.{length, get_or, set, replicate, length-set, length-replicate}
use lib.Seq.{get_or-set_same, get_or-set_other}
use borrow.Author.Tests.{eqb-true, eqb-false, leb-true, leb-false, ltb-true, lt-ltb}
use Rattle.notation.specs.Notation.{pick, with, when◌then◌else◌, if◌equals◌then◌else◌, if◌below◌then◌else◌}
use Rattle.words.specs.Words.{word_limit, last_word}
use Rattle.semantics.specs.declared.Term.{Term}
use Rattle.semantics.specs.declared.Goal.{Goal}
use Rattle.std.specs.declared.option.Option.{Option}
use Rattle.std.specs.declared.option.Option.TheVariants.{None, Some}
use Rattle.semantics.specs.declared.Input.{Input}
use Rattle.semantics.specs.declared.Result.{Result}
use Rattle.semantics.specs.declared.Session.{Session}
use Rattle.semantics.specs.Numbers.{free_truth_term, free_truth, free_word, input_count}
use Rattle.semantics.specs.Terms.{term_at, terms_in, laid_out}
use Rattle.semantics.specs.Fits.{fits_of}
use Rattle.semantics.specs.Spans.{end_of, ends_of, span_taken, spans_taken}
use Rattle.firsts.specs.Witness.{reached_at, first_reached, least_of, greatest_of, spans_fit}
use Rattle.semantics.proofs.Fold.{Each}
use Rattle.semantics.proofs.Spans.{ends_at, ends_length}
use Rattle.terms.proofs.Tables.{terms_length, at_low}
use Rattle.typing.proofs.Formed.{both}
use Rattle.typing.proofs.Folds.{formed_each}
use Rattle.soundness.proofs.Inputs.{All}
use Rattle.certainty.specs.Certain.{Bytes, Words, no_input}
use Rattle.certainty.proofs.Worded.{AreWords, table_words}
use Rattle.certainty.proofs.Free.{Free, fitting}
use Rattle.under.specs.Marks.{mark_in}
use Rattle.marked.specs.Marked.{Under}
use Rattle.boxes.specs.Boxes.{Ranges, Ready}
use Rattle.firsts.proofs.Ends.{past, given, same_at, lasts_word}
use Rattle.firsts.proofs.Nested.{first_nested}
use Rattle.firsts.proofs.Boxes.{Narrowed, box_narrow}
use Rattle.firsts.proofs.Stood.{NotNamed, reached_apart}
use Rattle.witness.specs.Told.{numbers_of}
use Rattle.witness.specs.Search.{Ordered, is_free, named_input, Stood, SearchedFor, Searched}
use Rattle.witness.proofs.Halves.{ready_lower}

-- ---- the least numbers and the greatest
module _ (xs : List Input) (ns : List ℕ) {spanned : Bool} where
  pub least_given : spanned ≡ true → {r : List ℕ} → r ≡ ends_of 0 xs ns → r ≡ least_of spanned xs ns
  unfolding least_of when◌then◌else◌
  least_given h e = rw h e

  pub least_none : spanned ≡ false → {r : List ℕ} → r ≡ ends_of 0 xs (replicate input_count 0) → r ≡ least_of spanned xs ns
  unfolding least_of when◌then◌else◌
  least_none h e = rw h e

  pub greatest_given : spanned ≡ true → {r : List ℕ} → r ≡ ends_of 1 xs ns → r ≡ greatest_of spanned xs ns
  unfolding greatest_of when◌then◌else◌
  greatest_given h e = rw h e

  pub greatest_none : spanned ≡ false → {r : List ℕ} → r ≡ ends_of 1 xs (replicate input_count last_word) → r ≡ greatest_of spanned xs ns
  unfolding greatest_of when◌then◌else◌
  greatest_none h e = rw h e

-- ---- each low is at most its high

-- 17 did not refuse
span_at : (xs : List Input) (ls hs : List ℕ) → spans_taken xs ls hs ≡ true → (i : ℕ) → i < length xs → i < length ls → i < length hs → (get_or xs i no_input).kind ≡ free_word → get_or ls i 0 ≤ get_or hs i 0
unfolding spans_taken span_taken if◌equals◌then◌else◌
span_at [] ls hs e i a b c k = absurd (omega arith)
span_at (x ∷ xs) [] hs e i a b c k = absurd (omega arith)
span_at (x ∷ xs) (l ∷ ls) [] e i a b c k = absurd (omega arith)
span_at (x ∷ xs) (l ∷ ls) (h ∷ hs) e zero a b c k = both (pick (eqb x.kind free_word) (leb l h) true) (spans_taken xs ls hs) e λ p q. leb-true l h (rw k at p)
span_at (x ∷ xs) (l ∷ ls) (h ∷ hs) e (suc i) a b c k =
    both (pick (eqb x.kind free_word) (leb l h) true) (spans_taken xs ls hs) e λ p q. span_at xs ls hs q i (omega arith) (omega arith) (omega arith) k

module _ (xs : List Input) (ls hs : List ℕ) (n : length xs ≡ input_count) (nl : length ls ≡ input_count) (nh : length hs ≡ input_count) where
  -- the ends of lows and highs of which no free word's low is above its high
  ends_ordered : ((i : ℕ) → i < input_count → (get_or xs i no_input).kind ≡ free_word → get_or ls i 0 ≤ get_or hs i 0) → Ordered (ends_of 0 xs ls) (ends_of 1 xs hs)
  unfolding end_of if◌equals◌then◌else◌
  ends_ordered f = record { at = λ i. go i (leb input_count i) refl }
    where
      go : (i : ℕ) (b : Bool) → leb input_count i ≡ b → get_or (ends_of 0 xs ls) i 0 ≤ get_or (ends_of 1 xs hs) i 0
      go i true e =
          let y = leb-true input_count i e in let z = ends_length 0 xs ls (omega arith) in
          rw (past (ends_of 0 xs ls) i (omega (arith, y, z, nl, n))) (omega arith)
      go i false e =
          let y = leb-false input_count i e in
          rw (ends_at 0 xs ls i no_input (omega arith) (omega arith), ends_at 1 xs hs i no_input (omega arith) (omega arith)) (cases (eqb (get_or xs i no_input).kind free_word) (eqb (get_or xs i no_input).kind free_truth) refl)
        where
          cases : (a c : Bool) → eqb (get_or xs i no_input).kind free_word ≡ a → pick a (get_or ls i 0) (pick c 0 0) ≤ pick a (get_or hs i 0) (pick c 1 0)
          cases true c q = f i (leb-false input_count i e) (eqb-true _ _ q)
          cases false true q = omega arith
          cases false false q = omega arith

  -- the ends of words are words
  ends_words : Words hs → Words (ends_of 1 xs hs)
  unfolding end_of if◌equals◌then◌else◌
  ends_words w i = go (leb input_count i) refl
    where
      go : (b : Bool) → leb input_count i ≡ b → get_or (ends_of 1 xs hs) i 0 < word_limit
      go true e =
          let y = leb-true input_count i e in let z = ends_length 1 xs hs (omega arith) in
          rw (past (ends_of 1 xs hs) i (omega (arith, y, z, nh, n))) (omega arith)
      go false e =
          let y = leb-false input_count i e in
          rw (ends_at 1 xs hs i no_input (omega arith) (omega arith)) (cases (eqb (get_or xs i no_input).kind free_word) (eqb (get_or xs i no_input).kind free_truth))
        where
          cases : (a c : Bool) → pick a (get_or hs i 0) (pick c 1 0) < word_limit
          cases true c = w i
          cases false true = omega arith
          cases false false = omega arith

-- ---- of spans, or of none
module _ (x : Session) (s : List ℕ) (r : Result) (spanned : Bool) (lows highs : List ℕ) (n : length x.inputs ≡ input_count) (nl : length lows ≡ input_count) (nh : length highs ≡ input_count)
    (bytes : Bytes s) (words : Words highs) (fits : fits_of x s ≡ true) (taken : spans_fit spanned x.inputs lows highs ≡ true) {ls hs : List ℕ}
    (el : ls ≡ least_of spanned x.inputs lows) (eh : hs ≡ greatest_of spanned x.inputs highs) where
  ordered : Ordered ls hs
  unfolding least_of greatest_of spans_fit when◌then◌else◌
  ordered = rw (el, eh) (go spanned taken)
    where
      go : (b : Bool) → pick b (spans_taken x.inputs lows highs) true ≡ true → Ordered (ends_of 0 x.inputs (pick b lows (replicate input_count 0))) (ends_of 1 x.inputs (pick b highs (replicate input_count last_word)))
      go true e = ends_ordered x.inputs lows highs n nl nh (λ i l k. span_at x.inputs lows highs e i (omega arith) (omega arith) (omega arith) k)
      go false e =
          ends_ordered x.inputs (replicate input_count 0) (replicate input_count last_word) n (length-replicate {A = ℕ} input_count 0) (length-replicate {A = ℕ} input_count last_word)
          (λ i l k. rw (same_at 0 input_count i l) (omega arith))

  -- the highs of free truths are truths, and all are words
  truth_high : (t : Term) → Free x.inputs t → t.kind ≡ free_truth_term → get_or hs t.a 0 < 2
  unfolding greatest_of end_of when◌then◌else◌ if◌equals◌then◌else◌
  truth_high t f k =
      let z = f.truth k in
      let g = given spanned highs last_word nh in
      rw (eh, ends_at 1 x.inputs (pick spanned highs (replicate input_count last_word)) t.a no_input z.0 (omega (arith, z.0, n, g)), z.1) (omega arith)

  ready : Ready s x.count hs
  unfolding greatest_of when◌then◌else◌
  ready =
      let f = fitting x s n fits in
      record {
        accepted = x.accepted;
        each = each (terms_in s x.count) (formed_each x.accepted (terms_in s x.count) f.formed) (table_words s bytes x.count) f.free;
        words = rw eh (ends_words x.inputs lows (pick spanned highs (replicate input_count last_word)) n nl (given spanned highs last_word nh) (all spanned));
      }
    where
      all : (b : Bool) → Words (pick b highs (replicate input_count last_word))
      all true = words
      all false = lasts_word input_count

      each : (us : List Term) → Each (λ vs t. laid_out x.accepted vs t ≡ true) us → AreWords us → All (Free x.inputs) us → Each (Ranges x.accepted hs) us
      each [] l w f = tt
      each (t ∷ us) l w f = (record { laid = l.0; constant = w.0; truth = truth_high t f.0 }, each us l.1 w.1 f.1)

  pub first_for : {work : List ℕ} → Under s x.count r work → SearchedFor s x.count r ls hs work
  first_for u = record { under = u; ordered = ordered; ready = ready }

-- ---- the inputs that the result stands on
module _ (s lows highs m : List ℕ) where
  module _ (n : ℕ) {ts : List ℕ} (g : Stood s lows highs m n ts) where
    -- a term that names no more inputs
    stood_over : ((i : ℕ) → i < input_count → mark_in m n ≡ true → is_free (term_at s n) ≡ true → (term_at s n).a ≡ i → ⊥) → Stood s lows highs m (n + 1) ts
    stood_over unnamed = record { long = g.long; either = λ i l. go i l (g.either i l) }
      where
        go : (i : ℕ) → i < input_count → (get_or ts i 0 ≡ get_or highs i 0) ⊎ ((get_or ts i 0 ≡ get_or lows i 0) × ((k : ℕ) → k < n → mark_in m k ≡ true → is_free (term_at s k) ≡ true → (term_at s k).a ≡ i → ⊥))
            → (get_or ts i 0 ≡ get_or highs i 0) ⊎ ((get_or ts i 0 ≡ get_or lows i 0) × ((k : ℕ) → k < n + 1 → mark_in m k ≡ true → is_free (term_at s k) ≡ true → (term_at s k).a ≡ i → ⊥))
        go i l (inl e) = inl e
        go i l (inr e) = inr (e.0, λ k h. last k h (eqb k n) refl)
          where
            last : (k : ℕ) → k < n + 1 → (b : Bool) → eqb k n ≡ b → mark_in m k ≡ true → is_free (term_at s k) ≡ true → (term_at s k).a ≡ i → ⊥
            last k h true q = subst (λ j. mark_in m j ≡ true → is_free (term_at s j) ≡ true → (term_at s j).a ≡ i → ⊥) (sym (eqb-true k n q)) (unnamed i l)
            last k h false q = e.1 k (omega (arith, eqb-false k n q))

    -- a free one
    stood_next : {t : Term} {a : ℕ} → t ≡ term_at s n → a ≡ t.a → a < input_count → a < length ts → Stood s lows highs m (n + 1) (set ts a (get_or highs a 0))
    stood_next {t} {a} et ea small room = record { long = length-set ts a (get_or highs a 0) ∙ g.long; either = λ i l. here i l (eqb i a) refl }
      where
        here : (i : ℕ) → i < input_count → (b : Bool) → eqb i a ≡ b
            → (get_or (set ts a (get_or highs a 0)) i 0 ≡ get_or highs i 0) ⊎ ((get_or (set ts a (get_or highs a 0)) i 0 ≡ get_or lows i 0) × ((k : ℕ) → k < n + 1 → mark_in m k ≡ true → is_free (term_at s k) ≡ true → (term_at s k).a ≡ i → ⊥))
        here i l true q = inl (rw (eqb-true i a q, get_or-set_same ts a (get_or highs a 0) 0 room))
        here i l false q = rw (get_or-set_other ts a i (get_or highs a 0) 0 (eqb-false i a q)) (go (g.either i l))
          where
            named : (term_at s n).a ≡ a
            named = ap (λ (z : Term). z.a) (sym et) ∙ sym ea

            go : (get_or ts i 0 ≡ get_or highs i 0) ⊎ ((get_or ts i 0 ≡ get_or lows i 0) × ((k : ℕ) → k < n → mark_in m k ≡ true → is_free (term_at s k) ≡ true → (term_at s k).a ≡ i → ⊥))
                → (get_or ts i 0 ≡ get_or highs i 0) ⊎ ((get_or ts i 0 ≡ get_or lows i 0) × ((k : ℕ) → k < n + 1 → mark_in m k ≡ true → is_free (term_at s k) ≡ true → (term_at s k).a ≡ i → ⊥))
            go (inl e) = inl e
            go (inr e) = inr (e.0, λ k h. last k h (eqb k n) refl)
              where
                last : (k : ℕ) → k < n + 1 → (b : Bool) → eqb k n ≡ b → mark_in m k ≡ true → is_free (term_at s k) ≡ true → (term_at s k).a ≡ i → ⊥
                last k h true w = λ p f z. eqb-false i a q (sym (subst (λ j. (term_at s j).a ≡ i) (eqb-true k n w) z) ∙ named)
                last k h false w = e.1 k (omega (arith, eqb-false k n w))

    -- a term whose place is not marked, that is not free, or that names no input
    unnamed : {t : Term} → t ≡ term_at s n → None ≡ named_input (get_or m n 0) t → (i : ℕ) → i < input_count → mark_in m n ≡ true → is_free (term_at s n) ≡ true → (term_at s n).a ≡ i → ⊥
    unfolding named_input with when◌then◌else◌ if◌below◌then◌else◌
    unnamed {t} et e i l k f z = let q : None ≡ Some (term_at s n).a = e ∙ rw (et, k, f, lt-ltb (term_at s n).a input_count (omega arith)) in cc

    pub stood_none : {t : Term} {o : Option ℕ} → t ≡ term_at s n → o ≡ named_input (get_or m n 0) t → o ≡ None → Stood s lows highs m (n + 1) ts
    stood_none et eo e = stood_over (unnamed et (sym e ∙ eo))

    -- the input is the term's
    is_named : (t : Term) {a : ℕ} → Some a ≡ named_input (get_or m n 0) t → (a ≡ t.a) × (a < input_count)
    unfolding named_input with when◌then◌else◌ if◌below◌then◌else◌
    is_named t {a} = go (mark_in m n) (is_free t) (ltb t.a input_count) refl
      where
        go : (b c d : Bool) → ltb t.a input_count ≡ d → Some a ≡ pick b (pick c (pick d (Some t.a) None) None) None → (a ≡ t.a) × (a < input_count)
        go true true true q e = let i : a ≡ t.a = cc in let l = ltb-true t.a input_count q in (i, omega arith)
        go true true false q e = cc
        go true false d q e = cc
        go false c d q e = cc

    pub stood_more : {t : Term} {o : Option ℕ} {a : ℕ} → t ≡ term_at s n → o ≡ named_input (get_or m n 0) t → o ≡ Some a → length lows ≡ input_count → Stood s lows highs m (n + 1) (set ts a (get_or highs a 0))
    stood_more et eo e long =
        let z = is_named _ (sym e ∙ eo) in let l = g.long in
        stood_next et z.0 z.1 (omega arith)

-- ---- a search of the narrowed box is one of the whole
module _ (s : List ℕ) (count : ℕ) (r : Result) (g : Goal) {ls hs work ts : List ℕ} (nl : length ls ≡ input_count) (nh : length hs ≡ input_count) (f : SearchedFor s count r ls hs work)
    (st : Stood s ls hs work count ts) where
  low_or_high : (i : ℕ) → (get_or ls i 0 ≤ get_or ts i 0) × (get_or ts i 0 ≤ get_or hs i 0)
  low_or_high i = go (leb input_count i) refl
    where
      go : (b : Bool) → leb input_count i ≡ b → (get_or ls i 0 ≤ get_or ts i 0) × (get_or ts i 0 ≤ get_or hs i 0)
      go true e =
          let y = leb-true input_count i e in let l = st.long in
          rw (past ls i (omega (arith, y, nl)), past ts i (omega (arith, y, nl, l))) (omega arith, omega arith)
      go false e = pick_one (st.either i (leb-false input_count i e))
        where
          o : get_or ls i 0 ≤ get_or hs i 0
          o = f.ordered.at i

          pick_one : (get_or ts i 0 ≡ get_or hs i 0) ⊎ ((get_or ts i 0 ≡ get_or ls i 0) × ((k : ℕ) → k < count → mark_in work k ≡ true → is_free (term_at s k) ≡ true → (term_at s k).a ≡ i → ⊥))
              → (get_or ls i 0 ≤ get_or ts i 0) × (get_or ts i 0 ≤ get_or hs i 0)
          pick_one (inl e) = (omega (arith, e, o), omega (arith, e))
          pick_one (inr e) = (omega (arith, e.0), omega (arith, e.0, o))

  pub narrow_for : {bs : List ℕ} → bs ≡ ls → SearchedFor s count r bs ts work
  narrow_for e = rw e (record { under = f.under; ordered = record { at = λ i. (low_or_high i).0 }; ready = ready_lower s count hs ts (λ i. (low_or_high i).1) f.ready })

  -- no free term under the result names an input that has its low alone
  not_named : (i : ℕ) → ((k : ℕ) → k < count → mark_in work k ≡ true → is_free (term_at s k) ≡ true → (term_at s k).a ≡ i → ⊥) → NotNamed (terms_in s count) r i
  unfolding is_free if◌equals◌then◌else◌
  not_named i unnamed k l u t e =
      let h : k < count = rw (terms_length s count) at l in
      let is : term_at s k ≡ t = at_low s count k h refl ∙ e in
      let marked : mark_in work k ≡ true = f.under.marks k ∙ u in
      (λ q z. unnamed k h marked (rw (is, q)) (ap (λ (v : Term). v.a) is ∙ z), λ q z. unnamed k h marked (rw (is, q)) (ap (λ (v : Term). v.a) is ∙ z))

  narrowed : Narrowed (reached_at g r (terms_in s count)) ls hs ts
  narrowed i l = go (st.either i (omega arith))
    where
      go : (get_or ts i 0 ≡ get_or hs i 0) ⊎ ((get_or ts i 0 ≡ get_or ls i 0) × ((k : ℕ) → k < count → mark_in work k ≡ true → is_free (term_at s k) ≡ true → (term_at s k).a ≡ i → ⊥))
          → (get_or ts i 0 ≡ get_or hs i 0) ⊎ ((get_or ts i 0 ≡ get_or ls i 0) × (get_or ls i 0 ≤ get_or hs i 0) × ((ns : List ℕ) (n : ℕ) → reached_at g r (terms_in s count) (set ns i n) ≡ reached_at g r (terms_in s count) ns))
      go (inl e) = inl e
      go (inr e) = inr (e.0, f.ordered.at i, reached_apart g r (terms_in s count) i (not_named i e.1))

  pub narrow_found : {h : Option (List ℕ)} → {bs : List ℕ} → bs ≡ ls → Searched s count r g bs ts h → Searched s count r g ls hs h
  unfolding first_reached
  narrow_found e q =
      (rw e at q) ∙ ap numbers_of (first_nested (reached_at g r (terms_in s count)) ls ts ∙ (sym (box_narrow (reached_at g r (terms_in s count)) ls hs ts (omega arith) (omega (arith, st.long)) narrowed) ∙ sym (first_nested (reached_at g r (terms_in s count)) ls hs)))
