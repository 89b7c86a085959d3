-- A table that 3 takes begins with false and true, and a free term in it names a free input of its kind. Assumes nothing.
use mathlib.Core.Path.{◌≡◌, refl, sym, ap, subst, ◌∙◌}
use mathlib.Core.Bool.{Bool, true, false, not}
use mathlib.Core.List.{List, [], ◌∷◌}
use Prim.Native.Nat.{ℕ, zero, suc, ◌+◌, ◌-◌, ◌<◌, ◌≤◌}
use native.Mathlib.Omega.{arith}
use lib.Dec.{eqb, leb}
use lib.ListN.{length, get_or, take}
use borrow.Author.Tests.{eqb-true, eqb-false, leb-true}
use Rattle.notation.specs.Notation.{pick, when◌then◌else◌, if◌equals◌then◌else◌, every}
use Rattle.semantics.specs.declared.Term.{Term}
use Rattle.semantics.specs.declared.Input.{Input}
use Rattle.semantics.specs.declared.Session.{Session}
use Rattle.semantics.specs.Numbers.{truth_term, free_truth_term, free_word_term, constant_truth, constant_word, free_truth, free_word, input_count, most_table}
use Rattle.semantics.specs.Records.{records_in}
use Rattle.semantics.specs.Terms.{term, word_term_of, truth_number, term_at, terms_in, well_formed}
use Rattle.semantics.specs.Steps.{setting_of}
use Rattle.semantics.specs.Opening.{bad_table_size, input_taken, input_term, opening}
use Rattle.semantics.specs.Fits.{same_terms, no_free, fits_of}
use Rattle.typing.proofs.Grown.{Grown, still, more, grown_on}
use Rattle.typing.proofs.Formed.{never, both, by_test}
use Rattle.soundness.proofs.Inputs.{All, EachIn, opening_all}
use Rattle.opening.proofs.Begins.{constants}
use Rattle.fitting.proofs.Begun.{same_terms_lem, begins_all}
use Rattle.demands.proofs.Holds.{begun}
use Rattle.certainty.specs.Certain.{no_input}

-- what is known of a term: if it is free, it names an input that is
pub record Free (xs : List Input) (t : Term) : Type 0 where
  pub truth : t.kind ≡ free_truth_term → (t.a < length xs) × ((get_or xs t.a no_input).kind ≡ free_truth)
  pub word : t.kind ≡ free_word_term → (t.a < length xs) × ((get_or xs t.a no_input).kind ≡ free_word)

-- a term that is not free
bound : (xs : List Input) (t : Term) → (t.kind ≡ free_truth_term → ⊥) → (t.kind ≡ free_word_term → ⊥) → Free xs t
bound xs t f g = record { truth = λ k. absurd (f k); word = λ k. absurd (g k) }

-- ---- the terms of an opening
-- an input that 2 takes and that is of none of the other three kinds
taken_kind : (x : Input) → input_taken x ≡ true → (x.kind ≡ constant_truth → ⊥) → (x.kind ≡ constant_word → ⊥) → (x.kind ≡ free_truth → ⊥) → x.kind ≡ free_word
unfolding input_taken if◌equals◌then◌else◌
taken_kind x h a b c =
    by_test (eqb x.kind constant_truth) _ _ h (λ i e. absurd (a (eqb-true _ _ i))) λ i h.
    by_test (eqb x.kind constant_word) _ _ h (λ i e. absurd (b (eqb-true _ _ i))) λ i h.
    by_test (eqb x.kind free_truth) _ _ h (λ i e. absurd (c (eqb-true _ _ i))) λ i h.
    by_test (eqb x.kind free_word) _ _ h (λ i e. eqb-true _ _ i) λ i e. never e

-- the term of input i
input_free : (xs : List Input) (i : ℕ) (x : Input) → i < length xs → get_or xs i no_input ≡ x → input_taken x ≡ true → Free xs (input_term i x)
unfolding input_term if◌equals◌then◌else◌
input_free xs i x l e h = go (eqb x.kind constant_truth) (eqb x.kind constant_word) (eqb x.kind free_truth) refl refl refl
  where
    go : (a b c : Bool) → eqb x.kind constant_truth ≡ a → eqb x.kind constant_word ≡ b → eqb x.kind free_truth ≡ c
        → Free xs (pick a (term truth_term 0 (truth_number x.value) 0 0) (pick b (word_term_of x.value) (pick c (term free_truth_term 0 i 0 0) (term free_word_term 0 i 0 0))))
    go true b c p q r = bound xs _ (λ k. omega arith) (λ k. omega arith)
    go false true c p q r = bound xs _ (λ k. omega arith) (λ k. omega arith)
    go false false true p q r = record { truth = λ k. (l, ap (λ (y : Input). y.kind) e ∙ eqb-true _ _ r); word = λ k. absurd (omega arith) }
    go false false false p q r =
        record { truth = λ k. absurd (omega arith); word = λ k. (l, ap (λ (y : Input). y.kind) e ∙ taken_kind x h (eqb-false _ _ p) (eqb-false _ _ q) (eqb-false _ _ r)) }

-- the inputs ys are those of xs from i on
inputs_free : (xs : List Input) (i : ℕ) (ys : List Input) → i + length ys ≡ length xs → ((j : ℕ) → get_or xs (i + j) no_input ≡ get_or ys j no_input) → every input_taken ys ≡ true
    → EachIn (λ j x. Free xs (input_term j x)) i ys
unfolding every when◌then◌else◌
inputs_free xs i [] l e h = tt
inputs_free xs i (y ∷ ys) l e h =
    by_test (input_taken y) (every input_taken ys) false h (λ p q. (
      input_free xs i y (omega arith) (ap (λ k. get_or xs k no_input) (right i) ∙ e 0) p,
      inputs_free xs (suc i) ys (omega arith) (λ j. ap (λ k. get_or xs k no_input) (next_index i j) ∙ e (suc j)) q,
    )) (λ p q. never q)
  where
    right : (i : ℕ) → i ≡ i + 0
    right i = omega arith

    next_index : (i j : ℕ) → suc i + j ≡ i + suc j
    next_index i j = omega arith

-- all of them
opening_free : (xs : List Input) → length xs ≡ input_count → every input_taken xs ≡ true → All (Free xs) (opening xs).terms
opening_free xs n h =
    opening_all (Free xs) (bound xs _ (λ k. omega arith) (λ k. omega arith)) (bound xs _ (λ k. omega arith) (λ k. omega arith)) (λ v e. bound xs _ (λ k. omega arith) (λ k. omega arith))
    xs (inputs_free xs 0 xs (omega arith) (λ j. ap (λ k. get_or xs k no_input) (left j)) h) (setting_of most_table) (begun xs n).gives
  where
    left : (j : ℕ) → 0 + j ≡ j
    left j = omega arith

-- ---- a table that begins with them, and has no free term past them
-- "a free input stands past that" does not hold of the term
none_free : (xs : List Input) (t : Term) → no_free t ≡ true → Free xs t
unfolding no_free
none_free xs t h = bound xs t (λ k. never (rw k at h)) (λ k. never (rw k at h))

-- the terms past the first k, up to c
past_free : (xs : List Input) (s : List ℕ) (k c m : ℕ) → k + m ≡ c → every no_free (take m (terms_in s c)) ≡ true → All (Free xs) (terms_in s k) → All (Free xs) (terms_in s c)
unfolding every when◌then◌else◌ terms_in
past_free xs s k c zero e h a = let i : k ≡ c = omega arith in subst (λ n. All (Free xs) (terms_in s n)) i a
past_free xs s k zero (suc m) e h a = absurd (omega arith)
past_free xs s k (suc c) (suc m) e h a =
    by_test (no_free (term_at s c)) (every no_free (take m (terms_in s c))) false h (λ p q. (none_free xs (term_at s c) p, past_free xs s k c m (omega arith) q a)) (λ p q. never q)

-- the first k terms, and those up to c
terms_grown : (s : List ℕ) (k c m : ℕ) → k + m ≡ c → Grown (terms_in s k) (terms_in s c)
unfolding terms_in
terms_grown s k c zero e = let i : k ≡ c = omega arith in subst (λ n. Grown (terms_in s k) (terms_in s n)) i still
terms_grown s k zero (suc m) e = absurd (omega arith)
terms_grown s k (suc c) (suc m) e = more (terms_grown s k c m (omega arith))

-- ---- a session and a table that fit
pub record Fitting (x : Session) (s : List ℕ) : Type 0 where
  pub base : Grown constants (terms_in s x.count)
  pub free : All (Free x.inputs) (terms_in s x.count)
  pub formed : well_formed x.accepted (terms_in s x.count) ≡ true

pub fitting : (x : Session) (s : List ℕ) → length x.inputs ≡ input_count → fits_of x s ≡ true → Fitting x s
unfolding fits_of
fitting x s n h =
    both (not (bad_table_size (length s))) _ h λ size h.
    both (every input_taken x.inputs) _ h λ taken h.
    both (leb (length (opening x.inputs).terms) x.count) _ h λ enough h.
    both (leb x.count (records_in s)) _ h λ room h.
    both (same_terms (terms_in s (length (opening x.inputs).terms)) (opening x.inputs).terms) _ h λ same h.
    both (every no_free (take (x.count - length (opening x.inputs).terms) (terms_in s x.count))) _ h λ past h.
    both (well_formed x.accepted (terms_in s x.count)) _ h λ formed h.
    let l : length (opening x.inputs).terms ≤ x.count = leb-true _ _ enough in
    let opened : terms_in s (length (opening x.inputs).terms) ≡ (opening x.inputs).terms = same_terms_lem _ _ same in
    record {
      base = grown_on (begins_all x.inputs n).base
          (subst (λ us. Grown us (terms_in s x.count)) opened (terms_grown s (length (opening x.inputs).terms) x.count (x.count - length (opening x.inputs).terms) (omega arith)));
      free = past_free x.inputs s (length (opening x.inputs).terms) x.count (x.count - length (opening x.inputs).terms) (omega arith) past
          (subst (All (Free x.inputs)) (sym opened) (opening_free x.inputs n taken));
      formed = formed;
    }
