-- Witnesses by computation: the order of the readings, each goal, spans, constants, and each refusal in its order. Assumes nothing.
use Prim.Native.Nat.{ℕ, ◌-◌}
use mathlib.Core.Path.{◌≡◌, refl}
use mathlib.Core.Bool.{Bool, true, false}
use mathlib.Core.List.{List, [], ◌∷◌, flat_map}
use lib.ListN.{replicate}
use Rattle.semantics.specs.declared.Input.{Input}
use Rattle.semantics.specs.declared.Result.{Result}
use Rattle.semantics.specs.declared.Goal.{Goal}
use Rattle.semantics.specs.declared.Goal.TheVariants.{Errs, Aborts, Gives}
use Rattle.semantics.specs.declared.Outcome.TheVariants.{Truth, Word, Procedure}
use Rattle.semantics.specs.declared.Witness.{Witness}
use Rattle.semantics.specs.Numbers.{constant_word, free_truth, free_word, misfit, bad_result, work_short, bad_span, too_many_bits}
use Rattle.semantics.proofs.Computing.{computing}
use Rattle.semantics.specs.Opening as Opening
use Rattle.firsts.specs.Witness as Witness

-- the names of this request's definitions, all of which compute
unfoldable pub witnesses : ℕ
unfolding flat_map Witness.reached_at Witness.up_from Witness.readings_from Witness.first_that Witness.least_of Witness.greatest_of Witness.bits_in Witness.bits_of Witness.spans_fit Witness.first_reached Witness.witness_refusal Witness.witness_of
witnesses = 0

abbrev result_of : ℕ → ℕ → ℕ → Bool → Result
result_of s t v h = record { state = record { assumed = s; asserted = t }; value = v; halted = h }

-- ---- the operation on an opening: a constant word, a free word and two free truths; terms 2 to 5 are these four inputs
abbrev inputs : ℕ → List Input
inputs kind = record { kind = constant_word; value = 7 } ∷ record { kind = kind; value = 0 } ∷ record { kind = free_truth; value = 0 } ∷ record { kind = free_truth; value = 0 } ∷ replicate 12 (record { kind = constant_word; value = 7 })

abbrev count : ℕ
count = 22

-- the free word from 300 to 302, and what is given for the other inputs, which is ignored
abbrev lows : List ℕ
lows = 9 ∷ 300 ∷ 1 ∷ 1 ∷ replicate 12 9

abbrev highs : List ℕ
highs = 8 ∷ 302 ∷ 0 ∷ 0 ∷ replicate 12 8

unfoldable pub asked : ℕ → Result → Goal → ℕ → Witness × List ℕ
asked n r g work = Witness.witness_of (Opening.session_of (inputs free_word) n) (Opening.open_of (inputs free_word) (replicate 512 0)).1 r g true lows highs (replicate work 9)

-- the same with other spans, or with none
unfoldable pub spanned : Bool → List ℕ → List ℕ → ℕ → Witness
spanned b ls hs work = (Witness.witness_of (Opening.session_of (inputs free_word) count) (Opening.open_of (inputs free_word) (replicate 512 0)).1 (result_of 1 4 3 false) (Gives 0) b ls hs (replicate work 9)).0

abbrev found : List ℕ → Witness
found ns = record { refusal = 0; hit = record { found = true; numbers = ns } }

abbrev none_found : Witness
none_found = record { refusal = 0; hit = Witness.no_hit }

pub record Instances : Type 0 where
  -- "comparing inputs from 0 up as plain numbers"; the highs are among them
  pub readings_in_order : Witness.readings_from (0 ∷ 5 ∷ []) (1 ∷ 6 ∷ []) ≡ (0 ∷ 5 ∷ []) ∷ (0 ∷ 6 ∷ []) ∷ (1 ∷ 5 ∷ []) ∷ (1 ∷ 6 ∷ []) ∷ []
  -- each goal, of S the second truth and T the first: the error wants T false, the abort T true and S false, the word both true; constants stand as 0
  pub an_error : asked count (result_of 5 4 3 false) Errs count ≡ (found (0 ∷ 300 ∷ 0 ∷ 0 ∷ replicate 12 0), replicate count 0)
  pub an_abort : asked count (result_of 5 4 3 false) Aborts count ≡ (found (0 ∷ 300 ∷ 1 ∷ 0 ∷ replicate 12 0), replicate count 0)
  pub a_word : asked count (result_of 5 4 3 false) (Gives 302) count ≡ (found (0 ∷ 302 ∷ 1 ∷ 1 ∷ replicate 12 0), replicate count 0)
  pub a_halt : asked count (result_of 5 4 3 true) (Gives 302) count ≡ (none_found, replicate count 0)
  -- "then only readings inside them count"
  pub below_the_low : (asked count (result_of 5 4 3 false) (Gives 299) count).0 ≡ none_found
  pub above_the_high : (asked count (result_of 5 4 3 false) (Gives 303) count).0 ≡ none_found
  -- without spans a word goes from 0 on, and 17 is not asked
  pub no_spans : spanned false highs lows count ≡ found (0 ∷ 0 ∷ 1 ∷ 0 ∷ replicate 12 0)
  -- only a word is the named word
  pub no_word : Witness.reaches (Gives 1) (Truth true) ≡ false
  pub no_procedure : Witness.reaches (Gives 1) (Procedure 1) ≡ false
  pub the_word : Witness.reaches (Gives 1) (Word 1) ≡ true
  -- "a truth is one, a word sixteen"
  pub bits : Witness.bits_of (inputs free_word) ≡ 18
  -- "after 3, 14 and 17 and before 15"
  pub misfit_first : (asked (count - 1) (result_of 2 2 3 false) Errs 0).0 ≡ Witness.witness_refused misfit
  pub bad_result_next : (asked count (result_of 2 2 3 false) Errs 0).0 ≡ Witness.witness_refused bad_result
  pub bad_span_next : spanned true (0 ∷ 301 ∷ replicate 14 0) (0 ∷ 300 ∷ replicate 14 0) 0 ≡ Witness.witness_refused bad_span
  pub short_work : asked count (result_of 5 4 3 false) Errs (count - 1) ≡ (Witness.witness_refused work_short, replicate (count - 1) 0)

pub instances : Instances
unfolding computing witnesses asked spanned
instances =
    record {
      readings_in_order = refl;
      an_error = refl;
      an_abort = refl;
      a_word = refl;
      a_halt = refl;
      below_the_low = refl;
      above_the_high = refl;
      no_spans = refl;
      no_word = refl;
      no_procedure = refl;
      the_word = refl;
      bits = refl;
      misfit_first = refl;
      bad_result_next = refl;
      bad_span_next = refl;
      short_work = refl;
    }

-- ---- 19, of nine truths more than the word leaves room for
abbrev many : ℕ → List Input
many k = record { kind = free_word; value = 0 } ∷ replicate 15 (record { kind = k; value = 0 })

unfoldable pub over : ℕ → ℕ → List ℕ → List ℕ → Witness
over kind n ls hs = (Witness.witness_of (Opening.session_of (many kind) n) (Opening.open_of (many kind) (replicate 512 0)).1 (result_of 1 1 2 false) (Gives 3) true ls hs []).0

pub record BitInstances : Type 0 where
  pub thirty_one : Witness.bits_of (many free_truth) ≡ 31
  pub before_15 : over free_truth 34 (replicate 16 0) (replicate 16 1) ≡ Witness.witness_refused too_many_bits
  pub after_17 : over free_truth 34 (replicate 16 1) (replicate 16 0) ≡ Witness.witness_refused bad_span

pub bit_instances : BitInstances
unfolding computing witnesses over
bit_instances = record { thirty_one = refl; before_15 = refl; after_17 = refl }
