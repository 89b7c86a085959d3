-- WHERE THE RANGES RULE A GOAL OUT, no reading in the box reaches it. Assumes nothing.
use mathlib.Core.Path.{◌≡◌, refl, sym}
use mathlib.Core.Bool.{Bool, true, false}
use Prim.Native.Nat.{ℕ}
use native.Mathlib.Omega.{arith}
use lib.Dec.{eqb, ltb}
use borrow.Author.Tests.{eqb-true, ltb-true, ne_eqb}
use Rattle.notation.specs.Notation.{pick, with, when◌then◌else◌, if◌equals◌then◌else◌, if◌below◌then◌else◌}
use Rattle.semantics.specs.declared.Reading.{Reading}
use Rattle.semantics.specs.declared.Report.{Report}
use Rattle.semantics.specs.declared.Goal.{Goal}
use Rattle.semantics.specs.declared.Goal.TheVariants.{Errs, Aborts, Gives}
use Rattle.semantics.specs.declared.Outcome.{Outcome}
use Rattle.semantics.specs.declared.Outcome.TheVariants.{Truth, Word, Procedure, Abort, Error}
use Rattle.semantics.specs.Numbers.{truth_term, word_term}
use Rattle.semantics.specs.Reading.{is_true, value_outcome, result_outcome}
use Rattle.semantics.specs.Spans.{only_true, only_false}
use Rattle.firsts.specs.Witness.{is_error, is_abort, is_the_word, reaches}
use Rattle.typing.proofs.Formed.{never}
use Rattle.certainty.proofs.Covers.{Covers, open_kind, a_truth, a_word, reads_true}
use Rattle.ranges.specs.MayReach.{may_err, may_abort, may_be, may_give, may_reach}

-- what can only be false does not read as true
reads_false : {v : Reading} {x : Report} → Covers v x → only_false x ≡ true → is_true v ≡ false
unfolding only_false is_true if◌equals◌then◌else◌
reads_false (open_kind p) e = never e
reads_false (a_truth {n = n} {l = l} {h = h} p q r) e = let z = eqb-true h 0 e in ne_eqb n 1 (λ i. omega arith)
reads_false (a_word p q r) e = never e

-- a value is no error and no abort
module _ (v : Reading) where
  value_no_error : is_error (value_outcome v) ≡ false
  unfolding value_outcome if◌equals◌then◌else◌
  value_no_error = go (eqb v.sort truth_term) (eqb v.sort word_term)
    where
      go : (b c : Bool) → is_error (pick b (Truth (eqb v.number 1)) (pick c (Word v.number) (Procedure v.number))) ≡ false
      go true c = refl
      go false true = refl
      go false false = refl

  value_no_abort : is_abort (value_outcome v) ≡ false
  unfolding value_outcome if◌equals◌then◌else◌
  value_no_abort = go (eqb v.sort truth_term) (eqb v.sort word_term)
    where
      go : (b c : Bool) → is_abort (pick b (Truth (eqb v.number 1)) (pick c (Word v.number) (Procedure v.number))) ≡ false
      go true c = refl
      go false true = refl
      go false false = refl

-- a value that may not be the word w
value_not : {v : Reading} {r : Report} → Covers v r → (w : ℕ) → may_be r w ≡ false → is_the_word w (value_outcome v) ≡ false
unfolding may_be value_outcome if◌equals◌then◌else◌ if◌below◌then◌else◌
value_not (open_kind p) w e = never (sym e)
value_not (a_truth p q r) w e = refl
value_not (a_word {n = n} {l = l} {h = h} p q r) w e = go (ltb w l) (ltb h w) refl refl e
  where
    go : (i j : Bool) → ltb w l ≡ i → ltb h w ≡ j → pick i false (pick j false true) ≡ false → eqb n w ≡ false
    go true j y z e = ne_eqb n w (λ k. omega (arith, ltb-true w l y))
    go false true y z e = ne_eqb n w (λ k. omega (arith, ltb-true h w z))
    go false false y z e = never (sym e)

-- ---- each goal, of what S, T and the value read as

module _ {a b v : Reading} {s t r : Report} (ca : Covers a s) (cb : Covers b t) (cv : Covers v r) (halted : Bool) where
  -- what the result reads as
  abbrev outcome : Outcome
  outcome = result_outcome (is_true a) (is_true b) halted v

  err_sound : may_err s t halted ≡ false → is_error outcome ≡ false
  unfolding may_err result_outcome with when◌then◌else◌
  err_sound e = go (only_true t) halted (only_false s) refl refl e
    where
      -- T can only be true
      asserted : (h : Bool) → is_true b ≡ true → (h ≡ true → is_true a ≡ false) → is_error (pick (is_true b) (pick (is_true a) (pick h Error (value_outcome v)) Abort) Error) ≡ false
      asserted h p q = rw p (each h (is_true a) q)
        where
          each : (h c : Bool) → (h ≡ true → c ≡ false) → is_error (pick c (pick h Error (value_outcome v)) Abort) ≡ false
          each h false q = refl
          each true true q = never (sym (q refl))
          each false true q = value_no_error v

      go : (i h j : Bool) → only_true t ≡ i → only_false s ≡ j → pick i (pick h (pick j false true) false) true ≡ false
          → is_error (pick (is_true b) (pick (is_true a) (pick h Error (value_outcome v)) Abort) Error) ≡ false
      go true true true p q e = asserted true (reads_true cb p) (λ k. reads_false ca q)
      go true true false p q e = never (sym e)
      go true false j p q e = asserted false (reads_true cb p) (λ k. never k)
      go false h j p q e = never (sym e)

  abort_sound : may_abort s t ≡ false → is_abort outcome ≡ false
  unfolding may_abort result_outcome with when◌then◌else◌
  abort_sound e = go (only_false t) (only_true s) refl refl e
    where
      assumed : (c h : Bool) → is_abort (pick c (pick h Error (value_outcome v)) Error) ≡ false
      assumed false h = refl
      assumed true true = refl
      assumed true false = value_no_abort v

      go : (i j : Bool) → only_false t ≡ i → only_true s ≡ j → pick i false (pick j false true) ≡ false
          → is_abort (pick (is_true b) (pick (is_true a) (pick halted Error (value_outcome v)) Abort) Error) ≡ false
      go true j p q e = rw (reads_false cb p)
      go false true p q e = rw (reads_true ca q) (assumed (is_true b) halted)
      go false false p q e = never (sym e)

  be_sound : (w : ℕ) → may_be r w ≡ false → is_the_word w (value_outcome v) ≡ false
  be_sound w e = value_not cv w e

  give_sound : (w : ℕ) → may_give s t halted r w ≡ false → is_the_word w outcome ≡ false
  unfolding may_give result_outcome with when◌then◌else◌
  give_sound w e = go halted (only_false t) (only_false s) refl refl e
    where
      no_value_lem : (c d : Bool) → is_the_word w (pick d (pick c Error Abort) Error) ≡ false
      no_value_lem c false = refl
      no_value_lem true true = refl
      no_value_lem false true = refl

      value : (c d : Bool) → is_the_word w (value_outcome v) ≡ false → is_the_word w (pick d (pick c (value_outcome v) Abort) Error) ≡ false
      value c false k = refl
      value true true k = k
      value false true k = refl

      not_assumed : (h d : Bool) → is_the_word w (pick d (pick false (pick h Error (value_outcome v)) Abort) Error) ≡ false
      not_assumed h true = refl
      not_assumed h false = refl

      go : (h i j : Bool) → only_false t ≡ i → only_false s ≡ j → pick h false (pick i false (pick j false (may_be r w))) ≡ false
          → is_the_word w (pick (is_true b) (pick (is_true a) (pick h Error (value_outcome v)) Abort) Error) ≡ false
      go true i j p q e = no_value_lem (is_true a) (is_true b)
      go false true j p q e = rw (reads_false cb p)
      go false false true p q e = rw (reads_false ca q) (not_assumed false (is_true b))
      go false false false p q e = value (is_true a) (is_true b) (be_sound w e)

  -- any goal
  pub reach_sound : (g : Goal) → may_reach g halted s t r ≡ false → reaches g outcome ≡ false
  reach_sound Errs e = err_sound e
  reach_sound Aborts e = abort_sound e
  reach_sound (Gives w) e = give_sound w e
