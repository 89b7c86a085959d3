-- What an answer says of readings: the outcome that a goal asks for, a reading whose tests are passed, and the first of the readings of a call that nothing
-- refuses. Assumes nothing.
use mathlib.Core.Path.{◌≡◌, refl, sym, ap}
use mathlib.Core.Bool.{Bool, true, false, ◌&&◌, false≢true}
use mathlib.Core.List.{List, [], ◌∷◌}
use Prim.Native.Nat.{ℕ, suc, ◌<◌, ◌≤◌}
use native.Mathlib.Omega.{arith}
use lib.Dec.{eqb, ltb}
use lib.ListN.{length, get_or}
use borrow.Author.Tests.{eqb-true, eqb-false, eq-eqb, lt-ltb, le-ltb}
use Rattle.notation.specs.Notation.{pick, if◌equals◌then◌else◌, if◌below◌then◌else◌, unless◌then◌else◌}
use Rattle.semantics.specs.declared.Input.{Input}
use Rattle.semantics.specs.declared.Session.{Session}
use Rattle.semantics.specs.declared.Result.{Result}
use Rattle.semantics.specs.declared.Goal.{Goal}
use Rattle.semantics.specs.declared.Goal.TheVariants.{Errs, Aborts, Gives}
use Rattle.semantics.specs.declared.Outcome.{Outcome}
use Rattle.semantics.specs.declared.Outcome.TheVariants.{Truth, Word, Procedure, Abort, Error, Refused}
use Rattle.semantics.specs.declared.Hit.{Hit}
use Rattle.semantics.specs.declared.Witness.{Witness}
use Rattle.semantics.specs.Numbers.{free_truth}
use Rattle.semantics.specs.Terms.{terms_in}
use Rattle.semantics.specs.Fits.{fits_of}
use Rattle.semantics.specs.Reading.{numbers_taken, result_taken, readings, read_in, read_outcome, read_of}
use Rattle.semantics.specs.Goals.{goal_outcome}
use Rattle.firsts.specs.Witness.{reaches, First, none, some, no_hit, hit_of, witness_refused, witness_refusal, first_reached, least_of, greatest_of, witness_of}
use Rattle.certainty.specs.Certain.{no_input}
use Rattle.firsts.proofs.Taken.{Taken, witness_taken}
use Rattle.shown.specs.Shown.{found}

-- ---- a goal and its outcome
never : {P : Type 0} → false ≡ true → P
never e = absurd (false≢true e)

pub reaches_is : (g : Goal) (o : Outcome) → reaches g o ≡ true → o ≡ goal_outcome g
reaches_is Errs (Truth b) e = never e
reaches_is Errs (Word w) e = never e
reaches_is Errs (Procedure i) e = never e
reaches_is Errs Abort e = never e
reaches_is Errs Error e = refl
reaches_is Errs (Refused k) e = never e
reaches_is Aborts (Truth b) e = never e
reaches_is Aborts (Word w) e = never e
reaches_is Aborts (Procedure i) e = never e
reaches_is Aborts Abort e = refl
reaches_is Aborts Error e = never e
reaches_is Aborts (Refused k) e = never e
reaches_is (Gives n) (Truth b) e = never e
reaches_is (Gives n) (Word w) e = ap Word (eqb-true w n e)
reaches_is (Gives n) (Procedure i) e = never e
reaches_is (Gives n) Abort e = never e
reaches_is (Gives n) Error e = never e
reaches_is (Gives n) (Refused k) e = never e

pub is_reaches : (g : Goal) → reaches g (goal_outcome g) ≡ true
is_reaches Errs = refl
is_reaches Aborts = refl
is_reaches (Gives n) = eq-eqb n n refl

-- ---- 13 takes numbers that give each free truth 0 or 1
pub truths_taken : (xs : List Input) (ns : List ℕ) → ((i : ℕ) → i < length xs → (get_or xs i no_input).kind ≡ free_truth → get_or ns i 0 < 2) → numbers_taken xs ns ≡ true
unfolding numbers_taken if◌equals◌then◌else◌
truths_taken [] ns f = refl
truths_taken (x ∷ xs) [] f = refl
truths_taken (x ∷ xs) (n ∷ ns) f = rw (truths_taken xs ns (λ i l. f (suc i) (omega arith))) (go (eqb x.kind free_truth) refl)
  where
    go : (b : Bool) → eqb x.kind free_truth ≡ b → (pick b (ltb n 2) true && true) ≡ true
    go true e = rw (lt-ltb n 2 (f 0 (omega arith) (eqb-true x.kind free_truth e)))
    go false e = refl

-- ---- a reading whose tests are passed
pub read_taken : (x : Session) (s ns : List ℕ) (r : Result) (work : List ℕ) → fits_of x s ≡ true → numbers_taken x.inputs ns ≡ true → result_taken (terms_in s x.count) r ≡ true → x.count ≤ length work
    → (read_of x s ns r work).0 ≡ read_in (readings ns (terms_in s x.count)) r
unfolding read_of read_outcome unless◌then◌else◌ if◌below◌then◌else◌
read_taken x s ns r work f t g l = rw (f, t, g, le-ltb (length work) x.count l)

-- ---- a call that is not refused
module _ (x : Session) (s : List ℕ) (r : Result) (g : Goal) (spanned : Bool) (lows highs work : List ℕ) where
  abbrev refusal : ℕ
  refusal = witness_refusal x s r spanned lows highs (length work)

  -- the first of the ordered readings
  abbrev pub first_here : First
  first_here = first_reached (terms_in s x.count) r g (least_of spanned x.inputs lows) (greatest_of spanned x.inputs highs)

  pub record Answered (h : Hit) : Type 0 where
    pub taken : Taken x s r spanned lows highs (length work)
    pub is : hit_of first_here ≡ h

  pub answered : (h : Hit) → (witness_of x s r g spanned lows highs work).0 ≡ record { refusal = 0; hit = h } → Answered h
  unfolding witness_of if◌equals◌then◌else◌
  answered h e = go (eqb refusal 0) refl e
    where
      go : (b : Bool) → eqb refusal 0 ≡ b → pick b (record { refusal = 0; hit = hit_of first_here }) (witness_refused refusal) ≡ record { refusal = 0; hit = h } → Answered h
      go true q e = record { taken = witness_taken x s r spanned lows highs (length work) (eqb-true refusal 0 q); is = ap (λ (w : Witness). w.hit) e }
      go false q e = absurd (eqb-false refusal 0 q (ap (λ (w : Witness). w.refusal) e))

-- a hit that is found, and none
pub found_some : (f : First) (ns : List ℕ) → hit_of f ≡ record { found = true; numbers = ns } → f ≡ some ns
found_some none ns e = never (ap (λ (h : Hit). h.found) e)
found_some (some ms) ns e = ap some (ap (λ (h : Hit). h.numbers) e)

pub none_none : (f : First) → hit_of f ≡ no_hit → f ≡ none
none_none none e = refl
none_none (some ms) e = never (sym (ap (λ (h : Hit). h.found) e))
