-- CLAUSES EXACT and MODEL IS READING: the clauses of a table and a goal can be satisfied exactly where a reading reaches the goal, and the input
-- variables of whatever satisfies them are such a reading. Assumes nothing.
use mathlib.Core.Path.{◌≡◌, refl, sym, ap, ◌∙◌}
use mathlib.Core.Bool.{Bool, true, false, ◌&&◌}
use mathlib.Core.List.{List, [], ◌∷◌}
use Prim.Native.Nat.{ℕ, zero, suc, ◌≤◌, ◌<◌}
use native.Mathlib.Omega.{arith}
use lib.ListN.{length}
use borrow.Author.Tests.{le-ltb}
use Rattle.notation.specs.Notation.{pick, when◌then◌else◌, if◌below◌then◌else◌, unless◌then◌else◌}
use Rattle.semantics.specs.declared.Term.{Term}
use Rattle.semantics.specs.declared.Session.{Session}
use Rattle.semantics.specs.declared.Result.{Result}
use Rattle.semantics.specs.declared.Goal.{Goal}
use Rattle.semantics.specs.declared.Outcome.TheVariants.{Abort, Error}
use Rattle.semantics.specs.Numbers.{truth_term, input_count}
use Rattle.semantics.specs.Terms.{terms_in, names_truth}
use Rattle.semantics.specs.Fits.{fits_of}
use Rattle.semantics.specs.Reading.{is_true, is_truth, nth, readings, value_outcome, result_outcome, numbers_taken, result_taken, read_in, read_outcome, read_of}
use Rattle.semantics.specs.Goals.{NamesWord}
use Rattle.circuits.specs.Gates.{clauses_true}
use Rattle.circuits.proofs.Gates.{and_l, and_r, all_append}
use Rattle.terms.proofs.Tables.{terms_length}
use Rattle.typing.proofs.Grown.{still, Sort, truth_at, value_at}
use Rattle.typing.proofs.Formed.{both}
use Rattle.certainty.specs.Certain.{Words}
use Rattle.certainty.proofs.Worded.{AreWords, table_words}
use Rattle.certainty.proofs.Free.{Fitting, fitting}
use Rattle.clauses.specs.Clauses.{truth_variable, table_clauses, goal_clauses, clauses_for, clauses_of_call}
use Rattle.models.specs.Models.{Reaches, Reachable, Satisfiable, Exactly, ClausesExact, numbers_of, ModelIsReading}
use Rattle.models.proofs.Held.{held, held_truth, truth_held}
use Rattle.models.proofs.Meets.{wires, MeetsUnder, clauses_meet, meet_clauses, meets_free, meets_fixed}
use Rattle.models.proofs.Readings.{truth_reads, reads, one_true_lem}
use Rattle.models.proofs.Exist.{exist}
use Rattle.models.proofs.Goals.{goal_sound, goal_complete}
use Rattle.models.proofs.Inputs.{numbers_length_lem, numbers_words, unique, agrees, numbers_taken_lem, small_of}

-- ---- reading, where no test refuses
read_is : (x : Session) (s ns : List ℕ) (r : Result) → fits_of x s ≡ true → result_taken (terms_in s x.count) r ≡ true → numbers_taken x.inputs ns ≡ true
    → (work : List ℕ) → x.count ≤ length work → (read_of x s ns r work).0 ≡ read_in (readings ns (terms_in s x.count)) r
unfolding read_of read_outcome unless◌then◌else◌ if◌below◌then◌else◌
read_is x s ns r f g t work l = rw (f, t, g, le-ltb (length work) x.count l)

-- 14 looked at the result's terms
pub record Named (ts : List Term) (r : Result) : Type 0 where
  pub assumed : Sort truth_term ts r.state.assumed
  pub asserted : Sort truth_term ts r.state.asserted
  pub value : r.halted ≡ false → r.value < length ts

pub named_result : (ts : List Term) (r : Result) → result_taken ts r ≡ true → Named ts r
unfolding result_taken when◌then◌else◌
named_result ts r h =
    both (names_truth ts r.state.assumed) _ h λ a h.
    both (names_truth ts r.state.asserted) _ h λ b h.
    record { assumed = truth_at ts _ a; asserted = truth_at ts _ b; value = λ e. (value_at ts r.value (rw e at h)).low }

-- a work list that is long enough
pub some_work : (n : ℕ) → (work : List ℕ) × (n ≤ length work)
some_work zero = ([], omega arith)
some_work (suc n) = let w = some_work n in (0 ∷ w.0, (let l = w.1 in omega arith))

-- ---- of a table that 3 takes and whose word constants are words, a result that 14 takes, and a goal
module _ (x : Session) (s : List ℕ) (r : Result) (g : Goal) (sixteen : length x.inputs ≡ input_count) (worded : AreWords (terms_in s x.count))
    (word : NamesWord g) (fits : fits_of x s ≡ true) (result : result_taken (terms_in s x.count) r ≡ true) where
  abbrev ts : List Term
  ts = terms_in s x.count

  fitted : Fitting x s
  fitted = fitting x s sixteen fits

  -- what values of the variables that meet the gates say of the result
  module _ (ns : List ℕ) (words : Words ns) (n : length ns ≡ input_count) (taken : numbers_taken x.inputs ns ≡ true) (τ : ℕ → Bool) (m : MeetsUnder ns τ x.count ts) where
    sees : (k : ℕ) → k < length ts → held (wires τ k) ≡ nth (readings ns ts) k
    sees =
        reads ns words x.accepted x.count τ (one_true_lem ns τ x.count fitted.base m) ts fitted.formed (small_of x.inputs ns taken (omega arith) ts fitted.free) worded m

    sees_truth : (k : ℕ) → Sort truth_term ts k → is_true (nth (readings ns ts) k) ≡ τ (truth_variable k)
    sees_truth k h =
        ap is_true (sym (sees k h.low)) ∙ truth_held (wires τ k) (held_truth (wires τ k) (ap is_truth (sees k h.low) ∙ truth_reads ns ts k h))

    outcome : read_in (readings ns ts) r ≡ result_outcome (τ (truth_variable r.state.assumed)) (τ (truth_variable r.state.asserted)) r.halted (held (wires τ r.value))
    unfolding read_in result_outcome when◌then◌else◌
    outcome =
        let a = named_result ts r result in
        rw (sees_truth r.state.assumed a.assumed, sees_truth r.state.asserted a.asserted) (go r.halted refl a.value)
      where
        go : (h : Bool) → r.halted ≡ h → (r.halted ≡ false → r.value < length ts)
            → pick (τ (truth_variable r.state.asserted)) (pick (τ (truth_variable r.state.assumed)) (pick h Error (value_outcome (nth (readings ns ts) r.value))) Abort) Error
            ≡ pick (τ (truth_variable r.state.asserted)) (pick (τ (truth_variable r.state.assumed)) (pick h Error (value_outcome (held (wires τ r.value)))) Abort) Error
        go true e l = refl
        go false e l = rw (sees r.value (l e))

  -- whatever satisfies the clauses is a reading
  pub satisfied : (τ : ℕ → Bool) → clauses_true τ (clauses_of_call x s r g) ≡ true → Reaches x s r g (numbers_of τ ts)
  unfolding clauses_for
  satisfied τ e =
      let a = clauses_true τ (table_clauses x.count ts) in
      let b = clauses_true τ (goal_clauses r g) in
      let k : (a && b) ≡ true = sym (all_append τ (table_clauses x.count ts) (goal_clauses r g)) ∙ e in
      let m = clauses_meet τ x.count ts (and_l a b k) in
      let ns = numbers_of τ ts in
      let taken = numbers_taken_lem τ x.count x.accepted x.inputs ts fitted.formed fitted.free m in
      let u = unique x.inputs x.accepted ts fitted.formed fitted.free in
      let mu = meets_fixed ns τ x.count (numbers_words τ ts) ts (agrees τ x.accepted ts u ts still fitted.formed x.count) m in
      record {
        sixteen = numbers_length_lem τ ts;
        words = numbers_words τ ts;
        taken = taken;
        reads = λ work l. read_is x s ns r fits result taken work l
            ∙ (outcome ns (numbers_words τ ts) (numbers_length_lem τ ts) taken τ mu ∙ goal_sound τ r g word (and_r a b k));
      }

  -- where a reading reaches the goal, something satisfies them
  pub satisfiable : Reachable x s r g → Satisfiable (clauses_of_call x s r g)
  unfolding clauses_for
  satisfiable h =
      let ns = h.numbers in
      let k = h.reaches in
      let w = some_work x.count in
      let ex = exist ns x.accepted {ts = ts} x.count (let l = terms_length s x.count in omega arith) fitted.base fitted.formed in
      let τ = ex.0 in
      let m = ex.1 in
      let n = k.sixteen in
      record {
        values = τ;
        satisfied = all_append τ (table_clauses x.count ts) (goal_clauses r g)
            ∙ rw (
              meet_clauses τ x.count ts (meets_free ns τ x.count ts (small_of x.inputs ns k.taken (omega arith) ts fitted.free) m),
              goal_complete τ r g word (sym (outcome ns k.words k.sixteen k.taken τ m) ∙ (sym (read_is x s ns r fits result k.taken w.0 w.1) ∙ k.reads w.0 w.1)),
            );
      }

  pub exactly : Exactly x s r g
  exactly = record { satisfiable = satisfiable; reachable = λ h. record { numbers = numbers_of h.values ts; reaches = satisfied h.values h.satisfied } }

-- The theorems.
pub clauses_exact : ClausesExact
clauses_exact x s r g t = exactly x s r g t.inputs (table_words s t.bytes x.count) t.named t.fits t.result

pub model_is_reading : ModelIsReading
model_is_reading x s r g t = satisfied x s r g t.inputs (table_words s t.bytes x.count) t.named t.fits t.result
