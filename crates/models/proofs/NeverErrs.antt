-- UNSATISFIED NEVER ERRS: where the clauses for "errs" of a session kept from its opening can't be satisfied, no reading of the last accepted result
-- is an error, and no run of the accepted rules is. Assumes nothing.
use mathlib.Core.Path.{◌≡◌, refl, sym, ap, subst, ◌∙◌}
use mathlib.Core.Bool.{Bool, true, false}
use mathlib.Core.List.{List}
use Prim.Native.Nat.{ℕ, ◌<◌, ◌≤◌}
use native.Mathlib.Omega.{arith}
use lib.ListN.{length}
use Rattle.notation.specs.Notation.{unless◌then◌else◌}
use Rattle.semantics.specs.declared.Input.{Input}
use Rattle.semantics.specs.declared.Session.{Session}
use Rattle.semantics.specs.declared.Result.{Result}
use Rattle.semantics.specs.declared.Goal.TheVariants.{Errs}
use Rattle.semantics.specs.declared.Outcome.{Outcome}
use Rattle.semantics.specs.declared.Outcome.TheVariants.{Error, Refused}
use Rattle.semantics.specs.Numbers.{input_count, bad_result}
use Rattle.semantics.specs.Terms.{terms_in}
use Rattle.semantics.specs.Fits.{fits_of}
use Rattle.semantics.specs.Reading.{numbers_taken, result_taken, read_outcome, read_of}
use Rattle.semantics.specs.Run.{Ended}
use Rattle.semantics.specs.PlainRun.{ended_outcome}
use Rattle.semantics.specs.History.{History, begun, called_all, run_of_rules}
use Rattle.demands.specs.Demand3.{Stands}
use Rattle.demands.proofs.Holds.{holds_fits}
use Rattle.demands.proofs.Live.{Live, live_begun}
use Rattle.demands.proofs.Demand3.{accepts, live_all, demand_3}
use Rattle.certainty.specs.Certain.{Words}
use Rattle.certainty.proofs.Worded.{HistoryWords, history_words}
use Rattle.certainty.proofs.Errs.{errs_some, errs_error}
use Rattle.clauses.specs.Clauses.{clauses_of_call}
use Rattle.models.specs.Models.{Satisfiable, UnsatisfiedNeverErrs}
use Rattle.models.proofs.Theorems.{some_work, satisfiable}

-- a reading of a result that 14 does not take is refused
read_refused : (x : Session) (s ns : List ℕ) (r : Result) (work : List ℕ) → fits_of x s ≡ true → numbers_taken x.inputs ns ≡ true → result_taken (terms_in s x.count) r ≡ false
    → (read_of x s ns r work).0 ≡ Refused bad_result
unfolding read_of read_outcome unless◌then◌else◌
read_refused x s ns r work f t g = rw (f, t, g)

-- ---- of a history, under sixteen numbers
module _ (xs : List Input) (sixteen : length xs ≡ input_count) (h : History) (same : h.session.inputs ≡ xs) (fits : fits_of h.session h.table ≡ true) (worded : HistoryWords h) (stands : Stands xs h)
    (ns : List ℕ) (n : length ns ≡ input_count) (words : Words ns) (taken : numbers_taken xs ns ≡ true) where
  abbrev ended : Ended
  ended = run_of_rules xs ns h.rules

  taken_here : numbers_taken h.session.inputs ns ≡ true
  taken_here = ap (λ ys. numbers_taken ys ns) same ∙ taken

  -- reading gives what the run gives (demand 3), with any work list that is long enough
  reads_as : 0 < length h.rules → (work : List ℕ) → h.session.count ≤ length work → (read_of h.session h.table ns h.result work).0 ≡ ended_outcome ended
  reads_as some work l = ap (λ (o : Outcome × List ℕ). o.0) (stands.reads some ns work n taken l)

  -- so the result is one that 14 takes
  result_taken_lem : 0 < length h.rules → result_taken (terms_in h.table h.session.count) h.result ≡ true
  result_taken_lem some = go (result_taken (terms_in h.table h.session.count) h.result) refl
    where
      go : (b : Bool) → result_taken (terms_in h.table h.session.count) h.result ≡ b → b ≡ true
      go true e = refl
      go false e =
          let w = some_work h.session.count in
          absurd (stands.answered ns n bad_result (sym (reads_as some w.0 w.1) ∙ read_refused h.session h.table ns h.result w.0 fits taken_here e))

  -- and an error satisfies the clauses
  error_satisfies : 0 < length h.rules → ended_outcome ended ≡ Error → Satisfiable (clauses_of_call h.session h.table h.result Errs)
  error_satisfies some e =
      satisfiable h.session h.table h.result Errs (ap length same ∙ sixteen) worded tt fits (result_taken_lem some)
      (record { numbers = ns; reaches = record { sixteen = n; words = words; taken = taken_here; reads = λ work l. reads_as some work l ∙ e } })

-- The theorem.
pub unsatisfied_never_errs : UnsatisfiedNeverErrs
unsatisfied_never_errs xs table sixteen inputs e calls rules h eh never numbers n words taken =
    let a = accepts xs table e in
    let many : input_count ≤ length numbers = omega arith in
    let live : Live xs sixteen a.good (length table) a.size numbers many h =
    subst (Live xs sixteen a.good (length table) a.size numbers many) (sym (eh ∙ ap (λ o. called_all (begun o) calls) a.is))
    (live_all xs sixteen a.good (length table) a.size numbers many _ calls (live_begun xs sixteen a.good (length table) a.size numbers many _)) in
    let stands : Stands xs h = subst (Stands xs) (sym eh) (demand_3 xs table sixteen e calls) in
    let worded : HistoryWords h = subst HistoryWords (sym eh) (history_words xs table sixteen inputs e calls rules) in
    let fits : fits_of h.session h.table ≡ true = holds_fits xs sixteen a.good (length table) a.size live.holds in
    let errs_here : 0 < length h.rules → ended_outcome (run_of_rules xs numbers h.rules) ≡ Error → ⊥ =
    λ some z. never (error_satisfies xs sixteen h live.holds.inputs fits worded stands numbers n words taken some z) in
    record {
      reading = λ some work l z. errs_here some (sym (reads_as xs sixteen h live.holds.inputs fits worded stands numbers n words taken some work l) ∙ z);
      run = λ z. errs_here (errs_some xs numbers h.rules z) (errs_error (run_of_rules xs numbers h.rules) z);
    }
