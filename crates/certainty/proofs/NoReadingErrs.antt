-- NO READING ERRS: where the asserted formula of a session kept from its opening can only be true, no reading in the spans is an error, and no run of the
-- accepted rules is. Assumes nothing.
use mathlib.Core.Path.{◌≡◌, sym, ap, subst, ◌∙◌}
use mathlib.Core.Bool.{Bool, true, false}
use mathlib.Core.List.{List, [], ◌∷◌}
use Prim.Native.Nat.{ℕ, ◌≤◌}
use native.Mathlib.Omega.{arith}
use lib.ListN.{length}
use Rattle.notation.specs.Notation.{every}
use Rattle.semantics.specs.declared.Term.{Term}
use Rattle.semantics.specs.declared.Input.{Input}
use Rattle.semantics.specs.declared.State.{State}
use Rattle.semantics.specs.declared.Outcome.{Outcome}
use Rattle.semantics.specs.Numbers.{input_count}
use Rattle.semantics.specs.Terms.{terms_in}
use Rattle.semantics.specs.Opening.{bad_table_size, input_taken}
use Rattle.semantics.specs.Reading.{is_true, nth, readings}
use Rattle.semantics.specs.Spans.{only_true, report_at, reports_in, report_in}
use Rattle.semantics.specs.Run.{Value, truth, Ended, gives, errs}
use Rattle.semantics.specs.History.{History, begun, called_all, run_of_rules}
use Rattle.soundness.proofs.Link.{reading_in, Small, true_same, reading_link}
use Rattle.soundness.proofs.Sim.{ends, on}
use Rattle.demands.specs.Demand3.{Stands}
use Rattle.demands.proofs.Holds.{holds_terms}
use Rattle.demands.proofs.Live.{Live, live_begun}
use Rattle.demands.proofs.Demand3.{accepts, live_all, demand_3}
use Rattle.certainty.specs.Certain.{Words, Within, NoReadingErrs}
use Rattle.certainty.proofs.Worded.{HistoryWords, history_words}
use Rattle.certainty.proofs.Covers.{reads_true}
use Rattle.certainty.proofs.Errs.{error_errs}
use Rattle.certainty.proofs.Listed.{Given, given, report_read}
use Rattle.certainty.proofs.SpansHold.{AllSure, all_sure, spans_cover}

-- each free truth is given 0 or 1
small_numbers : (xs : List Input) (lows highs ns : List ℕ) (ts : List Term) → AllSure xs lows highs ns ts → Small ns ts
small_numbers xs lows highs ns [] a = tt
small_numbers xs lows highs ns (t ∷ ts) a = ((λ k. let b = a.0.truth k in omega arith), small_numbers xs lows highs ns ts a.1)

-- a run is no error that is seen with T true
no_errs : (s t : Bool) (v : Value) (o : Ended) → t ≡ true → on s t (gives v) ≡ ends o → o ≡ errs → ⊥
no_errs true true v o i e k = let z : ◌≡◌ {A = ℕ} 0 1 = cc in omega arith
no_errs false true v o i e k = let z : ◌≡◌ {A = ℕ} 0 1 = cc in omega arith
no_errs s false v o i e k = let z : ◌≡◌ {A = ℕ} 0 1 = cc in omega arith

-- ---- of a history, under sixteen numbers within the spans
module _ (xs : List Input) (sixteen : length xs ≡ input_count) (good : every input_taken xs ≡ true) (l : ℕ) (size : bad_table_size l ≡ false) (ns : List ℕ) (many : input_count ≤ length ns)
    (h : History) (live : Live xs sixteen good l size ns many h) (words : HistoryWords h) (lows highs list reported : List ℕ) (nl : length lows ≡ input_count)
    (nh : length highs ≡ input_count) (tops : Words highs) (gave : Given h.session h.table lows highs list reported)
    (only : only_true (report_in reported h.session.state.asserted) ≡ true) (within : Within xs lows highs ns) where
  abbrev asserted : ℕ
  asserted = h.session.state.asserted

  -- the session has the inputs of the opening
  sixteen_here : length h.session.inputs ≡ input_count
  sixteen_here = rw live.holds.inputs sixteen

  within_here : Within h.session.inputs lows highs ns
  within_here = subst (λ ys. Within ys lows highs ns) (sym live.holds.inputs) within

  -- what is reported of T
  asserted_only : only_true (report_at (reports_in h.session h.table lows highs) asserted) ≡ true
  asserted_only =
      let low = live.holds.state.asserted.low in let c = live.holds.count in
      ap only_true (sym (ap (λ m. report_in m asserted) (sym gave.is) ∙ report_read h.session h.table lows highs list gave.room asserted (omega arith))) ∙ only

  -- and so what it reads as
  asserted_true : is_true (nth (readings ns (terms_in h.table h.session.count)) asserted) ≡ true
  asserted_true = reads_true (spans_cover h.session h.table lows highs ns sixteen_here words nl nh tops gave.fits within_here asserted) asserted_only

  -- the same, of the invariant's terms
  terms_are : terms_in h.table h.session.count ≡ live.terms
  terms_are = holds_terms xs sixteen good l size live.holds

  -- the numbers are such that reading gives what terms mean
  small : Small ns live.terms
  small =
      subst (Small ns) terms_are (small_numbers h.session.inputs lows highs ns (terms_in h.table h.session.count)
      (all_sure h.session h.table lows highs ns sixteen_here words nl nh tops gave.fits within_here))

  -- what T reads as is what it means
  means_read : is_true (nth (readings ns live.terms) live.read.state.asserted) ≡ live.sim.t
  means_read =
      ap is_true (reading_link ns h.session.accepted live.terms live.holds.fit.formed small live.read.state.asserted ∙ ap reading_in live.sim.state.T.is)
      ∙ true_same (truth live.sim.t)

  -- and so it means true
  means_true : live.sim.t ≡ true
  means_true =
      sym means_read ∙ (ap (λ (y : State). is_true (nth (readings ns live.terms) y.asserted)) live.state
      ∙ (ap (λ ts. is_true (nth (readings ns ts) asserted)) (sym terms_are) ∙ asserted_true))

  -- The run of the accepted rules does not err.
  run_never_errs : run_of_rules xs ns h.rules ≡ errs → ⊥
  run_never_errs = no_errs live.sim.s live.sim.t live.sim.v (run_of_rules xs ns h.rules) means_true live.sim.sees

-- The theorem. Reading gives what the run gives (demand 3).
pub no_reading_errs : NoReadingErrs
no_reading_errs xs table sixteen inputs e calls rules h eh lows highs list reported nl nh tops said only numbers within =
    let a = accepts xs table e in
    let n = within.sixteen in
    let many : input_count ≤ length numbers = omega arith in
    let live : Live xs sixteen a.good (length table) a.size numbers many h =
    subst (Live xs sixteen a.good (length table) a.size numbers many) (sym (eh ∙ ap (λ o. called_all (begun o) calls) a.is))
    (live_all xs sixteen a.good (length table) a.size numbers many _ calls (live_begun xs sixteen a.good (length table) a.size numbers many _)) in
    let stands : Stands xs h = subst (Stands xs) (sym eh) (demand_3 xs table sixteen e calls) in
    let words : HistoryWords h = subst HistoryWords (sym eh) (history_words xs table sixteen inputs e calls rules) in
    let runs : run_of_rules xs numbers h.rules ≡ errs → ⊥ =
    run_never_errs xs sixteen a.good (length table) a.size numbers many h live words lows highs list reported nl nh tops (given h.session h.table lows highs list reported said) only within in
    record {
      reading = λ some work long z.
          runs (error_errs (run_of_rules xs numbers h.rules) (sym (ap (λ (o : Outcome × List ℕ). o.0) (stands.reads some numbers work n within.taken long)) ∙ z));
      run = runs;
    }
