-- WITNESS RUNS, NONE RUNS and NONE NEVER ERRS: with demand 3, what is found or not found of the last accepted rule's result is so of the run of the accepted
-- rules. Assumes nothing.
use mathlib.Core.Path.{◌≡◌, sym, ap, subst, ◌∙◌}
use mathlib.Core.Bool.{Bool, true}
use mathlib.Core.List.{List}
use Prim.Native.Nat.{ℕ, ◌<◌, ◌≤◌}
use native.Mathlib.Omega.{arith}
use lib.ListN.{length, replicate, length-replicate}
use Rattle.semantics.specs.declared.Input.{Input}
use Rattle.semantics.specs.declared.Goal.TheVariants.{Errs}
use Rattle.semantics.specs.declared.Outcome.{Outcome}
use Rattle.semantics.specs.Numbers.{input_count}
use Rattle.semantics.specs.PlainRun.{ended_outcome}
use Rattle.semantics.specs.Reading.{read_of}
use Rattle.firsts.specs.Witness.{no_hit}
use Rattle.semantics.specs.History.{Call, History, begun, called_all, run_of_rules}
use Rattle.demands.specs.Demand3.{Stands}
use Rattle.demands.proofs.Live.{Live, live_begun}
use Rattle.demands.proofs.Demand3.{accepts, live_all, demand_3}
use Rattle.certainty.proofs.Errs.{errs_some, errs_error}
use Rattle.shown.specs.Shown.{found, Counts, Lent, Kept, WitnessRuns, NoneRuns, NoneNeverErrs}
use Rattle.shown.proofs.Readings.{answered}
use Rattle.shown.proofs.Theorems.{witness_reaches, none_means_none}

-- ---- a history from an accepted opening
module _ (xs : List Input) (table : List ℕ) (calls : List Call) (h : History) (lows highs : List ℕ) (kept : Kept xs table calls h lows highs) where
  -- the session has the inputs of the opening
  same : (numbers : List ℕ) → length numbers ≡ input_count → h.session.inputs ≡ xs
  same numbers n =
      let a = accepts xs table kept.opened in
      let many : input_count ≤ length numbers = omega arith in
      let live : Live xs kept.inputs a.good (length table) a.size numbers many h =
      subst (Live xs kept.inputs a.good (length table) a.size numbers many) (sym (kept.left ∙ ap (λ o. called_all (begun o) calls) a.is))
      (live_all xs kept.inputs a.good (length table) a.size numbers many _ calls (live_begun xs kept.inputs a.good (length table) a.size numbers many _)) in
      live.holds.inputs

  stands : Stands xs h
  stands = subst (Stands xs) (sym kept.left) (demand_3 xs table kept.inputs kept.opened calls)

  lent : h.session.inputs ≡ xs → Lent h.session lows highs
  lent e = record { inputs = ap length e ∙ kept.inputs; lows_sixteen = kept.lows_sixteen; highs_sixteen = kept.highs_sixteen; words = kept.words }

  -- what a run comes to, reading gives
  reads : 0 < length h.rules → (ns work : List ℕ) (spanned : Bool) → Counts xs spanned lows highs ns → h.session.count ≤ length work
      → (read_of h.session h.table ns h.result work).0 ≡ ended_outcome (run_of_rules xs ns h.rules)
  reads some ns work spanned c l = ap (λ (o : Outcome × List ℕ). o.0) (stands.reads some ns work c.sixteen c.taken l)

-- THE RUN under what is found comes to the goal.
pub witness_runs : WitnessRuns
witness_runs xs table calls h g spanned lows highs work ns kept some e =
    let same_here = same xs table calls h lows highs kept in
    let a = answered h.session h.table h.result g spanned lows highs work (record { found = true; numbers = ns }) e in
    let zeros = same_here (replicate input_count 0) (length-replicate {A = ℕ} input_count 0) in
    let r = witness_reaches h.session h.table h.result g spanned lows highs work ns (lent xs table calls h lows highs kept zeros) e in
    let c : Counts xs spanned lows highs ns = subst (λ ys. Counts ys spanned lows highs ns) zeros r.counts in
    sym (reads xs table calls h lows highs kept some ns work spanned c a.taken.enough) ∙ r.reads

-- WHERE NONE IS FOUND, no run under a reading that counts does.
pub none_runs : NoneRuns
none_runs xs table calls h g spanned lows highs work kept some e ms c z =
    let same_here = same xs table calls h lows highs kept ms c.sixteen in
    let a = answered h.session h.table h.result g spanned lows highs work no_hit e in
    none_means_none h.session h.table h.result g spanned lows highs work (lent xs table calls h lows highs kept same_here) e ms (subst (λ ys. Counts ys spanned lows highs ms) (sym same_here) c)
    (reads xs table calls h lows highs kept some ms work spanned c a.taken.enough ∙ z)

-- "NONE" FOR THE ERROR means that no reading of the result and no run errs.
pub none_never_errs : NoneNeverErrs
none_never_errs xs table calls h spanned lows highs work kept e ms c =
    record {
      reading = λ some own l z. none_runs xs table calls h Errs spanned lows highs work kept some e ms c (sym (reads xs table calls h lows highs kept some ms own spanned c l) ∙ z);
      run = λ z. none_runs xs table calls h Errs spanned lows highs work kept (errs_some xs ms h.rules z) e ms c (errs_error (run_of_rules xs ms h.rules) z);
    }
