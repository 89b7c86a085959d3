-- DEMAND 3, of every list of calls from an accepted opening on. Assumes nothing.
use mathlib.Core.Path.{◌≡◌, refl, sym, ap, ◌∙◌}
use mathlib.Core.Bool.{Bool, true, false, ◌||◌}
use mathlib.Core.List.{List, [], ◌∷◌}
use Prim.Native.Nat.{ℕ, ◌<◌, ◌≤◌}
use native.Mathlib.Omega.{arith}
use lib.ListN.{length, replicate, length-replicate}
use borrow.Author.Tests.{le-ltb}
use Rattle.notation.specs.Notation.{pick, with, when◌then◌else◌, if◌below◌then◌else◌, unless◌then◌else◌, every}
use Rattle.semantics.specs.declared.Term.{Term}
use Rattle.semantics.specs.declared.Input.{Input}
use Rattle.semantics.specs.declared.State.{State}
use Rattle.semantics.specs.declared.Result.{Result}
use Rattle.semantics.specs.declared.Session.{Session}
use Rattle.semantics.specs.declared.Answer.TheVariants.{Halt, Refused}
use Rattle.semantics.specs.declared.Outcome.{Outcome}
use Rattle.semantics.specs.declared.Outcome.TheVariants.{Refused as NoOutcome}
use Rattle.semantics.specs.Numbers.{input_count, most_table, table_size, bad_input, misfit, call_too_wide, table_full, depth_spent}
use Rattle.semantics.specs.Terms.{terms_in, image_of}
use Rattle.semantics.specs.Steps.{setting_of, Got, gave, refused}
use Rattle.semantics.specs.Opening.{bad_table_size, input_taken, opening, session_of, open_refused, open_of}
use Rattle.semantics.specs.Fits.{no_free, fits_of}
use Rattle.semantics.specs.Evaluate.{refused_by, halted_again, left}
use Rattle.semantics.specs.Reading.{is_true, nth, readings, numbers_taken, result_taken, read_in, read_outcome, read_of}
use Rattle.semantics.specs.Run.{truth, word, procedure, binding, none, Ended, gives, aborts, errs, spends, inputs_bound}
use Rattle.semantics.specs.PlainRun.{value_given, ended_outcome}
use Rattle.semantics.specs.History.{Call, History, called, called_all, ran_on, run_of_rules}
use Rattle.typing.proofs.Grown.{truth_named}
use Rattle.typing.proofs.Formed.{never}
use Rattle.typing.proofs.Later.{fit_later}
use Rattle.typing.proofs.Ruled.{ruled}
use Rattle.soundness.proofs.Link.{reading_in, Small, true_same, reading_link}
use Rattle.soundness.proofs.Outcomes.{reads_as, never_both, not_spent, gives_proper}
use Rattle.soundness.proofs.Onward.{ran_at, halted_on, ran_out}
use Rattle.soundness.proofs.Inputs.{opening_small}
use Rattle.demands.specs.Demand3.{answer_to, one_true, all_constants, Stands, Demand3}
use Rattle.demands.proofs.Longer.{Adds, none as no_more, one}
use Rattle.demands.proofs.Refusals.{Known, result, eval_known, too_wide as known-wide, full as known-full, spent as known-spent}
use Rattle.demands.proofs.Answers.{failed_number}
use Rattle.demands.proofs.Demand1.{out_refused, refused_same, demand_1}
use Rattle.demands.proofs.Holds.{begun as opening-begun, holds_fits, holds_terms}
use Rattle.demands.proofs.Live.{answer, called_refused, Live, live_begun, Said, test, still, out, stop, said, live_called}

-- ---- refusals that are the same
got_same : {A : Type 0} {n m : ℕ} → ◌≡◌ {A = Got A} (refused n) (refused m) → n ≡ m
got_same e = cc

-- ---- numbers for the free truths
small_adds : (ns : List ℕ) {r : ℕ} {os ts : List Term} → Small ns os → Adds r os ts → Small ns ts
unfolding no_free
small_adds ns s no_more = s
small_adds ns s (one {us = us} {t = t} n l a) = ((λ k. never (rw k at n)), small_adds ns s a)

-- a reading that no number refuses
read_taken : (x : Session) (s ns : List ℕ) (q : Result) (work : List ℕ) (ts : List Term) {v : Outcome} → fits_of x s ≡ true → numbers_taken x.inputs ns ≡ true
    → terms_in s x.count ≡ ts → result_taken ts q ≡ true → x.count ≤ length work → read_in (readings ns ts) q ≡ v → read_of x s ns q work ≡ (v, replicate (length work) 0)
unfolding read_of read_outcome unless◌then◌else◌ if◌below◌then◌else◌
read_taken x s ns q work ts f n t r l e = rw (f, n, t, r, le-ltb _ _ l, e)

-- ---- what a list of calls leaves
module _ (xs : List Input) (sixteen : length xs ≡ input_count) (good : every input_taken xs ≡ true) (l : ℕ) (size : bad_table_size l ≡ false) (h : History)
    (lives : (ns : List ℕ) (many : input_count ≤ length ns) → Live xs sixteen good l size ns many h) where
  abbrev zeros : List ℕ
  zeros = replicate input_count 0

  enough : input_count ≤ length zeros
  enough = let e : length zeros ≡ input_count = length-replicate {A = ℕ} input_count 0 in omega arith

  fits : fits_of h.session h.table ≡ true
  fits = holds_fits xs sixteen good l size (lives zeros enough).holds

  -- a call that is refused leaves everything as it was
  module _ (k : Call) where
    never_out : {P : Type 0} (w : Result) (u n : ℕ) (us : List Term) → answer h k ≡ left h.session h.table (gave us w u) → answer_to h k ≡ Refused n → P
    never_out w u n us q e = out_refused w u n (sym (ap (λ o. o.0.answer) q) ∙ e)

    never_still : {P : Type 0} (n : ℕ) → answer h k ≡ halted_again h.session h.table → answer_to h k ≡ Refused n → P
    unfolding halted_again
    never_still n q e = let i : Halt h.session.state 1 ≡ Refused n = sym (ap (λ o. o.0.answer) q) ∙ e in let z : ◌≡◌ {A = ℕ} 0 1 = cc in absurd (omega arith)

    refusal_is : (n m : ℕ) → answer h k ≡ refused_by n h.session h.table → answer_to h k ≡ Refused m → n ≡ m
    unfolding refused_by
    refusal_is n m q e = refused_same (sym (ap (λ o. o.0.answer) q) ∙ e)

    refusal_of : (n : ℕ) → answer h k ≡ refused_by n h.session h.table → answer_to h k ≡ Refused n
    unfolding refused_by
    refusal_of n q = ap (λ o. o.0.answer) q

    module _ (ns : List ℕ) (many : input_count ≤ length ns) where
      live : Live xs sixteen good l size ns many h
      live = lives ns many

      why : Said xs sixteen good l size ns many h live k
      why = said xs sixteen good l size ns many h live k

      not_misfit : answer_to h k ≡ Refused misfit → ⊥
      not_misfit e = go why
        where
          known : (g : Got Result) → Known g → g ≡ refused misfit → ⊥
          known g result q = let z : ◌≡◌ {A = ℕ} 0 1 = cc in omega arith
          known g known-wide q = let z : call_too_wide ≡ misfit = got_same q in omega arith
          known g known-full q = let z : table_full ≡ misfit = got_same q in omega arith
          known g known-spent q = let z : depth_spent ≡ misfit = got_same q in omega arith

          go : Said xs sixteen good l size ns many h live k → ⊥
          go (test n z i q) = (failed_number k.rule k.allowance h.session h.table fits).0 (z ∙ refusal_is n misfit q e)
          go (still p j q) = never_still misfit q e
          go (out p us w u i q) = never_out w u misfit us q e
          go (stop p j n i q) = known _ (eval_known k.rule _ k.allowance 0 _ _ _ _) (i ∙ ap refused (refusal_is n misfit q e))

      leaves : (m : ℕ) → answer_to h k ≡ Refused m → called h k ≡ h
      leaves m e = go why
        where
          go : Said xs sixteen good l size ns many h live k → called h k ≡ h
          go (test n z i q) = called_refused h k n q
          go (still p j q) = never_still m q e
          go (out p us w u i q) = never_out w u m us q e
          go (stop p j n i q) = called_refused h k n q

      -- with constants alone, a refusal for depth is a run that spends the allowance
      module _ (c : all_constants xs ≡ true) where
        abbrev Spends : Type 0
        Spends = ran_on (inputs_bound xs ns) (run_of_rules xs ns h.rules) k.rule k.allowance ≡ spends

        deep_runs : answer_to h k ≡ Refused depth_spent → Spends
        deep_runs e = go why
          where
            go : Said xs sixteen good l size ns many h live k → Spends
            go (test n z i q) =
                let a = (failed_number k.rule k.allowance h.session h.table fits).1 in let b = refusal_is n depth_spent q e in absurd (omega arith)
            go (still p j q) = never_still depth_spent q e
            go (out p us w u i q) = never_out w u depth_spent us q e
            go (stop p j n i q) =
                ran_out xs sixteen many k.rule p.rule_taken (ruled k.rule p.rule_taken) live.sim h.session.accepted (opening xs).environment
                (fit_later live.holds.fit) live.environment l k.allowance (live.halts ∙ j) (live.constant c) (i ∙ ap refused (refusal_is n depth_spent q e))

        deep_refused : ((n : ℕ) → answer_to h k ≡ Refused n → n ≡ depth_spent) → Spends → answer_to h k ≡ Refused depth_spent
        deep_refused other z = go why
          where
            go : Said xs sixteen good l size ns many h live k → answer_to h k ≡ Refused depth_spent
            go (test n i j q) = let e = refusal_of n q in e ∙ ap Refused (other n e)
            go (still p j q) =
                absurd (not_spent (halted_on xs sixteen many k.rule p.rule_taken (ruled k.rule p.rule_taken) live.sim k.allowance live.holds.fit (live.halts ∙ j)) z)
            go (out p us w u i q) =
                absurd (not_spent (ran_at xs sixteen many k.rule p.rule_taken (ruled k.rule p.rule_taken) live.sim h.session.accepted (opening xs).environment
                (fit_later live.holds.fit) live.environment l k.allowance i).holds z)
            go (stop p j n i q) = let e = refusal_of n q in e ∙ ap Refused (other n e)

  -- reading
  module _ (ns : List ℕ) (sized : length ns ≡ input_count) where
    many : input_count ≤ length ns
    many = omega arith

    read : Live xs sixteen good l size ns many h
    read = lives ns many

    terms_read : terms_in h.table h.session.count ≡ read.terms
    terms_read = holds_terms xs sixteen good l size read.holds

    module _ (taken : numbers_taken xs ns ≡ true) where
      small : Small ns read.terms
      small = small_adds ns (opening_small ns xs (omega arith) taken (setting_of most_table) (opening-begun xs sixteen).gives) read.holds.adds

      result_taken_lem : result_taken read.terms read.read ≡ true
      unfolding result_taken when◌then◌else◌
      result_taken_lem = rw (truth_named read.sim.state.S.sort, truth_named read.sim.state.T.sort, read.sim.value.named.is) (go read.read.halted)
        where
          go : (b : Bool) → pick b true true ≡ true
          go true = refl
          go false = refl

      reads_so : 0 < length h.rules → (work : List ℕ) → h.session.count ≤ length work
          → read_of h.session h.table ns h.result work ≡ (ended_outcome (run_of_rules xs ns h.rules), replicate (length work) 0)
      reads_so some work long = ap (λ q. read_of h.session h.table ns q work) (sym (read.last some))
          ∙ read_taken h.session h.table ns read.read work read.terms fits (ap (λ ys. numbers_taken ys ns) read.holds.inputs ∙ taken) terms_read result_taken_lem long
          (reads_as read.sim read.holds.fit small)

      -- one of two formulas reads as true
      abbrev OneOf : List Term → State → Bool
      OneOf ts y = is_true (nth (readings ns ts) y.assumed) || is_true (nth (readings ns ts) y.asserted)

      one_read : OneOf read.terms read.read.state ≡ true
      one_read =
          let link = reading_link ns h.session.accepted read.terms read.holds.fit.formed small in
          let a = link read.read.state.assumed ∙ ap reading_in read.sim.state.S.is in
          let b = link read.read.state.asserted ∙ ap reading_in read.sim.state.T.is in
          rw (a, b, true_same (truth read.sim.s), true_same (truth read.sim.t)) (never_both read.sim)

      one_true_lem : one_true h ns ≡ true
      one_true_lem = ap (λ ts. OneOf ts h.session.state) terms_read ∙ (ap (OneOf read.terms) (sym read.state) ∙ one_read)

    run_unspent : run_of_rules xs ns h.rules ≡ spends → ⊥
    run_unspent z = not_spent read.sim z

    run_answered : (n : ℕ) → ended_outcome (run_of_rules xs ns h.rules) ≡ NoOutcome n → ⊥
    unfolding ended_outcome value_given
    run_answered n = go (run_of_rules xs ns h.rules) refl
      where
        go : (o : Ended) → run_of_rules xs ns h.rules ≡ o → ended_outcome o ≡ NoOutcome n → ⊥
        go (gives (truth b)) q e = let z : ◌≡◌ {A = ℕ} 0 1 = cc in omega arith
        go (gives (word w)) q e = let z : ◌≡◌ {A = ℕ} 0 1 = cc in omega arith
        go (gives (procedure i v)) q e = let z : ◌≡◌ {A = ℕ} 0 1 = cc in omega arith
        go (gives (binding v w)) q e = never (gives_proper read.sim read.holds.fit _ q)
        go (gives none) q e = never (gives_proper read.sim read.holds.fit _ q)
        go aborts q e = let z : ◌≡◌ {A = ℕ} 0 1 = cc in omega arith
        go errs q e = let z : ◌≡◌ {A = ℕ} 0 1 = cc in omega arith
        go spends q e = run_unspent q

  stands : Stands xs h
  stands =
      record {
        further = λ k. demand_1 k.rule k.allowance h.session h.table;
        taken = λ k. not_misfit k zeros enough;
        untouched = λ k n. leaves k zeros enough n;
        reads = λ some ns work n t long. reads_so ns n t some work long;
        answered = λ ns n. run_answered ns n;
        legal = λ ns n t. one_true_lem ns n t;
        unspent = λ ns n. run_unspent ns n;
        refused_deep = λ c k other ns n. deep_refused k ns (many ns n) c other;
        runs_deep = λ c k e ns n. deep_runs k ns (many ns n) c e;
      }

-- ---- from the opening on
pub record Taken (xs : List Input) (s : List ℕ) : Type 0 where
  pub size : bad_table_size (length s) ≡ false
  pub good : every input_taken xs ≡ true
  pub is : open_of xs s ≡ (record { refusal = 0; session = session_of xs (length (opening xs).terms) }, image_of (length s) (opening xs).terms)

pub accepts : (xs : List Input) (s : List ℕ) → (open_of xs s).0.refusal ≡ 0 → Taken xs s
unfolding open_of when◌then◌else◌ unless◌then◌else◌ with
accepts xs s = go (bad_table_size (length s)) (every input_taken xs) refl refl
  where
    go : (b t : Bool) → bad_table_size (length s) ≡ b → every input_taken xs ≡ t
        → (pick b (open_refused xs s table_size) (pick t (record { refusal = 0; session = session_of xs (length (opening xs).terms) }, image_of (length s) (opening xs).terms) (open_refused xs s bad_input))).0.refusal ≡ 0 → Taken xs s
    go true t p q e = absurd (omega arith)
    go false true p q e = record { size = p; good = q; is = rw (p, q) }
    go false false p q e = absurd (omega arith)

module _ (xs : List Input) (sixteen : length xs ≡ input_count) (good : every input_taken xs ≡ true) (l : ℕ) (size : bad_table_size l ≡ false) (ns : List ℕ) (many : input_count ≤ length ns) where
  pub live_all : (h : History) (ks : List Call) → Live xs sixteen good l size ns many h → Live xs sixteen good l size ns many (called_all h ks)
  unfolding called_all
  live_all h [] live = live
  live_all h (k ∷ ks) live = live_all (called h k) ks (live_called xs sixteen good l size ns many h live k)

-- Demand 3, in one piece.
pub demand_3 : Demand3
demand_3 xs s sixteen e calls =
    let a = accepts xs s e in
    rw a.is (stands xs sixteen a.good (length s) a.size _ (λ ns many. live_all xs sixteen a.good (length s) a.size ns many _ calls (live_begun xs sixteen a.good (length s) a.size ns many _)))
