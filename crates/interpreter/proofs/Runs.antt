-- Each way through an expression, as a law on the promise `Runs`: what the calls on the way promised, and the tests on the way, give what the
-- definition says. Assumes nothing.
use mathlib.Core.Path.{◌≡◌, refl, sym, ap, ◌∙◌}
use mathlib.Core.Bool.{Bool, true, false}
use mathlib.Core.List.{List}
use Prim.Native.Nat.{ℕ, zero, suc, ◌-◌, ◌≤◌}
use native.Mathlib.Numerals.{add-one}
use native.Mathlib.Omega.{arith}
use lib.ListN.{length, replicate}
use borrow.Author.Tests.{ne_eqb, lt-ltb, le-ltb}
use Rattle.std.proofs.Common.{IfOk}
use Rattle.std.specs.declared.result.Result.{Result}
use Rattle.std.specs.declared.result.Result.TheVariants.{Ok, Err}
use Rattle.notation.specs.Notation.{with, when◌then◌else◌, if◌equals◌then◌else◌, if◌below◌then◌else◌}
use Rattle.semantics.specs.declared.Record.{Record}
use Rattle.semantics.specs.declared.Outcome.{Outcome}
use Rattle.semantics.specs.Numbers.{datum_record, variable_record, procedure_record, call_record, operator_record, let_record, if_record, abort_record}
use Rattle.semantics.specs.Records.{record_at, datum_word}
use Rattle.semantics.specs.Run.{Value, binding, gives, errs, placed, is_false, is_aword, is_aprocedure, word_in, words_run, operator_run, datum_value}
use Rattle.semantics.specs.PlainRun.{Stored, ended, full, onward, taking, call_stored, expression_stored, stored_of, value_given, ended_outcome, stored_outcome, places_in}
use Rattle.slices.specs.Wiped.{wiped}
use Rattle.slices.proofs.Wiped.{wiped_all}
use Rattle.interpreter.specs.declared.Held.{Held}
use Rattle.interpreter.specs.declared.Held.TheVariants.{Truth, Word, Procedure, Nothing}
use Rattle.interpreter.specs.declared.Stop.{Stop}
use Rattle.interpreter.specs.declared.Stop.TheVariants.{Abort, Error, DepthSpent, StoreFull}
use Rattle.interpreter.specs.declared.Run.{Run}
use Rattle.interpreter.specs.Store.{chain_in, link_of, value_in, shown, stored_by}
use Rattle.interpreter.specs.Promise.{Found, Kept, Bound, Full, run_in, Runs}
use Rattle.interpreter.proofs.Chains.{chain_same, value_shown}

-- ---- the frame
pub kept_still : (x : Run) → Kept x x
kept_still x = record { lent = refl; rule = refl; grows = omega arith; long = refl; same = λ i h. refl }

pub kept_on : {x y z : Run} → Kept x y → Kept y z → Kept x z
kept_on g h =
    record {
      lent = h.lent ∙ g.lent;
      rule = h.rule ∙ g.rule;
      grows = let a = g.grows in let b = h.grows in omega arith;
      long = h.long ∙ g.long;
      same = λ i l. let a = g.grows in h.same i (omega arith) ∙ g.same i l;
    }

pub runs_as : {m n : Stored} {x y : Run} {o : Result Held Stop} → m ≡ n → Runs m x y o → Runs n x y o
runs_as e r = record { is = r.is ∙ e; low = r.low; kept = r.kept }

-- ---- what a value shows, whatever its bindings
module _ (s : List ℕ) where
  false_shown : (v : Held) → is_false (value_in s v) ≡ is_false (shown v)
  unfolding is_false
  false_shown (Truth b) = refl
  false_shown (Word w) = refl
  false_shown (Procedure i e) = refl
  false_shown Nothing = refl

  word_shown : (v : Held) → word_in (value_in s v) ≡ word_in (shown v)
  unfolding word_in
  word_shown (Truth b) = refl
  word_shown (Word w) = refl
  word_shown (Procedure i e) = refl
  word_shown Nothing = refl

  is_word_shown : (v : Held) → is_aword (value_in s v) ≡ is_aword (shown v)
  unfolding is_aword
  is_word_shown (Truth b) = refl
  is_word_shown (Word w) = refl
  is_word_shown (Procedure i e) = refl
  is_word_shown Nothing = refl

  is_procedure_shown : (v : Held) → is_aprocedure (value_in s v) ≡ is_aprocedure (shown v)
  unfolding is_aprocedure
  is_procedure_shown (Truth b) = refl
  is_procedure_shown (Word w) = refl
  is_procedure_shown (Procedure i e) = refl
  is_procedure_shown Nothing = refl

  operator_shown : (op : ℕ) (x y : Held) → operator_run op (shown x) (shown y) ≡ operator_run op (value_in s x) (value_in s y)
  unfolding operator_run words_run
  operator_shown op x y = simp (false_shown, word_shown, is_word_shown, is_procedure_shown)

  -- an end without bindings
  end_shown : (o : Result Held Stop) (k : ℕ) → IfOk o (λ v. link_of v ≡ 0) → stored_by (value_in s) o k ≡ stored_by shown o k
  end_shown (Ok v) k h = ap (λ (u : Value). ended (gives u) k) (value_shown s v h)
  end_shown (Err Abort) k h = refl
  end_shown (Err Error) k h = refl
  end_shown (Err DepthSpent) k h = refl
  end_shown (Err StoreFull) k h = refl

  -- what a run answers does not ask for the bindings either
  outcome_shown : (o : Result Held Stop) (k : ℕ) → stored_outcome (stored_by (value_in s) o k) ≡ stored_outcome (stored_by shown o k)
  unfolding stored_outcome ended_outcome value_given
  outcome_shown (Ok (Truth b)) k = refl
  outcome_shown (Ok (Word w)) k = refl
  outcome_shown (Ok (Procedure i e)) k = refl
  outcome_shown (Ok Nothing) k = refl
  outcome_shown (Err Abort) k = refl
  outcome_shown (Err Error) k = refl
  outcome_shown (Err DepthSpent) k = refl
  outcome_shown (Err StoreFull) k = refl

-- ---- one place more: a binding, and the run under it
module _ {v : Held} {b : ℕ} {x y : Run} where
  take_place : {u : ℕ} → Bound v b x y u → (c j : ℕ)
      → run_in y c j u ≡ taking (places_in (length x.store.now)) (stored_of (places_in (length x.store.now)) x.rule.now c j) (binding (value_in x.store.now v) (chain_in x.store.now b)) x.taken
  unfolding taking with if◌below◌then◌else◌
  take_place t c j = rw (t.kept.long, t.kept.rule, t.is, t.taken, add-one x.taken, lt-ltb _ _ t.room)

no_place : {x y : Run} → Full x y → (f : Value → ℕ → Stored) (e : Value) → full ≡ taking (places_in (length x.store.now)) f e x.taken
unfolding taking with if◌below◌then◌else◌
no_place {x} t f e = rw (le-ltb _ _ t.room)

stops : (read : Held → Value) (t : Stop) (k : ℕ) (f : Value → ℕ → Stored) → stored_by read (Err t) k ≡ onward (stored_by read (Err t) k) f
unfolding onward
stops read Abort k f = refl
stops read Error k f = refl
stops read DepthSpent k f = refl
stops read StoreFull k f = refl

-- ---- an expression, by the kind of its record
pub run_spent : (x : Run) (d i e : ℕ) → d ≡ 0 → Runs (run_in x d i e) x x (Err DepthSpent)
unfolding stored_of
run_spent x d i e h = record { is = rw (h, stored_of); low = tt; kept = kept_still x }

module _ (x : Run) (d i e : ℕ) (h : d ≡ 0 → ⊥) {r : Record} (q : r ≡ record_at x.rule.now i) where
  from : (d : ℕ) → (d ≡ 0 → ⊥) → expression_stored (places_in (length x.store.now)) x.rule.now (stored_of (places_in (length x.store.now)) x.rule.now (d - 1)) (record_at x.rule.now i) i (chain_in x.store.now e) x.taken ≡ run_in x d i e
  unfolding stored_of
  from zero h = absurd (h refl)
  from (suc d) h = let u : suc d - 1 ≡ d = omega arith in rw u

  step : expression_stored (places_in (length x.store.now)) x.rule.now (stored_of (places_in (length x.store.now)) x.rule.now (d - 1)) r i (chain_in x.store.now e) x.taken ≡ run_in x d i e
  step = rw q (from d h)

  pub run_datum : r.kind ≡ datum_record → {v : Held} → shown v ≡ datum_value r.op (datum_word r) → link_of v ≡ 0 → Runs (run_in x d i e) x x (Ok v)
  unfolding expression_stored if◌equals◌then◌else◌
  run_datum k {v} a l =
      runs_as (rw k refl ∙ step)
      record { is = ap (λ (u : Value). ended (gives u) x.taken) (value_shown x.store.now v l ∙ a); low = rw l (omega arith); kept = kept_still x }

  pub run_variable : r.kind ≡ variable_record → e ≤ x.taken → {v : Held} → Found x.store.now e r.p v → Runs (run_in x d i e) x x (Ok v)
  unfolding expression_stored if◌equals◌then◌else◌
  run_variable k l f =
      runs_as (rw k refl ∙ step)
      record { is = ap (λ (u : Value). ended (gives u) x.taken) f.is; low = let a = f.low in omega arith; kept = kept_still x }

  pub run_procedure : r.kind ≡ procedure_record → e ≤ x.taken → Runs (run_in x d i e) x x (Ok (Procedure i e))
  unfolding expression_stored if◌equals◌then◌else◌
  run_procedure k l = runs_as (rw k refl ∙ step) record { is = refl; low = l; kept = kept_still x }

  -- a call: of what is no procedure; where no place is left; or of a procedure
  module _ (k : r.kind ≡ call_record) {f : Held} (ff : Found x.store.now e r.p f) where
    called : call_stored (places_in (length x.store.now)) (stored_of (places_in (length x.store.now)) x.rule.now (d - 1)) x.rule.now (value_in x.store.now f) (placed r.q (chain_in x.store.now e)) x.taken ≡ run_in x d i e
    unfolding expression_stored if◌equals◌then◌else◌
    called = rw (ff.is, k) refl ∙ step

    no_call : (f : Held) → ((j b : ℕ) → f ≡ Procedure j b → ⊥) → (v : Value) → ended errs x.taken ≡ call_stored (places_in (length x.store.now)) (stored_of (places_in (length x.store.now)) x.rule.now (d - 1)) x.rule.now (value_in x.store.now f) v x.taken
    unfolding call_stored
    no_call (Truth b) n v = refl
    no_call (Word w) n v = refl
    no_call (Procedure j b) n v = absurd (n j b refl)
    no_call Nothing n v = refl

    pub run_no_call : ((j b : ℕ) → f ≡ Procedure j b → ⊥) → Runs (run_in x d i e) x x (Err Error)
    run_no_call n = runs_as (no_call f n (placed r.q (chain_in x.store.now e)) ∙ called) record { is = refl; low = tt; kept = kept_still x }

    module _ {j b : ℕ} (p : f ≡ Procedure j b) where
      under : taking (places_in (length x.store.now)) (stored_of (places_in (length x.store.now)) x.rule.now (d - 1) (record_at x.rule.now j).p) (binding (placed r.q (chain_in x.store.now e)) (chain_in x.store.now b)) x.taken ≡ run_in x d i e
      unfolding call_stored
      under = rw p at called

      pub run_call_full : {y : Run} → Full x y → Runs (run_in x d i e) x y (Err StoreFull)
      run_call_full t = runs_as (no_place t _ _ ∙ under) record { is = refl; low = tt; kept = t.kept }

      pub run_call : {v : Held} → Found x.store.now e r.q v → {t : Record} → t ≡ record_at x.rule.now j → {y : Run} {u : ℕ} → Bound v b x y u
          → {z : Run} {o : Result Held Stop} → Runs (run_in y (d - 1) t.p u) y z o → Runs (run_in x d i e) x z o
      run_call fv et {y} {u} t g =
          let body : Runs (run_in y (d - 1) (record_at x.rule.now j).p u) y _ _ = rw et at g in
          record {
            is = body.is ∙ (take_place t (d - 1) (record_at x.rule.now j).p ∙ rw fv.is under);
            low = g.low;
            kept = kept_on t.kept g.kept;
          }

  pub run_operator : r.kind ≡ operator_record → {a b : Held} → Found x.store.now e r.p a → Found x.store.now e r.q b → {o : Result Held Stop}
      → ((k : ℕ) → stored_by shown o k ≡ ended (operator_run r.op (shown a) (shown b)) k) → IfOk o (λ v. link_of v ≡ 0) → Runs (run_in x d i e) x x o
  unfolding expression_stored if◌equals◌then◌else◌
  run_operator k {a} {b} fa fb {o} end plain =
      runs_as (rw (operator_shown x.store.now r.op a b, fa.is, fb.is, k) refl ∙ step)
      record { is = end_shown x.store.now o x.taken plain ∙ end x.taken; low = low o plain; kept = kept_still x }
    where
      low : (o : Result Held Stop) → IfOk o (λ v. link_of v ≡ 0) → IfOk o (λ v. link_of v ≤ x.taken)
      low (Ok v) l = rw l (omega arith)
      low (Err t) l = tt

  -- a let: its first part stops; no place is left for the value; or the second part runs under it
  module _ (k : r.kind ≡ let_record) where
    bound_on : onward (run_in x (d - 1) r.p e) (λ v. taking (places_in (length x.store.now)) (stored_of (places_in (length x.store.now)) x.rule.now (d - 1) r.q) (binding v (chain_in x.store.now e))) ≡ run_in x d i e
    unfolding expression_stored if◌equals◌then◌else◌
    bound_on = rw k refl ∙ step

    pub run_let_stop : {y : Run} {t : Stop} → Runs (run_in x (d - 1) r.p e) x y (Err t) → Runs (run_in x d i e) x y (Err t)
    run_let_stop {y} {t} g = record { is = stops (value_in y.store.now) t y.taken _ ∙ rw (← g.is) at bound_on; low = tt; kept = g.kept }

    module _ (l : e ≤ x.taken) {y : Run} {v : Held} (g : Runs (run_in x (d - 1) r.p e) x y (Ok v)) where
      under_let : taking (places_in (length y.store.now)) (stored_of (places_in (length y.store.now)) y.rule.now (d - 1) r.q) (binding (value_in y.store.now v) (chain_in y.store.now e)) y.taken ≡ run_in x d i e
      unfolding onward
      under_let = rw (g.kept.long, g.kept.rule, chain_same x.store.now y.store.now x.taken g.kept.same e l) (rw (← g.is) at bound_on)

      pub run_let_full : {z : Run} → Full y z → Runs (run_in x d i e) x z (Err StoreFull)
      run_let_full t = runs_as (no_place t _ _ ∙ under_let) record { is = refl; low = tt; kept = kept_on g.kept t.kept }

      pub run_let : {z : Run} {u : ℕ} → Bound v e y z u → {w : Run} {o : Result Held Stop} → Runs (run_in z (d - 1) r.q u) z w o → Runs (run_in x d i e) x w o
      run_let t b = record { is = b.is ∙ (take_place t (d - 1) r.q ∙ under_let); low = b.low; kept = kept_on g.kept (kept_on t.kept b.kept) }

  -- an if
  module _ (k : r.kind ≡ if_record) {v : Held} (f : Found x.store.now e r.p v) {b : Bool} (t : b ≡ is_false (shown v)) where
    tested : is_false (placed r.p (chain_in x.store.now e)) ≡ b
    tested = ap is_false (sym f.is) ∙ (false_shown x.store.now v ∙ sym t)

    module _ {y : Run} {o : Result Held Stop} where
      pub run_else : b ≡ true → Runs (run_in x (d - 1) r.r e) x y o → Runs (run_in x d i e) x y o
      unfolding expression_stored if◌equals◌then◌else◌ when◌then◌else◌
      run_else z = runs_as (rw (k, tested, z) refl ∙ step)

      pub run_then : b ≡ false → Runs (run_in x (d - 1) r.q e) x y o → Runs (run_in x d i e) x y o
      unfolding expression_stored if◌equals◌then◌else◌ when◌then◌else◌
      run_then z = runs_as (rw (k, tested, z) refl ∙ step)

  pub run_abort : r.kind ≡ abort_record → Runs (run_in x d i e) x x (Err Abort)
  unfolding expression_stored if◌equals◌then◌else◌
  run_abort k = runs_as (rw k refl ∙ step) record { is = refl; low = tt; kept = kept_still x }

  pub run_error : (r.kind ≡ datum_record → ⊥) → (r.kind ≡ variable_record → ⊥) → (r.kind ≡ procedure_record → ⊥) → (r.kind ≡ call_record → ⊥)
      → (r.kind ≡ operator_record → ⊥) → (r.kind ≡ let_record → ⊥) → (r.kind ≡ if_record → ⊥) → (r.kind ≡ abort_record → ⊥) → Runs (run_in x d i e) x x (Err Error)
  unfolding expression_stored if◌equals◌then◌else◌
  run_error a b c d e f g h =
      runs_as
      (simp (ne_eqb _ _ a, ne_eqb _ _ b, ne_eqb _ _ c, ne_eqb _ _ d, ne_eqb _ _ e, ne_eqb _ _ f, ne_eqb _ _ g, ne_eqb _ _ h) refl ∙ step)
      record { is = refl; low = tt; kept = kept_still x }

-- ---- what is answered
pub answer : (s : List ℕ) (o : Result Held Stop) (k : ℕ) {m : Stored} → stored_by (value_in s) o k ≡ m → {r : Outcome} → ((k : ℕ) → r ≡ stored_outcome (stored_by shown o k)) → r ≡ stored_outcome m
answer s o k e q = q k ∙ (sym (outcome_shown s o k) ∙ ap stored_outcome e)

-- the store is zero again
pub zeroed : (s : List ℕ) {y : List ℕ} → y ≡ wiped s 0 → {n : ℕ} → length s ≡ n → y ≡ replicate n 0
zeroed s e q = e ∙ rw q at (wiped_all s)
