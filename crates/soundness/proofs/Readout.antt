-- One evaluation: what is read of its result, under numbers that give each free truth 0 or 1, is what comes of the run at the allowance in the state
-- before. With constants alone, a refusal for depth is a run that spends the allowance. Assumes nothing.
use mathlib.Core.Path.{◌≡◌, refl, sym, ap, subst, ◌∙◌}
use mathlib.Core.Bool.{Bool, true, false, ◌&&◌}
use mathlib.Core.List.{List}
use Prim.Native.Nat.{ℕ, ◌+◌}
use native.Mathlib.Omega.{arith}
use Rattle.notation.specs.Notation.{when◌then◌else◌, if◌equals◌then◌else◌}
use Rattle.semantics.specs.declared.Term.{Term}
use Rattle.semantics.specs.declared.State.{State}
use Rattle.semantics.specs.declared.Result.{Result}
use Rattle.semantics.specs.declared.Outcome.{Outcome}
use Rattle.semantics.specs.declared.Outcome.TheVariants.{Error}
use Rattle.semantics.specs.Numbers.{depth_spent}
use Rattle.semantics.specs.Steps.{setting_of, Got, gave, refused, Make}
use Rattle.semantics.specs.Evaluation.{eval_of}
use Rattle.semantics.specs.Run.{Value, truth, word, procedure, binding, none, gives, spends}
use Rattle.semantics.specs.PlainRun.{value_given, ended_outcome}
use Rattle.semantics.specs.Reading.{is_true, readings, value_outcome, result_outcome, read_in}
use Rattle.terms.specs.Search.{code_setting}
use Rattle.typing.proofs.Formed.{never}
use Rattle.typing.proofs.Does.{Fit, Post, did, not_did}
use Rattle.typing.proofs.Ruled.{Ruled}
use Rattle.soundness.proofs.Means.{is_proper}
use Rattle.soundness.proofs.Constants.{Const, Step, Does}
use Rattle.soundness.proofs.Held.{MeansBindings, is_proper_lem}
use Rattle.soundness.proofs.Sim.{Seen, ends, broken, on, total_of, StateMeans, Sim}
use Rattle.soundness.proofs.Simulation.{simulation}
use Rattle.soundness.proofs.Link.{reading_in, Small, true_same, reading_link}

-- ---- what a step that is known to have been taken did
pub record Done (n : ℕ) {A : Type 0} (ts : List Term) (Q : List Term → A → Type 0) (us : List Term) (a : A) : Type 0 where
  pub step : Step n ts us
  pub holds : Q us a

pub done : {l n : ℕ} {A : Type 0} {m : Make A} {ts us : List Term} {Q : List Term → A → Type 0} {N : ℕ → Type 0} {a : A} {u : ℕ}
    → Does l n m ts Q N → m (setting_of l) ts ≡ gave us a u → Done n ts Q us a
done {l} {n} {A} {m} {ts} {us} {Q} {N} {a} {u} d q = go (m (code_setting l) ts) (m (setting_of l) ts) d.post q
  where
    go : (w x : Got A) → Post Const n ts Q N w x → x ≡ gave us a u → Done n ts Q us a
    go w x (did {us = ws} {a = b} s h) e =
        let i : ws ≡ us = cc in let j : b ≡ a = cc in subst (λ c. Done n ts Q us c) j (subst (λ vs. Done n ts Q vs b) i (record { step = s; holds = h }))
    go w x (not_did h) e = let z : ◌≡◌ {A = ℕ} 0 1 = cc in absurd (omega arith)

pub not_done : {l n : ℕ} {A : Type 0} {m : Make A} {ts : List Term} {Q : List Term → A → Type 0} {N : ℕ → Type 0} {k : ℕ}
    → Does l n m ts Q N → m (setting_of l) ts ≡ refused k → N k
not_done {l} {n} {A} {m} {ts} {Q} {N} {k} d q = go (m (code_setting l) ts) (m (setting_of l) ts) d.post q
  where
    go : (w x : Got A) → Post Const n ts Q N w x → x ≡ refused k → N k
    go w x (did s h) e = let z : ◌≡◌ {A = ℕ} 0 1 = cc in absurd (omega arith)
    go w x (not_did {k = j} h) e = let i : j ≡ k = cc in subst N i h

-- ---- what is read
unfoldable pub seen_outcome : Seen → Outcome
seen_outcome (ends o) = ended_outcome o
seen_outcome broken = Error

value_outcome_lem : (v : Value) → is_proper v ≡ true → value_outcome (reading_in v) ≡ value_given v
unfolding value_outcome value_given if◌equals◌then◌else◌
value_outcome_lem (truth true) h = refl
value_outcome_lem (truth false) h = refl
value_outcome_lem (word w) h = refl
value_outcome_lem (procedure i e) h = refl
value_outcome_lem (binding v e) h = never h
value_outcome_lem none h = never h

result_outcome_lem : (s t h : Bool) (v : Value) → is_proper v ≡ true → (h ≡ true → (s && t) ≡ false) → result_outcome s t h (reading_in v) ≡ seen_outcome (on s t (gives v))
unfolding result_outcome seen_outcome ended_outcome when◌then◌else◌
result_outcome_lem true true true v p d = never (sym (d refl))
result_outcome_lem true true false v p d = value_outcome_lem v p
result_outcome_lem true false h v p d = refl
result_outcome_lem false true h v p d = refl
result_outcome_lem false false h v p d = refl

reads_truth : (b : Bool) → is_true (reading_in (truth b)) ≡ b
reads_truth b = true_same (truth b)

-- what is read of a result that reads as an outcome
pub sim_read : {n : ℕ} {ns : List ℕ} {us : List Term} {r : Result} {o : Seen} → Fit n us → Small ns us → Sim ns o us r → read_in (readings ns us) r ≡ seen_outcome o
unfolding read_in
sim_read {n} {ns} {us} {r} f m h =
    let link = reading_link ns n us f.formed m in
    let rs = link r.state.assumed ∙ ap reading_in h.state.S.is in
    let rt = link r.state.asserted ∙ ap reading_in h.state.T.is in
    let rv = link r.value ∙ ap reading_in h.value.is in
    rw (rs, rt, rv, reads_truth h.s, reads_truth h.t) (result_outcome_lem h.s h.t r.halted h.v (is_proper_lem f h.value) h.dead) ∙ ap seen_outcome h.sees

-- ---- one evaluation of record i in the bindings e, from the state y
module _ {ns : List ℕ} {rule : List ℕ} (ruled : Ruled rule) (b l i e : ℕ) {y : State} {ts : List Term} {s t : Bool} {E : Value}
    (f : Fit (b + 1) ts) (h : MeansBindings ns E ts e) (state : StateMeans ns s t ts y) where
  -- The result reads as what comes of the run at the allowance in the state before.
  pub evaluation_at : (d : ℕ) {us : List Term} {r : Result} {u : ℕ} → eval_of rule b d i e y (setting_of l) ts ≡ gave us r u → Done (b + 1) ts (Sim ns (on s t (total_of rule d i E))) us r
  evaluation_at d q = done (simulation l b ns rule ruled d i e y ts s t E f h state) q

  -- With constants alone and from a normal state, a refusal for depth is exact.
  pub evaluation_spent : (d : ℕ) → eval_of rule b d i e y (setting_of l) ts ≡ refused depth_spent → Const ts → (s && t) ≡ true → total_of rule d i E ≡ spends
  evaluation_spent d q c n = (not_done (simulation l b ns rule ruled d i e y ts s t E f h state) q).runs_out refl c n
