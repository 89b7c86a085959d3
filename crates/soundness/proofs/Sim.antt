-- What an evaluation promises under any numbers: what is read of its result is what a run gives. The run here is the concrete one with false at
-- places past the end of the bindings, of which a rule that passes the tests has none. Assumes nothing.
use mathlib.Core.Path.{◌≡◌, refl, sym, ap, ◌∙◌}
use mathlib.Core.Bool.{Bool, true, false, not, ◌&&◌, ◌||◌, and-false}
use mathlib.Core.List.{List}
use Prim.Native.Nat.{ℕ, zero, suc}
use native.Mathlib.Omega.{arith}
use lib.Dec.{eqb}
use borrow.Author.Tests.{eqb-true, eqb-false}
use Rattle.notation.specs.Notation.{pick, with, if◌equals◌then◌else◌}
use Rattle.semantics.specs.declared.Term.{Term}
use Rattle.semantics.specs.declared.State.{State}
use Rattle.semantics.specs.declared.Result.{Result}
use Rattle.semantics.specs.Numbers.{no_binding, depth_spent, table_full, call_too_wide}
use Rattle.semantics.specs.Terms.{at, known_of}
use Rattle.semantics.specs.Steps.{Make}
use Rattle.semantics.specs.States.{merge_assumed_of, merge_asserted_of, assume_of, assert_of, halts_of, out_of, halt_of}
use Rattle.semantics.specs.Evaluation.{Evaluator, place_of}
use Rattle.semantics.specs.Run.{Value, truth, none, Ended, gives, aborts, errs, spends, Running, after, Look, placed_or, run_by}
use Rattle.typing.proofs.Grown.{at_past, sort_grown, value_grown}
use Rattle.typing.proofs.Formed.{never, Laid, laid_at, binding_value, binding_next}
use Rattle.typing.proofs.Does.{Fit, does_then, does_map}
use Rattle.soundness.proofs.Means.{meaning_past}
use Rattle.soundness.proofs.Constants.{Const, const_back, Step, Does}
use Rattle.soundness.proofs.BySort.{binding_means, binding_kind}
use Rattle.soundness.proofs.Held.{MeansTruth, MeansValue, MeansBindings, truth_step, value_step, truth_is_value, false_means, known_is_false, known_is_true, unknown}
use Rattle.soundness.proofs.Factory.{and_does, implies_does}

-- ---- the run with false at places past the end
abbrev pub look_of : Look
look_of p e = placed_or (truth false) p e

abbrev pub total_of : List ℕ → ℕ → ℕ → Running
total_of rule d i e = run_by look_of rule d i e

-- ---- what is read: an outcome of a run, or, with both formulas false, none that a run has
pub data Seen : Type 0 where
  ends : Ended → Seen
  broken : Seen

-- what comes of the outcome o in a state whose formulas read s and t; a value v reads as `on s t (gives v)`
abbrev pub on : Bool → Bool → Ended → Seen
on true true o = ends o
on true false o = ends errs
on false true o = ends aborts
on false false o = broken

-- what S means once x is assumed, and what T means once x is asserted, in a state whose formulas mean s and t
abbrev pub assumed : Bool → Bool → Bool → Bool
assumed s t x = s && (not t || x)

abbrev pub asserted : Bool → Bool → Bool → Bool
asserted s t x = t && (not s || x)

-- S means s, and T means t
pub record StateMeans (ns : List ℕ) (s t : Bool) (ts : List Term) (x : State) : Type 0 where
  pub S : MeansTruth ns s ts x.assumed
  pub T : MeansTruth ns t ts x.asserted

pub state_step_lem : {ns : List ℕ} {n : ℕ} {ts us : List Term} {x : State} {s t : Bool} → Step n ts us → StateMeans ns s t ts x → StateMeans ns s t us x
state_step_lem p h = record { S = truth_step p h.S; T = truth_step p h.T }

-- THE POST-CONDITION: what is read of a result is the outcome o. A halt is never normal; with constants, anything else is.
pub record Sim (ns : List ℕ) (o : Seen) (us : List Term) (r : Result) : Type 0 where
  pub s : Bool
  pub t : Bool
  pub v : Value
  pub state : StateMeans ns s t us r.state
  pub value : MeansValue ns v us r.value
  pub sees : on s t (gives v) ≡ o
  pub dead : r.halted ≡ true → (s && t) ≡ false
  pub live : r.halted ≡ false → Const us → (s && t) ≡ true

-- A refusal for depth, with constants and from a normal state, is a run that spends its depth; and a walk then has one leaf.
pub record Spends (ts : List Term) (s t : Bool) (o : Ended) (k : ℕ) : Type 0 where
  pub runs_out : k ≡ depth_spent → Const ts → (s && t) ≡ true → o ≡ spends
  pub not_wide : k ≡ call_too_wide → Const ts → (s && t) ≡ true → ⊥

pub full : {ts : List Term} {s t : Bool} {o : Ended} → Spends ts s t o table_full
full = record { runs_out = λ e c n. absurd (omega arith); not_wide = λ e c n. omega arith }

pub spent : {ts : List Term} {s t : Bool} → Spends ts s t spends depth_spent
spent = record { runs_out = λ e c n. refl; not_wide = λ e c n. omega arith }

pub over : {ts : List Term} {s t : Bool} {o : Ended} → (Const ts → ⊥) → Spends ts s t o call_too_wide
over h = record { runs_out = λ e c n. absurd (omega arith); not_wide = λ e c n. h c }

-- What an evaluation from a state that reads s, t promises, where the run gives o.
abbrev pub Sound : ℕ → ℕ → List ℕ → List Term → Bool → Bool → Ended → Make Result → Type 0
Sound l n ns ts s t o m = Does l n m ts (Sim ns (on s t o)) (Spends ts s t o)

-- What the parts of a record promise: the hypothesis of the induction.
abbrev pub Sims : ℕ → ℕ → List ℕ → Evaluator → (ℕ → Running) → Type 0
Sims l n ns run rn = (i e : ℕ) (x : State) (ts : List Term) (s t : Bool) (E : Value) → Fit n ts → MeansBindings ns E ts e → StateMeans ns s t ts x
    → Sound l n ns ts s t (rn i E) (run i e x)

-- ---- facts on states
pub on_assumed : (s t x : Bool) (o : Ended) → on (assumed s t x) t o ≡ on s t (pick x o aborts)
on_assumed true true true o = refl
on_assumed true true false o = refl
on_assumed true false x o = refl
on_assumed false true x o = refl
on_assumed false false x o = refl

pub on_asserted : (s t x : Bool) (o : Ended) → on s (asserted s t x) o ≡ on s t (pick x o errs)
on_asserted true true true o = refl
on_asserted true true false o = refl
on_asserted true false x o = refl
on_asserted false true x o = refl
on_asserted false false x o = refl

abbrev pub after_seen : Seen → (Value → Ended) → Seen
after_seen (ends o) k = ends (after o k)
after_seen broken k = broken

pub on_after : (s t : Bool) (o : Ended) (k : Value → Ended) → after_seen (on s t o) k ≡ on s t (after o k)
unfolding after
on_after true true o k = refl
on_after true false o k = refl
on_after false true o k = refl
on_after false false o k = refl

-- From a state that is not normal nothing changes; from a normal one the outcome is.
pub on_off : (s t : Bool) (o p : Ended) → (s && t) ≡ false → on s t o ≡ on s t p
on_off true true o p h = never (sym h)
on_off true false o p h = refl
on_off false true o p h = refl
on_off false false o p h = refl

pub on_live : (s t : Bool) (o : Ended) → (s && t) ≡ true → on s t o ≡ ends o
on_live true true o h = refl
on_live true false o h = never h
on_live false t o h = never h

pub ends_same : {o p : Ended} → ends o ≡ ends p → o ≡ p
ends_same {o} {p} e = ap (λ u. of u) e
  where
    of : Seen → Ended
    of (ends q) = q
    of broken = spends

module _ {n : ℕ} {ts : List Term} (f : Fit n ts) where
  place_0 : (p : ℕ) → place_of p 0 ts ≡ 0
  unfolding place_of
  place_0 zero = ap (λ t. t.a) f.no.is
  place_0 (suc p) = ap (λ t. place_of p t.b ts) f.no.is ∙ place_0 p

  place_past : (p : ℕ) → place_of p no_binding ts ≡ 0
  unfolding place_of
  place_past zero = let s = f.short in ap (λ t. t.a) (at_past ts no_binding (omega arith))
  place_past (suc p) = let s = f.short in ap (λ t. place_of p t.b ts) (at_past ts no_binding (omega arith)) ∙ place_0 p

module _ {ns : List ℕ} {n : ℕ} where
  look_none : {ts : List Term} (p : ℕ) → Fit n ts → MeansValue ns (look_of p none) ts (place_of p no_binding ts)
  unfolding placed_or
  look_none zero f = rw (place_past f zero) (truth_is_value (false_means f))
  look_none (suc p) f = rw (place_past f (suc p)) (truth_is_value (false_means f))

  -- a place of the bindings
  pub place_is : {ts : List Term} (p e : ℕ) {E : Value} → Fit n ts → MeansBindings ns E ts e → MeansValue ns (look_of p E) ts (place_of p e ts)
  unfolding place_of placed_or
  place_is {ts} zero e {E} f h =
      let y : Laid n ts e = laid_at n ts e f.formed h.sort.low in
      rw (sym h.is ∙ binding_means ns f h.sort)
      (record { named = value_grown y.grown (binding_value n y.under (at ts e) y.laid (binding_kind (at ts e) h.sort.is)); is = refl })
  place_is {ts} (suc p) e {E} f h =
      let y : Laid n ts e = laid_at n ts e f.formed h.sort.low in
      rw (sym h.is ∙ binding_means ns f h.sort)
      (binding_next n y.under (at ts e) y.laid (binding_kind (at ts e) h.sort.is)
      (λ z. let s = f.short in rw (z, meaning_past ns ts no_binding (omega arith)) (look_none p f))
      (λ z. place_is p (at ts e).b f (record { sort = sort_grown y.grown z; is = refl })))

-- ---- states
module _ (ts : List Term) (x : State) where
  halts_known : {P : Type 0} → halts_of x ts ≡ true → (known_of (at ts x.assumed) ≡ 0 → P) → (known_of (at ts x.asserted) ≡ 0 → P) → P
  unfolding halts_of with if◌equals◌then◌else◌
  halts_known {P} h a b = go (eqb (known_of (at ts x.assumed)) 0) (eqb (known_of (at ts x.asserted)) 0) refl refl h
    where
      go : (i j : Bool) → eqb (known_of (at ts x.assumed)) 0 ≡ i → eqb (known_of (at ts x.asserted)) 0 ≡ j → pick i true (pick j true false) ≡ true → P
      go true j p q e = a (eqb-true _ _ p)
      go false true p q e = b (eqb-true _ _ q)
      go false false p q e = never e

  runs_known : {P : Type 0} → halts_of x ts ≡ false → ((known_of (at ts x.assumed) ≡ 0 → ⊥) → (known_of (at ts x.asserted) ≡ 0 → ⊥) → P) → P
  unfolding halts_of with if◌equals◌then◌else◌
  runs_known {P} h f = go (eqb (known_of (at ts x.assumed)) 0) (eqb (known_of (at ts x.asserted)) 0) refl refl h
    where
      go : (i j : Bool) → eqb (known_of (at ts x.assumed)) 0 ≡ i → eqb (known_of (at ts x.asserted)) 0 ≡ j → pick i true (pick j true false) ≡ false → P
      go true j p q e = never (sym e)
      go false true p q e = never (sym e)
      go false false p q e = f (eqb-false _ _ p) (eqb-false _ _ q)

-- with constants, a truth that is not known to be false is true
not-false : {ns : List ℕ} {n : ℕ} {ts : List Term} {x : ℕ} {b : Bool} → Fit n ts → MeansTruth ns b ts x → (known_of (at ts x) ≡ 0 → ⊥) → Const ts → b ≡ true
not-false {ts = ts} {x} {b} f h d c = go (eqb (known_of (at ts x)) 1) refl
  where
    go : (i : Bool) → eqb (known_of (at ts x)) 1 ≡ i → b ≡ true
    go true e = known_is_true f h (eqb-true _ _ e)
    go false e = unknown f h d (eqb-false _ _ e) c

module _ {ns : List ℕ} {n : ℕ} {ts : List Term} {x : State} {s t : Bool} (f : Fit n ts) (h : StateMeans ns s t ts x) where
  pub stops_dead : halts_of x ts ≡ true → (s && t) ≡ false
  stops_dead e = halts_known ts x e (λ i. rw (known_is_false f h.S i)) (λ i. rw (known_is_false f h.T i, and-false s))

  pub runs_live : halts_of x ts ≡ false → Const ts → (s && t) ≡ true
  runs_live e c = runs_known ts x e (λ i j. rw (not-false f h.S i c, not-false f h.T j c))

module _ {l n : ℕ} {N : ℕ → Type 0} (room : N table_full) {ns : List ℕ} where
  pub merge_assumed_does : {ts : List Term} {x : State} {g c : ℕ} {s t a b : Bool} → Fit n ts → StateMeans ns s t ts x → MeansTruth ns a ts g → MeansTruth ns b ts c
      → Does l n (merge_assumed_of x g c) ts (StateMeans ns (s && (not a || b)) t) N
  unfolding merge_assumed_of
  merge_assumed_does f h k i =
      does_then (implies_does room f k i) (λ us a g j. does_map _ (and_does room g.fit (truth_step g h.S) j)
      (λ ws b p q. record { S = q; T = truth_step p (truth_step g h.T) }))

  pub merge_asserted_does : {ts : List Term} {x : State} {g c : ℕ} {s t a b : Bool} → Fit n ts → StateMeans ns s t ts x → MeansTruth ns a ts g → MeansTruth ns b ts c
      → Does l n (merge_asserted_of x g c) ts (StateMeans ns s (t && (not a || b))) N
  unfolding merge_asserted_of
  merge_asserted_does f h k i =
      does_then (implies_does room f k i) (λ us a g j. does_map _ (and_does room g.fit (truth_step g h.T) j)
      (λ ws b p q. record { S = truth_step p (truth_step g h.S); T = q }))

  pub assume_does : {ts : List Term} {x : State} {g : ℕ} {s t b : Bool} → Fit n ts → StateMeans ns s t ts x → MeansTruth ns b ts g → Does l n (assume_of x g) ts (StateMeans ns (assumed s t b) t) N
  unfolding assume_of
  assume_does f h k = merge_assumed_does f h h.T k

  pub assert_does : {ts : List Term} {x : State} {g : ℕ} {s t b : Bool} → Fit n ts → StateMeans ns s t ts x → MeansTruth ns b ts g → Does l n (assert_of x g) ts (StateMeans ns s (asserted s t b)) N
  unfolding assert_of
  assert_does f h k = merge_asserted_does f h h.S k

-- ---- results
module _ {ns : List ℕ} where
  pub sim_out : {us : List Term} {o : Seen} {x : State} {k : ℕ} {s t : Bool} {v : Value}
      → StateMeans ns s t us x → MeansValue ns v us k → (Const us → (s && t) ≡ true) → on s t (gives v) ≡ o → Sim ns o us (out_of x k)
  sim_out {s = s} {t} {v} h i l e = record { s = s; t = t; v = v; state = h; value = i; sees = e; dead = λ q. never q; live = λ q c. l c }

  pub sim_halt : {n : ℕ} {us : List Term} {o : Seen} {x : State} {s t : Bool} → Fit n us → StateMeans ns s t us x → (s && t) ≡ false
      → ((v : Value) → on s t (gives v) ≡ o) → Sim ns o us (halt_of x)
  sim_halt {s = s} {t} f h d e =
      record { s = s; t = t; v = truth false; state = h; value = truth_is_value (false_means f); sees = e (truth false); dead = λ q. d; live = λ q c. never (sym q) }

  pub sim_step : {n : ℕ} {ts us : List Term} {o : Seen} {r : Result} → Step n ts us → Sim ns o ts r → Sim ns o us r
  sim_step p h =
      record { s = h.s; t = h.t; v = h.v; state = state_step_lem p h.state; value = value_step p h.value; sees = h.sees; dead = h.dead; live = λ i c. h.live i (const_back p.grown c) }

  -- the same result, its outcome named otherwise
  pub sim_as : {o p : Seen} {us : List Term} {r : Result} → o ≡ p → Sim ns o us r → Sim ns p us r
  sim_as q h = record { s = h.s; t = h.t; v = h.v; state = h.state; value = h.value; sees = h.sees ∙ q; dead = h.dead; live = h.live }
