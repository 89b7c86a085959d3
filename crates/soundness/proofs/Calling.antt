-- A call, over any evaluation of the parts that meets the promise: the leaves of the walk that are procedures run, and the others are an error.
-- Assumes nothing.
use mathlib.Core.Path.{◌≡◌, refl, sym, ap, subst, ◌∙◌}
use mathlib.Core.Bool.{Bool, true, false, ◌&&◌, ◌||◌, or-false, and-true, and-false}
use mathlib.Core.List.{List, [], ◌∷◌, ◌++◌}
use Prim.Native.Nat.{ℕ}
use native.Mathlib.Omega.{arith}
use Rattle.notation.specs.Notation.{pick}
use Rattle.semantics.specs.declared.Term.{Term}
use Rattle.semantics.specs.declared.State.{State}
use Rattle.semantics.specs.declared.Leaf.{Leaf}
use Rattle.semantics.specs.declared.Branch.{Branch}
use Rattle.semantics.specs.Numbers.{procedure_term, binding_term, true_number, term_limit, table_full}
use Rattle.semantics.specs.Records.{record_at}
use Rattle.semantics.specs.Terms.{at}
use Rattle.semantics.specs.Steps.{each}
use Rattle.semantics.specs.Walk.{or_target_of, Aim, aim_of}
use Rattle.semantics.specs.Evaluation.{Evaluator, under_of, apply_of, target_of, targets_of, call_of}
use Rattle.semantics.specs.Run.{Value, truth, word, procedure, binding, none, gives, errs, Running, is_aprocedure, call_run}
use Rattle.typing.proofs.Grown.{Sort, sort_grown}
use Rattle.typing.proofs.Formed.{never, Laid, laid_at, procedure_names}
use Rattle.typing.proofs.Does.{Fit, stay, step_on, does_give, does_then, does_map, does_weaken, does_read, does_with, does_if, does_eq, does_refused}
use Rattle.soundness.proofs.Means.{meaning_from, meaning}
use Rattle.soundness.proofs.Constants.{Const, Step, Does}
use Rattle.soundness.proofs.BySort.{means_at, means_procedure, choice_kind, procedure_kind}
use Rattle.soundness.proofs.Held.{MeansTruth, MeansValue, MeansBindings, truth_step, value_step, bindings_step, false_means, true_means}
use Rattle.soundness.proofs.Factory.{or_does, binding_does, no_procedure}
use Rattle.soundness.proofs.Sim.{Seen, on, assumed, asserted, StateMeans, state_step_lem, Sim, Spends, full, over, Sound, Sims, on_assumed, on_asserted, on_off, stops_dead, runs_live, assume_does, assert_does, sim_halt, sim_as}
use Rattle.soundness.proofs.Merging.{BranchReading, BranchMeans, BranchesMean, no_branch_lem, also, branches_step, branch_means, any, merge_does}
use Rattle.soundness.proofs.Cases.{Branches, asserted_live}
use Rattle.soundness.proofs.Walking.{LeafMeans, Leaves, no_leaf_lem, leaf, some_of, leaf_step, leaves_step, walk_does}

-- ---- what a leaf says of the value called
module _ {n : ℕ} {ns : List ℕ} {ts : List Term} {v : Value} {x : Leaf} {g : Bool} (f : Fit n ts) (h : LeafMeans ns ts v x g) where
  target_env : x.term.kind ≡ procedure_term → MeansBindings ns (meaning ns ts x.term.b) ts x.term.b
  target_env k =
      let y : Laid n ts h.number = laid_at n ts h.number f.formed h.named.low in
      let i : (at ts h.number).kind ≡ procedure_term = ap (λ t. t.kind) h.is ∙ k in
      let o : Sort binding_term ts (at ts h.number).b = sort_grown y.grown (procedure_names n y.under (at ts h.number) y.laid i) in
      record { sort = rw h.is at o; is = refl }

  target_is : x.term.kind ≡ procedure_term → g ≡ true → v ≡ procedure x.term.a (meaning ns ts x.term.b)
  target_is k e =
      sym (h.agrees e) ∙ (means_at ns f h.number h.named.low ∙ (ap (λ t. meaning_from ns (meaning ns ts) t) h.is ∙
      means_procedure ns (meaning ns ts) x.term k))

  target_none : (x.term.kind ≡ procedure_term → ⊥) → g ≡ true → is_aprocedure v ≡ false
  target_none k e =
      no_procedure f (record { named = h.named; is = h.agrees e })
      (λ i. h.plain (ap (λ t. t.kind) (sym h.is) ∙ choice_kind (at ts h.number) i))
      (λ i. k (ap (λ t. t.kind) (sym h.is) ∙ procedure_kind (at ts h.number) i))

procedure_yes : (i : ℕ) (e : Value) → is_aprocedure (procedure i e) ≡ true
unfolding is_aprocedure
procedure_yes i e = refl

-- one leaf more
or_yes : (c p g r : Bool) → (g ≡ true → p ≡ true) → ((c || g) || (p && r)) ≡ (c || (p && (g || r)))
or_yes true p g r k = refl
or_yes false true g r k = refl
or_yes false false true r k = never (k refl)
or_yes false false false r k = refl

or_no : (c p g r : Bool) → (g ≡ true → p ≡ false) → (c || (p && r)) ≡ (c || (p && (g || r)))
or_no true p g r k = refl
or_no false true true r k = never (sym (k refl))
or_no false true false r k = refl
or_no false false g r k = refl

-- x means a truth that, or'ed with the rest, is all
record Ored (ns : List ℕ) (rest all : Bool) (ts : List Term) (x : ℕ) : Type 0 where
  has : Bool
  is : MeansTruth ns has ts x
  same : (has || rest) ≡ all

module _ {l n : ℕ} {N : ℕ → Type 0} (room : N table_full) {ns : List ℕ} where
  -- the or of the targets' guards
  or_targets : {ts : List Term} {v : Value} {us : List Term} {k : ℕ} {c : Bool} {ls : List Leaf} {gs : List Bool} → Step n ts us → MeansTruth ns c us k → Leaves ns ts v ls gs
      → Does l n (each or_target_of k ls) us (MeansTruth ns (c || (is_aprocedure v && some_of gs))) N
  unfolding each or_target_of
  or_targets {v = v} {c = c} z h no_leaf_lem = rw (and-false (is_aprocedure v), or-false c) (does_give _ z.fit h)
  or_targets {v = v} {us = us} {c = c} z h (leaf {g = g} {gs = gs} x r) =
      let y = leaf_step z x in
      does_then {Q = Or} (does_eq _ _
      (λ e. does_weaken z.fit (λ ws a p q. record { has = _; is = q; same = or_yes c (is_aprocedure v) g (some_of gs) (λ i. ap is_aprocedure (target_is z.fit y e i) ∙ procedure_yes _ _) })
      (or_does room z.fit h y.guard))
      (λ e. does_give _ z.fit (record { has = c; is = h; same = or_no c (is_aprocedure v) g (some_of gs) (target_none z.fit y e) })))
      (λ ws a p q. rw (sym q.same) (or_targets {us = ws} (step_on z p) q.is r))
    where
      Or : List Term → ℕ → Type 0
      Or = Ored ns (is_aprocedure v && some_of gs) (c || (is_aprocedure v && (g || some_of gs)))

-- ---- branches, one more at the end
branches_more : {ns : List ℕ} {ts : List Term} {o : Seen} {bs : List Branch} {xs : List BranchReading} {b : Branch} {x : BranchReading} → BranchesMean ns ts o bs xs → BranchMeans ns ts o b x
    → BranchesMean ns ts o (bs ++ (b ∷ [])) (xs ++ (x ∷ []))
branches_more no_branch_lem h = also h no_branch_lem
branches_more (also k r) h = also k (branches_more r h)

any_more : (xs : List BranchReading) (x : BranchReading) → any (xs ++ (x ∷ [])) ≡ (any xs || x.guard)
any_more [] x = or-false x.guard
any_more (y ∷ ys) x = ap (λ u. y.guard || u) (any_more ys x) ∙ go y.guard
  where
    go : (b : Bool) → (b || (any ys || x.guard)) ≡ ((b || any ys) || x.guard)
    go true = refl
    go false = refl

assumed_live : (s t x : Bool) → (s && t) ≡ true → x ≡ true → (assumed s t x && t) ≡ true
assumed_live true true x n e = rw e
assumed_live true false x n e = n
assumed_live false t x n e = n

-- "of anything else, error"
call_error : (rn : ℕ → Running) (rule : List ℕ) (v u : Value) → pick (is_aprocedure v) (call_run rn rule v u) errs ≡ call_run rn rule v u
unfolding is_aprocedure call_run
call_error rn rule (truth b) u = refl
call_error rn rule (word w) u = refl
call_error rn rule (procedure i e) u = refl
call_error rn rule (binding v e) u = refl
call_error rn rule none u = refl

call_procedure : (rn : ℕ → Running) (rule : List ℕ) (i : ℕ) (e u : Value) → call_run rn rule (procedure i e) u ≡ rn (record_at rule i).p (binding u e)
unfolding call_run
call_procedure rn rule i e u = refl

-- branches that with those to come cover all
record Ranged (ns : List ℕ) (o : Seen) (rest all : Bool) (ts : List Term) (bs : List Branch) : Type 0 where
  xs : List BranchReading
  branches : BranchesMean ns ts o bs xs
  same : (any xs || rest) ≡ all

module _ {l n : ℕ} {ns : List ℕ} {run : Evaluator} {rn : ℕ → Running} (rule : List ℕ) (ih : Sims l n ns run rn) where
  -- a target, its guard assumed
  apply_does : {top ts : List Term} {v u : Value} {arg : ℕ} {x : State} {s t s₀ t₀ : Bool} {y : Leaf} {g : Bool} → Step n top ts → StateMeans ns s t ts x → MeansValue ns u ts arg
      → (Const top → (s && t) ≡ true) → LeafMeans ns ts v y g → y.term.kind ≡ procedure_term
      → Does l n (apply_of run rule arg x y) ts (Sim ns (on (assumed s t g) t (rn (record_at rule y.term.a).p (binding u (meaning ns ts y.term.b))))) (Spends top s₀ t₀ (call_run rn rule v u))
  unfolding apply_of under_of
  apply_does {top} {ts} {v} {u} {arg} {x} {s} {t} {s₀} {t₀} {y} {g} z h hu nc c k =
      does_then (assume_does full z.fit h c.guard) (λ us w p hw. does_with _ _ (
      does_then (binding_does full p.fit (value_step p hu) (bindings_step p (target_env z.fit c k))) (λ vs e q he.
      does_refused q.fit (deep (step_on (step_on z p) q)) (ih (record_at rule y.term.a).p e w vs (assumed s t g) t (binding u (meaning ns ts y.term.b)) q.fit he (state_step_lem q hw)))))
    where
      deep : {ws : List Term} → Step n top ws → (j : ℕ) → Spends ws (assumed s t g) t (rn (record_at rule y.term.a).p (binding u (meaning ns ts y.term.b))) j
          → Spends top s₀ t₀ (call_run rn rule v u) j
      deep d j i = record {
        runs_out = λ e o _. let gt = c.live (z.keeps o) in
            ap (λ a. call_run rn rule a u) (target_is z.fit c k gt) ∙ (call_procedure rn rule _ _ u ∙ i.runs_out e (d.keeps o) (assumed_live s t g (nc o) gt));
        not_wide = λ e o _. i.not_wide e (d.keeps o) (assumed_live s t g (nc o) (c.live (z.keeps o)));
      }

  -- each target in turn
  targets_does : {top ts : List Term} {v u : Value} {us : List Term} {arg : ℕ} {x : State} {s t s₀ t₀ : Bool} {ls : List Leaf} {gs : List Bool} (bs : List Branch) (xs : List BranchReading)
      → Step n top us → Step n ts us → StateMeans ns s t us x → MeansValue ns u us arg → (Const top → (s && t) ≡ true) → Leaves ns ts v ls gs → BranchesMean ns us (on s t (call_run rn rule v u)) bs xs
      → Does l n (each (target_of run rule arg x) bs ls) us (Branches ns (on s t (call_run rn rule v u)) (any xs || (is_aprocedure v && some_of gs))) (Spends top s₀ t₀ (call_run rn rule v u))
  unfolding each target_of
  targets_does {v = v} bs xs z y h hu nc no_leaf_lem r =
      does_give _ z.fit (record { xs = xs; branches = r; covers = sym (rw (and-false (is_aprocedure v)) (or-false (any xs))) })
  targets_does {top} {ts} {v} {u} {us} {arg} {x} {s} {t} {s₀} {t₀} bs xs z y h hu nc (leaf {l = a} {g = g} {gs = gs} b q) r =
      does_then {Q = Ran} (does_eq _ _
      (λ k. does_map _ (apply_does z h hu nc c k) (λ us o p ho. record {
        xs = _;
        branches = branches_more (branches_step p r) (branch_means (truth_step p c.guard) ho (same_run k));
        same = ap (λ a. a || (is_aprocedure v && some_of gs)) (any_more xs _) ∙ or_yes (any xs) (is_aprocedure v) g (some_of gs) (λ i. ap is_aprocedure (target_is z.fit c k i) ∙ procedure_yes _ _);
      }))
      (λ k. does_give _ z.fit (record { xs = xs; branches = r; same = or_no (any xs) (is_aprocedure v) g (some_of gs) (target_none z.fit c k) })))
      (λ us cs p hc. rw (sym hc.same) (targets_does cs hc.xs (step_on z p) (step_on y p) (state_step_lem p h) (value_step p hu) nc q hc.branches))
    where
      c : LeafMeans ns us v a g
      c = leaf_step y b

      Ran : List Term → List Branch → Type 0
      Ran = Ranged ns (on s t (call_run rn rule v u)) (is_aprocedure v && some_of gs) (any xs || (is_aprocedure v && (g || some_of gs)))

      same_run : a.term.kind ≡ procedure_term → g ≡ true
          → on (assumed s t g) t (rn (record_at rule a.term.a).p (binding u (meaning ns us a.term.b))) ≡ on s t (call_run rn rule v u)
      same_run k i =
          on_assumed s t g (rn (record_at rule a.term.a).p (binding u (meaning ns us a.term.b))) ∙
          rw (i, target_is z.fit c k i, call_procedure rn rule a.term.a (meaning ns us a.term.b) u)

  -- the leaves, and the state in which one of them is a target
  record Aimed (s t : Bool) (v : Value) (ts : List Term) (m : Aim) : Type 0 where
    gs : List Bool
    leaves : Leaves ns ts v m.leaves gs
    some : some_of gs ≡ true
    state : StateMeans ns s (asserted s t (is_aprocedure v)) ts m.state

  aim_does : {ts : List Term} {f : ℕ} {x : State} {s t : Bool} {v : Value} (u : Value) → Fit n ts → StateMeans ns s t ts x → MeansValue ns v ts f
      → Does l n (aim_of f x) ts (Aimed s t v) (Spends ts s t (call_run rn rule v u))
  unfolding aim_of
  aim_does {ts} {f} {x} {s} {t} {v} u fit state hf =
      let k = hf.named.low in let o = fit.short in
      does_then (walk_does l n ns (Spends ts s t (call_run rn rule v u)) ts full over term_limit ts true_number f [] true v (omega arith) (stay fit) (λ _. omega arith) (true_means fit) (λ _. refl) hf) (λ us ls p hl.
      let here : Leaves ns us v ls hl.gs = subst (λ e. Leaves ns us v e hl.gs) (sym hl.is) hl.leaves in
      does_then (or_targets full (stay p.fit) (false_means p.fit) here) (λ ws g q hg.
      does_map _ (assert_does full q.fit (state_step_lem (step_on p q) state) (guard hl.some hg)) (λ ys y r hy.
      record { gs = hl.gs; leaves = leaves_step (step_on q r) here; some = hl.some; state = hy })))
    where
      guard : {ws : List Term} {g : ℕ} {b : Bool} → b ≡ true → MeansTruth ns (false || (is_aprocedure v && b)) ws g → MeansTruth ns (is_aprocedure v) ws g
      guard {ws} {g} e h = subst (λ a. MeansTruth ns a ws g) (rw (e, and-true (is_aprocedure v))) h

  pub call_sim : {ts : List Term} {f arg : ℕ} {x : State} {s t : Bool} {v u : Value} → Fit n ts → StateMeans ns s t ts x → (Const ts → (s && t) ≡ true) → MeansValue ns v ts f → MeansValue ns u ts arg
      → Sound l n ns ts s t (call_run rn rule v u) (call_of run rule f arg x)
  unfolding call_of targets_of
  call_sim {ts} {f} {arg} {x} {s} {t} {v} {u} fit state nc hf hu =
      does_then (aim_does u fit state hf) (λ us m p hm. does_read _ _ (does_if _
      (λ i. let d = stops_dead p.fit hm.state i in
      does_give _ p.fit (sim_halt p.fit hm.state d (λ w. on_off s (asserted s t (is_aprocedure v)) (gives w) (call_run rn rule v u) d ∙ as_run)))
      (λ i. does_then (targets_does [] [] p (stay p.fit) hm.state (value_step p hu) (λ c. runs_live p.fit hm.state i (p.keeps c)) hm.leaves no_branch_lem) (λ ws bs q hb.
      does_weaken q.fit (λ xs r w hr. sim_as as_run hr)
      (merge_does full (call_run rn rule v u) q.fit (state_step_lem q hm.state) hb.branches (λ e. hb.covers ∙ rw (hm.some, asserted_live s t (is_aprocedure v) e)))))))
    where
      as_run : on s (asserted s t (is_aprocedure v)) (call_run rn rule v u) ≡ on s t (call_run rn rule v u)
      as_run = on_asserted s t (is_aprocedure v) (call_run rn rule v u) ∙ ap (on s t) (call_error rn rule v u)
