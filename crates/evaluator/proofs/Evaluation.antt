-- An expression and its depth; a leaf of a call; one more branch; and what a `?` on an evaluation goes on with. Assumes nothing.
use mathlib.Core.Path.{◌≡◌, subst}
use mathlib.Core.List.{List, [], ◌∷◌, ◌++◌}
use Prim.Native.Nat.{ℕ, suc, ◌-◌, ◌≤◌, max, zero-le}
use native.Mathlib.Omega.{arith}
use Rattle.std.specs.declared.result.Result.{Result}
use Rattle.std.specs.declared.result.Result.TheVariants.{Ok, Err}
use Rattle.std.specs.declared.ops.ControlFlow.{ControlFlow}
use Rattle.std.specs.declared.ops.ControlFlow.TheVariants.{Continue, Break}
use Rattle.std.specs.Prelude.{IfOk}
use Rattle.std.specs.Result.{result_from_control_flow}
use Rattle.semantics.specs.declared.State.{State}
use Rattle.semantics.specs.declared.Result.{Result as Ending}
use Rattle.semantics.specs.declared.Leaf.{Leaf}
use Rattle.semantics.specs.declared.Branch.{Branch}
use Rattle.semantics.specs.declared.refusal.Refusal.{Refusal}
use Rattle.semantics.specs.Steps.{Make, each, up}
use Rattle.semantics.specs.Merge.{branch_of}
use Rattle.semantics.specs.Evaluation.{Evaluator, apply_of, target_of, live_of, eval_of}
use Rattle.terms.specs.Gives.{mapped, Gives, Leads}
use Rattle.terms.specs.declared.table.Table.{Table}
use Rattle.terms.proofs.Gives.{if_eq, if_ne, gives_value, gives_none, map_on, map_stop, each_end, each_stop, each_next}
use Rattle.expressions.specs.declared.Out.{Out}
use Rattle.expressions.specs.Evaluates.{Evaluates, ending_of}

-- a refusal, whatever depth was used
pub at_any : {A : Type 0} {m : Make A} {s y : Table} {u : ℕ} {k : Refusal} → Gives m s u (Err k) y → (w : ℕ) → Gives m s w (Err k) y
at_any g w = record { is = g.is; kept = g.kept }

-- a step whose answer is told by f, at a `?`
module _ {A B : Type 0} (f : B → A) {m : Make A} {s y : Table} {u : ℕ} {q : Result B Refusal} {b : ControlFlow _ B} (g : Gives m s u (mapped f q) y) (h : q ≡ result_from_control_flow b) where
  pub told_err : {e : _} → b ≡ Break e → (w : ℕ) → Gives m s w (Err e.0) y
  told_err i w = at_any (rw (h, i) at g) w

  pub told_ok : {t : B} → b ≡ Continue t → Gives m s u (Ok (f t)) y
  told_ok i = rw (h, i) at g

-- an evaluation, at a `?`
module _ {m : Make Ending} {s y : Table} {d : ℕ} {q : Result Out Refusal} {b : ControlFlow _ Out} (g : Evaluates d m s q y) (h : q ≡ result_from_control_flow b) where
  pub ran_err : {e : _} → b ≡ Break e → (w : ℕ) → Gives m s w (Err e.0) y
  ran_err i w = at_any (rw (h, i) at g.gives) w

  pub ran_ok : {o : Out} → b ≡ Continue o → Gives m s o.used (Ok o.result) y
  ran_ok i = rw (h, i) at g.gives

  pub ran_low : {o : Out} → b ≡ Continue o → o.used ≤ d
  ran_low i = rw (h, i) at g.low

module _ (rule : List ℕ) (before d i env : ℕ) (x : State) {s : Table} where
  pub eval_spent : d ≡ 0 → (u : ℕ) → Gives (eval_of rule before d i env x) s u (Err Refusal.DepthSpent) s
  unfolding eval_of
  eval_spent h u = rw (h, eval_of) (gives_none s Refusal.DepthSpent u)

  pub eval_go : (d ≡ 0 → ⊥) → {u : ℕ} {r : Result Ending Refusal} {y : Table} → Gives (up (live_of rule before (eval_of rule before (d - 1)) i env x)) s u r y
      → Gives (eval_of rule before d i env x) s u r y
  unfolding eval_of
  eval_go h g = let e : d ≡ suc (d - 1) = omega arith in rw (e, eval_of) g

-- a leaf that is no procedure is passed over; a target's result stands after those before it
module _ (run : Evaluator) (rule : List ℕ) (arg : ℕ) (x : State) (bs : List Branch) (l : Leaf) {s : Table} where
  pub target_passed : (l.term.kind ≡ 7 → ⊥) → Gives (target_of run rule arg x bs l) s 0 (Ok bs) s
  unfolding target_of
  target_passed h = if_ne _ _ _ _ h (gives_value s bs)

  module _ (h : l.term.kind ≡ 7) {u : ℕ} {q : Result Ending Refusal} {y : Table} (g : Gives (apply_of run rule arg x l) s u q y) where
    pub target_run : {a : Ending} → q ≡ Ok a → {b : List Branch} → b ≡ bs ++ (branch_of l.guard a ∷ []) → Gives (target_of run rule arg x bs l) s u (Ok b) y
    unfolding target_of
    target_run i e = if_eq _ _ _ _ h (map_on _ g i e)

    pub target_stop : {k : Refusal} → q ≡ Err k → (w : ℕ) → Gives (target_of run rule arg x bs l) s w (Err k) y
    unfolding target_of
    target_stop i w = if_eq _ _ _ _ h (map_stop _ g i {w = w})

-- an evaluation whose depth is known where it is not refused
pub ends_as : {m : Make Ending} {s y : Table} {d u : ℕ} (q : Result Out Refusal) → Gives m s u (ending_of q) y → IfOk q (λ o. o.used ≡ u) → u ≤ d → Evaluates d m s q y
ends_as (Ok o) g e l = record { gives = rw e g; low = rw e l }
ends_as (Err k) g e l = record { gives = at_any g 0; low = zero-le }

-- ---- a turn of the loop over the leaves: what is left of them leads on from the start
module _ {A B : Type 0} (f : A → B → Make A) {m : Make A} {s y : Table} {d : ℕ} where
  lead : (p : A) (l k : List B) → l ≡ k → Leads m s d (each f p l) y → Leads m s d (each f p k) y
  lead p l k e inv = subst (λ (k : List B). Leads m s d (each f p k) y) e inv

  module _ {p : A} (l : List B) (inv : Leads m s d (each f p l) y) where
    pub turns_end : l ≡ [] → Gives m s d (Ok p) y
    turns_end e = each_end f (lead p l [] e inv)

    module _ (x : B) (k : List B) (e : l ≡ x ∷ k) {u : ℕ} {q : Result A Refusal} {w : Table} (g : Gives (f p x) y u q w) where
      pub turns_stop : {j : Refusal} → q ≡ Err j → (v : ℕ) → Gives m s v (Err j) w
      turns_stop i v = each_stop f x k (lead p l (x ∷ k) e inv) g i {v = v}

      pub turns_next : {a : A} → q ≡ Ok a → {t : ℕ} → t ≡ max d u → Leads m s t (each f a k) w
      turns_next i h = each_next f x k (lead p l (x ∷ k) e inv) g i h
