-- The merge. No guards need be disjoint: it is enough that every branch whose guard holds reads as the one outcome. Assumes nothing.
use mathlib.Core.Path.{◌≡◌, refl, sym, ap, subst, ◌∙◌}
use mathlib.Core.Bool.{Bool, true, false, not, ◌&&◌, ◌||◌, and-true, and_assoc}
use mathlib.Core.List.{List, [], ◌∷◌}
use Prim.Native.Nat.{ℕ}
use native.Mathlib.Omega.{arith}
use Rattle.notation.specs.Notation.{pick}
use Rattle.semantics.specs.declared.Term.{Term}
use Rattle.semantics.specs.declared.Folded.{Folded}
use Rattle.semantics.specs.declared.State.{State}
use Rattle.semantics.specs.declared.Result.{Result}
use Rattle.semantics.specs.declared.Branch.{Branch}
use Rattle.semantics.specs.Numbers.{table_full}
use Rattle.semantics.specs.Steps.{each}
use Rattle.semantics.specs.States.{halts}
use Rattle.semantics.specs.Merge.{branch_of, assumed_step, asserted_step, merge_states_of, value_step_of, merge_values_of, finish_of, merge_of}
use Rattle.semantics.specs.Run.{Value, Ended, gives, aborts, errs, spends}
use Rattle.typing.proofs.Formed.{never}
use Rattle.typing.proofs.Does.{Fit, stay, step_on, does_give, does_then, does_map, does_read, does_if}
use Rattle.soundness.proofs.Constants.{Step, Does}
use Rattle.soundness.proofs.Held.{MeansTruth, MeansValue, truth_step, value_step}
use Rattle.soundness.proofs.Factory.{choice_does}
use Rattle.soundness.proofs.Sim.{Seen, ends, broken, on, StateMeans, state_step_lem, Sim, on_off, stops_dead, runs_live, merge_assumed_does, merge_asserted_does, sim_out, sim_halt}

-- what a branch reads as: its guard, S, T and value, and whether it halted
pub record BranchReading : Type 0 where
  pub guard : Bool
  pub s : Bool
  pub t : Bool
  pub v : Value
  pub halted : Bool

-- The branch b reads as x; if its guard holds, it reads as the outcome o.
pub record BranchMeans (ns : List ℕ) (ts : List Term) (o : Seen) (b : Branch) (x : BranchReading) : Type 0 where
  pub guard : MeansTruth ns x.guard ts b.guard
  pub state : StateMeans ns x.s x.t ts b.state
  pub value : MeansValue ns x.v ts b.value
  pub halts : b.halted ≡ x.halted
  pub agrees : x.guard ≡ true → on x.s x.t (gives x.v) ≡ o
  pub dead : x.halted ≡ true → (x.s && x.t) ≡ false

pub data BranchesMean (ns : List ℕ) (ts : List Term) (o : Seen) : List Branch → List BranchReading → Type 0 where
  no_branch_lem : BranchesMean ns ts o [] []
  also : {b : Branch} {x : BranchReading} {bs : List Branch} {xs : List BranchReading} → BranchMeans ns ts o b x → BranchesMean ns ts o bs xs → BranchesMean ns ts o (b ∷ bs) (x ∷ xs)

branch_step : {ns : List ℕ} {n : ℕ} {ts us : List Term} {o : Seen} {b : Branch} {x : BranchReading} → Step n ts us → BranchMeans ns ts o b x → BranchMeans ns us o b x
branch_step p h = record { guard = truth_step p h.guard; state = state_step_lem p h.state; value = value_step p h.value; halts = h.halts; agrees = h.agrees; dead = h.dead }

pub branches_step : {ns : List ℕ} {n : ℕ} {ts us : List Term} {o : Seen} {bs : List Branch} {xs : List BranchReading} → Step n ts us → BranchesMean ns ts o bs xs → BranchesMean ns us o bs xs
branches_step p no_branch_lem = no_branch_lem
branches_step p (also h r) = also (branch_step p h) (branches_step p r)

-- a branch, by its guard and its result
pub branch_means : {ns : List ℕ} {ts : List Term} {p o : Seen} {g : ℕ} {x : Bool} {r : Result} → MeansTruth ns x ts g → (h : Sim ns p ts r) → (x ≡ true → p ≡ o)
    → BranchMeans ns ts o (branch_of g r) (record { guard = x; s = h.s; t = h.t; v = h.v; halted = r.halted })
branch_means b h q = record { guard = b; state = h.state; value = h.value; halts = refl; agrees = λ i. h.sees ∙ q i; dead = h.dead }

abbrev pub any : List BranchReading → Bool
any [] = false
any (x ∷ xs) = x.guard || any xs

abbrev guarded_assumed : List BranchReading → Bool
guarded_assumed [] = true
guarded_assumed (x ∷ xs) = (not x.guard || x.s) && guarded_assumed xs

abbrev guarded_asserted : List BranchReading → Bool
guarded_asserted [] = true
guarded_asserted (x ∷ xs) = (not x.guard || x.t) && guarded_asserted xs

abbrev unless_halted : Bool → BranchReading → List BranchReading → List BranchReading
unless_halted true x xs = xs
unless_halted false x xs = x ∷ xs

-- the branches that did not halt
abbrev unhalted : List BranchReading → List BranchReading
unhalted [] = []
unhalted (x ∷ xs) = unless_halted x.halted x (unhalted xs)

abbrev picked_value : BranchReading → List BranchReading → Value
picked_value x [] = x.v
picked_value x (y ∷ ys) = pick x.guard x.v (picked_value y ys)

-- ---- the formulas that an outcome reads from
abbrev assumed_in : Seen → Bool
assumed_in (ends (gives v)) = true
assumed_in (ends aborts) = false
assumed_in (ends errs) = true
assumed_in (ends spends) = true
assumed_in broken = false

abbrev asserted_in : Seen → Bool
asserted_in (ends (gives v)) = true
asserted_in (ends aborts) = true
asserted_in (ends errs) = false
asserted_in (ends spends) = true
asserted_in broken = false

assumed_in_lem : (s t : Bool) (v : Value) → assumed_in (on s t (gives v)) ≡ s
assumed_in_lem true true v = refl
assumed_in_lem true false v = refl
assumed_in_lem false true v = refl
assumed_in_lem false false v = refl

asserted_in_lem : (s t : Bool) (v : Value) → asserted_in (on s t (gives v)) ≡ t
asserted_in_lem true true v = refl
asserted_in_lem true false v = refl
asserted_in_lem false true v = refl
asserted_in_lem false false v = refl

on_value : (s t : Bool) (v w : Value) → on s t (gives v) ≡ ends (gives w) → v ≡ w
on_value true true v w e = cc
on_value true false v w e = cc
on_value false true v w e = cc
on_value false false v w e = cc

on_normal : (s t : Bool) (p : Ended) (w : Value) → on s t p ≡ ends (gives w) → (s && t) ≡ true
on_normal true true p w e = refl
on_normal true false p w e = cc
on_normal false true p w e = cc
on_normal false false p w e = cc

pub on_unspent : (s t : Bool) (v : Value) → on s t (gives v) ≡ ends spends → ⊥
on_unspent true true v e = let z : ◌≡◌ {A = ℕ} 0 1 = cc in omega arith
on_unspent true false v e = let z : ◌≡◌ {A = ℕ} 0 1 = cc in omega arith
on_unspent false true v e = let z : ◌≡◌ {A = ℕ} 0 1 = cc in omega arith
on_unspent false false v e = let z : ◌≡◌ {A = ℕ} 0 1 = cc in omega arith

-- ---- all that the branches imply, where those whose guards hold agree
guarded_step : (g x y n : Bool) → (g ≡ true → x ≡ y) → ((not g || x) && (not n || y)) ≡ (not (g || n) || y)
guarded_step true x true n q = rw (q refl) (or_t n)
  where
    or_t : (n : Bool) → (not n || true) ≡ true
    or_t true = refl
    or_t false = refl
guarded_step true x false n q = rw (q refl)
guarded_step false x y n q = refl

module _ {ns : List ℕ} {ts : List Term} where
  guarded_assumed_lem : {o : Seen} {bs : List Branch} {xs : List BranchReading} → BranchesMean ns ts o bs xs → guarded_assumed xs ≡ (not (any xs) || assumed_in o)
  guarded_assumed_lem no_branch_lem = refl
  guarded_assumed_lem {o = o} (also {x = x} {xs = xs} h r) =
      rw (guarded_assumed_lem r) (guarded_step x.guard x.s (assumed_in o) (any xs) (λ q. sym (assumed_in_lem x.s x.t x.v) ∙ ap assumed_in (h.agrees q)))

  guarded_asserted_lem : {o : Seen} {bs : List Branch} {xs : List BranchReading} → BranchesMean ns ts o bs xs → guarded_asserted xs ≡ (not (any xs) || asserted_in o)
  guarded_asserted_lem no_branch_lem = refl
  guarded_asserted_lem {o = o} (also {x = x} {xs = xs} h r) =
      rw (guarded_asserted_lem r) (guarded_step x.guard x.t (asserted_in o) (any xs) (λ q. sym (asserted_in_lem x.s x.t x.v) ∙ ap asserted_in (h.agrees q)))

-- ---- the merged formulas are those of the outcome
merged_assumed : (s t n : Bool) (p : Ended) → ((s && t) ≡ true → n ≡ true) → (s && (not n || assumed_in (on s t p))) ≡ assumed_in (on s t p)
merged_assumed true true n p q = rw (q refl)
merged_assumed true false true p q = refl
merged_assumed true false false p q = refl
merged_assumed false true n p q = refl
merged_assumed false false n p q = refl

merged_asserted : (s t n : Bool) (p : Ended) → ((s && t) ≡ true → n ≡ true) → (t && (not n || asserted_in (on s t p))) ≡ asserted_in (on s t p)
merged_asserted true true n p q = rw (q refl)
merged_asserted true false n p q = refl
merged_asserted false true true p q = refl
merged_asserted false true false p q = refl
merged_asserted false false n p q = refl

-- ---- Among the branches that did not halt one has a guard that holds, if the outcome is a value; and the choice picks its value.
module _ {ns : List ℕ} {ts : List Term} {w : Value} where
  any_unhalted : {bs : List Branch} {xs : List BranchReading} → BranchesMean ns ts (ends (gives w)) bs xs → any xs ≡ true → any (unhalted xs) ≡ true
  any_unhalted no_branch_lem q = q
  any_unhalted (also {x = x} {xs = xs} h r) q = go x.guard x.halted refl refl (λ k. any_unhalted r k) q
    where
      go : (g k : Bool) → x.guard ≡ g → x.halted ≡ k → (any xs ≡ true → any (unhalted xs) ≡ true) → (g || any xs) ≡ true → any (unless_halted k x (unhalted xs)) ≡ true
      go true true i j rec z = never (sym (h.dead j) ∙ on_normal x.s x.t (gives x.v) w (h.agrees i))
      go true false i j rec z = rw i
      go false true i j rec z = rec z
      go false false i j rec z = rw (i, rec z)

-- what the values of the branches that did not halt are
data ValuesAgree (w : Value) : List BranchReading → Type 0 where
  no_value_lem : ValuesAgree w []
  value_agrees : {x : BranchReading} {xs : List BranchReading} → (x.guard ≡ true → x.v ≡ w) → ValuesAgree w xs → ValuesAgree w (x ∷ xs)

values_agree : {ns : List ℕ} {ts : List Term} {w : Value} {bs : List Branch} {xs : List BranchReading} → BranchesMean ns ts (ends (gives w)) bs xs → ValuesAgree w (unhalted xs)
values_agree no_branch_lem = no_value_lem
values_agree {w = w} (also {x = x} {xs = xs} h r) = go x.halted (values_agree r)
  where
    go : (k : Bool) → ValuesAgree w (unhalted xs) → ValuesAgree w (unless_halted k x (unhalted xs))
    go true z = z
    go false z = value_agrees (λ i. on_value x.s x.t x.v w (h.agrees i)) z

picks : {w : Value} (x : BranchReading) (xs : List BranchReading) → ValuesAgree w (x ∷ xs) → any (x ∷ xs) ≡ true → picked_value x xs ≡ w
picks x [] (value_agrees h r) q = h (or_f x.guard q)
  where
    or_f : (b : Bool) → (b || false) ≡ true → b ≡ true
    or_f true e = refl
    or_f false e = e
picks {w} x (y ∷ ys) (value_agrees h r) q = go x.guard refl q (λ z. picks y ys r z)
  where
    go : (g : Bool) → x.guard ≡ g → (g || any (y ∷ ys)) ≡ true → (any (y ∷ ys) ≡ true → picked_value y ys ≡ w) → pick g x.v (picked_value y ys) ≡ w
    go true i z rec = h i
    go false i z rec = rec z

-- a merged value, by what it must read as
re_see : (o : Seen) (v : Value) → (o ≡ ends spends → ⊥) → ((w : Value) → o ≡ ends (gives w) → v ≡ w) → on (assumed_in o) (asserted_in o) (gives v) ≡ o
re_see (ends (gives w)) v n q = ap (λ u. ends (gives u)) (q w refl)
re_see (ends aborts) v n q = refl
re_see (ends errs) v n q = refl
re_see (ends spends) v n q = absurd (n refl)
re_see broken v n q = refl

-- an outcome that is no value and not spent is not normal
not_normal : (o : Seen) → (o ≡ ends spends → ⊥) → ((w : Value) → o ≡ ends (gives w) → ⊥) → (assumed_in o && asserted_in o) ≡ false
not_normal (ends (gives w)) n q = absurd (q w refl)
not_normal (ends aborts) n q = refl
not_normal (ends errs) n q = refl
not_normal (ends spends) n q = absurd (n refl)
not_normal broken n q = refl

any_unspent : {ns : List ℕ} {ts : List Term} {o : Seen} {bs : List Branch} {xs : List BranchReading} → BranchesMean ns ts o bs xs → any xs ≡ true → o ≡ ends spends → ⊥
any_unspent no_branch_lem q e = never q
any_unspent (also {x = x} {xs = xs} h r) q e = go x.guard refl q (λ k. any_unspent r k e)
  where
    go : (g : Bool) → x.guard ≡ g → (g || any xs) ≡ true → (any xs ≡ true → ⊥) → ⊥
    go true i z rec = on_unspent x.s x.t x.v (h.agrees i ∙ e)
    go false i z rec = rec z

off_unspent : (s t : Bool) (p : Ended) → ((s && t) ≡ true → ⊥) → on s t p ≡ ends spends → ⊥
off_unspent true true p n e = n refl
off_unspent true false p n e = let z : ◌≡◌ {A = ℕ} 0 1 = cc in omega arith
off_unspent false true p n e = let z : ◌≡◌ {A = ℕ} 0 1 = cc in omega arith
off_unspent false false p n e = let z : ◌≡◌ {A = ℕ} 0 1 = cc in omega arith

-- the value of the branches that did not halt, if there is one
data Chosen (ns : List ℕ) : List BranchReading → List Term → Folded → Type 0 where
  none_runs : {ts : List Term} {v : Folded} → v.any ≡ false → Chosen ns [] ts v
  some_run : {x : BranchReading} {xs : List BranchReading} {ts : List Term} {v : Folded} → v.any ≡ true → MeansValue ns (picked_value x xs) ts v.value → Chosen ns (x ∷ xs) ts v

module _ {l n : ℕ} {N : ℕ → Type 0} (room : N table_full) {ns : List ℕ} where
  -- The branches stay promised of the table at the start, and what is made goes on from there: so the recursion is on that promise.
  assumed_does : {ts : List Term} {o : Seen} {us : List Term} {x : State} {s t : Bool} {bs : List Branch} {xs : List BranchReading} → Step n ts us → StateMeans ns s t us x → BranchesMean ns ts o bs xs
      → Does l n (each assumed_step x bs) us (StateMeans ns (s && guarded_assumed xs) t) N
  unfolding each
  assumed_does {s = s} z h no_branch_lem = rw (and-true s) (does_give _ z.fit h)
  assumed_does {s = s} z h (also {x = x} {xs = xs} b r) =
      does_then (merge_assumed_does room z.fit h (truth_step z b.guard) (truth_step z b.state.S)) (λ us y p hy.
      rw (← and_assoc s (not x.guard || x.s) (guarded_assumed xs)) (assumed_does (step_on z p) hy r))

  asserted_does : {ts : List Term} {o : Seen} {us : List Term} {x : State} {s t : Bool} {bs : List Branch} {xs : List BranchReading} → Step n ts us → StateMeans ns s t us x → BranchesMean ns ts o bs xs
      → Does l n (each asserted_step x bs) us (StateMeans ns s (t && guarded_asserted xs)) N
  unfolding each
  asserted_does {t = t} z h no_branch_lem = rw (and-true t) (does_give _ z.fit h)
  asserted_does {t = t} z h (also {x = x} {xs = xs} b r) =
      does_then (merge_asserted_does room z.fit h (truth_step z b.guard) (truth_step z b.state.T)) (λ us y p hy.
      rw (← and_assoc t (not x.guard || x.t) (guarded_asserted xs)) (asserted_does (step_on z p) hy r))

  states_does : {ts : List Term} {x : State} {s t : Bool} {o : Seen} {bs : List Branch} {xs : List BranchReading} → Fit n ts → StateMeans ns s t ts x → BranchesMean ns ts o bs xs
      → Does l n (merge_states_of x bs) ts (StateMeans ns (s && guarded_assumed xs) (t && guarded_asserted xs)) N
  unfolding merge_states_of
  states_does f h r = does_then (assumed_does (stay f) h r) (λ us y p hy. asserted_does p hy r)

  value_step_does : {ts : List Term} {o : Seen} {b : Branch} {x : BranchReading} {ys : List BranchReading} {v : Folded} → Fit n ts → BranchMeans ns ts o b x → Chosen ns ys ts v
      → Does l n (value_step_of b v) ts (Chosen ns (unless_halted x.halted x ys)) N
  unfolding value_step_of
  value_step_does {b = b} f h (none_runs e) =
      does_if b.halted (λ i. does_give _ f (rw (sym h.halts ∙ i) (none_runs e))) λ i.
      does_if _ (λ j. never (sym e ∙ j)) λ j. does_give _ f (rw (sym h.halts ∙ i) (some_run refl h.value))
  value_step_does {b = b} f h (some_run e c) =
      does_if b.halted (λ i. does_give _ f (rw (sym h.halts ∙ i) (some_run e c))) λ i.
      does_if _ (λ j. does_map _ (choice_does room f h.guard h.value c) (λ us a p q. rw (sym h.halts ∙ i) (some_run refl q))) λ j. never (sym j ∙ e)

  values_does : {ts us : List Term} {o : Seen} {bs : List Branch} {xs : List BranchReading} → Step n ts us → BranchesMean ns ts o bs xs → Does l n (merge_values_of bs) us (Chosen ns (unhalted xs)) N
  unfolding merge_values_of
  values_does z no_branch_lem = does_give _ z.fit (none_runs refl)
  values_does z (also h r) =
      does_then (values_does z r) (λ us v p q. value_step_does p.fit (branch_step (step_on z p) h) q)

  -- with the formulas of the outcome, and a value that reads as it
  finish_does : {ts : List Term} {x : State} {v : Folded} {o : Seen} (ys : List BranchReading) → Fit n ts → StateMeans ns (assumed_in o) (asserted_in o) ts x → Chosen ns ys ts v
      → (o ≡ ends spends → ⊥) → ((w : Value) → o ≡ ends (gives w) → ValuesAgree w ys × any ys ≡ true) → Does l n (finish_of x v) ts (Sim ns o) N
  unfolding finish_of
  finish_does {x = x} {v} {o} ys f h (none_runs e) u q =
      let d : (assumed_in o && asserted_in o) ≡ false = not_normal o u (λ w i. never (q w i).1) in
      does_if v.any (λ i. never (sym e ∙ i)) (λ i. does_give _ f (sim_halt f h d (λ w. re_see o w u (λ k i. never (q k i).1))))
  finish_does {x = x} {v} {o} ys f h (some_run {x = y} {xs = zs} e c) u q =
      let s : on (assumed_in o) (asserted_in o) (gives (picked_value y zs)) ≡ o = re_see o (picked_value y zs) u (λ w i. picks y zs (q w i).0 (q w i).1) in
      does_if v.any (λ i. does_read _ _ (does_if _
      (λ j. let d = stops_dead f h j in does_give _ f (sim_halt f h d (λ w. on_off (assumed_in o) (asserted_in o) (gives w) (gives (picked_value y zs)) d ∙ s)))
      (λ j. does_give _ f (sim_out h c (runs_live f h j) s)))) (λ i. never (sym i ∙ e))

  pub merge_does : {ts : List Term} {x : State} {s t : Bool} (p : Ended) {bs : List Branch} {xs : List BranchReading} → Fit n ts → StateMeans ns s t ts x
      → BranchesMean ns ts (on s t p) bs xs → ((s && t) ≡ true → any xs ≡ true) → Does l n (merge_of x bs) ts (Sim ns (on s t p)) N
  unfolding merge_of
  merge_does {ts} {x} {s} {t} p {bs} {xs} f h r c =
      does_then (states_does f h r) (λ us y g hy.
      does_then (values_does g r) (λ ws v k hv.
      finish_does (unhalted xs) k.fit (state_step_lem k (formulas hy)) hv unspent (λ w e. (alive w e, some w e))))
    where
      formulas : {us : List Term} {y : State} → StateMeans ns (s && guarded_assumed xs) (t && guarded_asserted xs) us y → StateMeans ns (assumed_in (on s t p)) (asserted_in (on s t p)) us y
      formulas {us} {y} hy =
          subst (λ a. StateMeans ns a (asserted_in (on s t p)) us y) (rw (guarded_assumed_lem r) (merged_assumed s t (any xs) p c))
          (subst (λ b. StateMeans ns (s && guarded_assumed xs) b us y) (rw (guarded_asserted_lem r) (merged_asserted s t (any xs) p c)) hy)

      unspent : on s t p ≡ ends spends → ⊥
      unspent e = off_unspent s t p (λ i. any_unspent r (c i) e) e

      alive : (w : Value) → on s t p ≡ ends (gives w) → ValuesAgree w (unhalted xs)
      alive w e = values_agree (subst (λ u. BranchesMean ns ts u bs xs) e r)

      some : (w : Value) → on s t p ≡ ends (gives w) → any (unhalted xs) ≡ true
      some w e = any_unhalted (subst (λ u. BranchesMean ns ts u bs xs) e r) (c (on_normal s t p w e))
