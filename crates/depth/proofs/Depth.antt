-- An evaluation at one depth less: the same result where its depth allows, and else the refusal for depth. So the depth that is reported is the
-- smallest allowance that gives the result. Assumes nothing.
use mathlib.Core.Path.{◌≡◌, refl}
use mathlib.Core.Bool.{Bool, true, false}
use mathlib.Core.List.{List, ◌∷◌}
use Prim.Native.Nat.{ℕ, zero, suc, ◌+◌, ◌<◌, ◌≤◌, max}
use native.Mathlib.Omega.{arith}
use lib.Dec.{ltb}
use lib.ListN.{length}
use Rattle.notation.specs.Notation.{pick}
use Rattle.semantics.specs.declared.Term.{Term}
use Rattle.semantics.specs.declared.State.{State}
use Rattle.semantics.specs.declared.Result.{Result}
use Rattle.semantics.specs.Numbers.{depth_spent, table_full}
use Rattle.semantics.specs.Steps.{Setting, Got, gave, refused, Make, deeper, next, ◌>>=◌, give, refuse, reads, up, up_of, make_of}
use Rattle.semantics.specs.Evaluation.{live_of, eval_of}
use Rattle.depth.proofs.Built.{AnyWord, Congruence, kept_live}

-- What a step gives where it may use the depth k, beside what it gives where it may use more: the same if it uses no more than k, and else
-- the refusal for depth.
pub data Cut (k : ℕ) {A : Type 0} : Got A → Got A → Type 0 where
  same : {ts : List Term} {a : A} {u : ℕ} → u ≤ k → Cut k (gave ts a u) (gave ts a u)
  deep : {ts : List Term} {a : A} {u : ℕ} → k < u → Cut k (refused depth_spent) (gave ts a u)
  stop : {i j : ℕ} → Cut k (refused i) (refused j)

pub record Cuts (k : ℕ) {A : Type 0} (m l : Make A) : Type 0 where
  pub at : (z : Setting) (ts : List Term) → Cut k (m z ts) (l z ts)

-- after a step that used the depth u, and one level up
module _ {k : ℕ} {A : Type 0} where
  cut_deeper : {x y : Got A} (u : ℕ) → u ≤ k → Cut k x y → Cut k (deeper u x) (deeper u y)
  cut_deeper u h (same {u = w} l) = same {u = max u w} (omega arith)
  cut_deeper u h (deep {u = w} l) = deep {u = max u w} (omega arith)
  cut_deeper u h stop = stop

  cut_deep : (u : ℕ) → k < u → (y : Got A) → Cut k (refused depth_spent) (deeper u y)
  cut_deep u h (gave ts a w) = deep {u = max u w} (omega arith)
  cut_deep u h (refused j) = stop

  cut_up : {x y : Got A} → Cut k x y → Cut (suc k) (up_of x) (up_of y)
  cut_up (same {u = u} l) = same {u = u + 1} (omega arith)
  cut_up (deep {u = u} l) = deep {u = u + 1} (omega arith)
  cut_up stop = stop

-- each form of a step is cut where its parts are
module _ (k : ℕ) where
  cut_made : (ts us : List Term) (a b : ℕ) (i j : Bool)
      → let x : Got ℕ = pick i (gave ts a 0) (pick j (gave us b 0) (refused table_full)) in Cut k x x
  cut_made ts us a b true j = same {u = 0} (omega arith)
  cut_made ts us a b false true = same {u = 0} (omega arith)
  cut_made ts us a b false false = stop

  cuts_then : {A B : Type 0} {m l : Make A} {f g : A → Make B} → Cuts k m l → ((a : A) → Cuts k (f a) (g a)) → Cuts k (m >>= f) (l >>= g)
  unfolding ◌>>=◌
  cuts_then {A} {B} {m} {l} {f} {g} h c = record { at = λ z ts. go z (m z ts) (l z ts) (h.at z ts) }
    where
      go : (z : Setting) (x y : Got A) → Cut k x y → Cut k (next z x f) (next z y g)
      go z x y (same {ts = ts} {a = a} {u = u} b) = cut_deeper u b ((c a).at z ts)
      go z x y (deep {ts = ts} {a = a} {u = u} b) = cut_deep u b (g a z ts)
      go z x y stop = stop

  cuts_congruence : Congruence AnyWord (λ A m l. Cuts k m l)
  unfolding give refuse reads make_of
  cuts_congruence =
      record {
        nought = tt;
        worked_out_lem = λ op v w p q. tt;
        giving = λ a. record { at = λ z ts. same {u = 0} (omega arith) };
        refusing = record { at = λ z ts. stop };
        going_on = cuts_then;
        reading = λ f m l h. record { at = λ z ts. (h ts (λ n i. tt)).at z ts };
        making = λ t n w. record { at = λ z ts. cut_made ts (t ∷ ts) (z.search ts t).at (length ts) (z.search ts t).is (ltb (length ts) z.room) };
      }

-- an expression uses a depth of 1 or more
cut_none : {A : Type 0} (y : Got A) → Cut 0 (refused depth_spent) (up_of y)
cut_none (gave ts a u) = deep {u = u + 1} (omega arith)
cut_none (refused j) = stop

-- from any depth down to any smaller one
pub eval_cuts : (rule : List ℕ) (b k d : ℕ) → k ≤ d → (i e : ℕ) (y : State) → Cuts k (eval_of rule b k i e y) (eval_of rule b d i e y)
unfolding eval_of refuse up
eval_cuts rule b zero zero h i e y = record { at = λ z ts. stop }
eval_cuts rule b zero (suc d) h i e y = record { at = λ z ts. cut_none (live_of rule b (eval_of rule b d) i e y z ts) }
eval_cuts rule b (suc k) zero h i e y = absurd (omega arith)
eval_cuts rule b (suc k) (suc d) h i e y =
    record { at = λ z ts. cut_up ((kept_live (λ A m l. Cuts k m l) (cuts_congruence k) rule (λ j. tt) b (eval_of rule b k) (eval_of rule b d) (eval_cuts rule b k d (omega arith)) i e y).at z ts) }

-- ---- the reported depth
module _ (rule : List ℕ) (b i e : ℕ) (y : State) (z : Setting) (ts : List Term) where
  -- an evaluation gives at a larger depth what it gave
  pub same_above : (k d : ℕ) → k ≤ d → {us : List Term} {r : Result} {u : ℕ} → eval_of rule b k i e y z ts ≡ gave us r u → eval_of rule b d i e y z ts ≡ gave us r u
  same_above k d h {us} {r} {u} q = go _ _ ((eval_cuts rule b k d h i e y).at z ts) q
    where
      go : (v w : Got Result) → Cut k v w → v ≡ gave us r u → w ≡ gave us r u
      go v w (same l) p = p
      go v w (deep l) p = let n : ◌≡◌ {A = ℕ} 0 1 = cc in absurd (omega arith)
      go v w stop p = let n : ◌≡◌ {A = ℕ} 0 1 = cc in absurd (omega arith)

  module _ (d : ℕ) {us : List Term} {r : Result} {u : ℕ} (q : eval_of rule b d i e y z ts ≡ gave us r u) where
    -- the depth that an evaluation reports is at most its allowance
    pub depth_within : u ≤ d
    depth_within = go _ _ ((eval_cuts rule b d d (omega arith) i e y).at z ts) q
      where
        go : (v w : Got Result) → Cut d v w → v ≡ gave us r u → u ≤ d
        go v w (same {u = x} l) p = let n : x ≡ u = cc in omega arith
        go v w (deep l) p = let n : ◌≡◌ {A = ℕ} 0 1 = cc in absurd (omega arith)
        go v w stop p = let n : ◌≡◌ {A = ℕ} 0 1 = cc in absurd (omega arith)

    -- the evaluation with that depth for its allowance gives the same result
    pub depth_enough : eval_of rule b u i e y z ts ≡ gave us r u
    depth_enough = go _ _ ((eval_cuts rule b u d depth_within i e y).at z ts) q
      where
        go : (v w : Got Result) → Cut u v w → w ≡ gave us r u → v ≡ gave us r u
        go v w (same l) p = p
        go v w (deep {u = x} l) p = let n : x ≡ u = cc in absurd (omega arith)
        go v w stop p = let n : ◌≡◌ {A = ℕ} 0 1 = cc in absurd (omega arith)

    -- the evaluation with any smaller allowance is refused by 12
    pub depth_least : (k : ℕ) → k < u → eval_of rule b k i e y z ts ≡ refused depth_spent
    depth_least k h = let n = depth_within in go _ _ ((eval_cuts rule b k d (omega arith) i e y).at z ts) q
      where
        go : (v w : Got Result) → Cut k v w → w ≡ gave us r u → v ≡ refused depth_spent
        go v w (same {u = x} l) p = let n : x ≡ u = cc in absurd (omega arith)
        go v w (deep l) p = refl
        go v w stop p = let n : ◌≡◌ {A = ℕ} 0 1 = cc in absurd (omega arith)

    -- the depth that an evaluation reports is 1 or more
    pub depth_some : 1 ≤ u
    unfolding eval_of refuse
    depth_some = go u depth_enough
      where
        go : (k : ℕ) → eval_of rule b k i e y z ts ≡ gave us r u → 1 ≤ k
        go zero p = let n : ◌≡◌ {A = ℕ} 0 1 = cc in absurd (omega arith)
        go (suc k) p = omega arith
