-- An evaluation only adds terms to a table, none of them a free input and no more than there is room for; with more room it gives the same.
-- Assumes nothing.
use mathlib.Core.Path.{◌≡◌, refl}
use mathlib.Core.Bool.{Bool, true, false}
use mathlib.Core.List.{List, ◌∷◌}
use Prim.Native.Nat.{ℕ, zero, suc, ◌<◌, ◌≤◌}
use native.Mathlib.Omega.{arith}
use lib.Dec.{ltb}
use lib.ListN.{length}
use borrow.Author.Tests.{ltb-true, lt-ltb}
use Rattle.notation.specs.Notation.{pick}
use Rattle.semantics.specs.declared.Term.{Term}
use Rattle.semantics.specs.declared.State.{State}
use Rattle.semantics.specs.declared.Result.{Result}
use Rattle.semantics.specs.Numbers.{table_full}
use Rattle.semantics.specs.Terms.{find_of}
use Rattle.semantics.specs.Fits.{no_free}
use Rattle.semantics.specs.Steps.{Setting, Got, gave, refused, Make, deeper, next, ◌>>=◌, give, refuse, reads, up, up_of, make_of}
use Rattle.semantics.specs.Evaluation.{eval_of}
use Rattle.typing.proofs.Grown.{Grown, still, more}
use Rattle.depth.proofs.Built.{AnyWord, Congruence, kept_live}

-- The terms us are ts and some more, none a free input, each added where there were fewer than r.
pub data Adds (r : ℕ) (ts : List Term) : List Term → Type 0 where
  none : Adds r ts ts
  one : {us : List Term} {t : Term} → no_free t ≡ true → length us < r → Adds r ts us → Adds r ts (t ∷ us)

pub adds_on : {r : ℕ} {ts us ws : List Term} → Adds r ts us → Adds r us ws → Adds r ts ws
adds_on p none = p
adds_on p (one n l q) = one n l (adds_on p q)

pub adds_grown : {r : ℕ} {ts us : List Term} → Adds r ts us → Grown ts us
adds_grown none = still
adds_grown (one n l q) = more (adds_grown q)

-- a table that was within the room is so still
pub adds_within : {r : ℕ} {ts us : List Term} → Adds r ts us → length ts ≤ r → length us ≤ r
adds_within none h = h
adds_within (one n l q) h = omega arith

-- document 01's setting with room for r terms
abbrev roomy : ℕ → Setting
roomy r = record { room = r; search = find_of }

-- What a step gives where there is room for r terms, beside what it gives where there is more room: the same, unless the table was full.
data Longer (r : ℕ) (ts : List Term) {A : Type 0} : Got A → Got A → Type 0 where
  added : {us : List Term} {a : A} {u : ℕ} → Adds r ts us → Longer r ts (gave us a u) (gave us a u)
  same : {k : ℕ} → Longer r ts (refused k) (refused k)
  full : {y : Got A} → Longer r ts (refused table_full) y

record Lengthens (r q : ℕ) {A : Type 0} (m l : Make A) : Type 0 where
  at : (ts : List Term) → Longer r ts (m (roomy r) ts) (l (roomy q) ts)

longer_deeper : {r : ℕ} {A : Type 0} {ts : List Term} {x y : Got A} (u : ℕ) → Longer r ts x y → Longer r ts (deeper u x) (deeper u y)
longer_deeper u (added h) = added h
longer_deeper u same = same
longer_deeper u full = full

longer_up : {r : ℕ} {A : Type 0} {ts : List Term} {x y : Got A} → Longer r ts x y → Longer r ts (up_of x) (up_of y)
longer_up (added h) = added h
longer_up same = same
longer_up full = full

longer_on : {r : ℕ} {A : Type 0} {ts us : List Term} {x y : Got A} → Adds r ts us → Longer r us x y → Longer r ts x y
longer_on p (added q) = added (adds_on p q)
longer_on p same = same
longer_on p full = full

-- each form of a step gives the same with more room, if its parts do
module _ (r q : ℕ) (h : r ≤ q) where
  then_longer : {A B : Type 0} {m l : Make A} {f g : A → Make B} → Lengthens r q m l → ((a : A) → Lengthens r q (f a) (g a)) → Lengthens r q (m >>= f) (l >>= g)
  unfolding ◌>>=◌
  then_longer {A} {B} {m} {l} {f} {g} k c = record { at = λ ts. go ts (m (roomy r) ts) (l (roomy q) ts) (k.at ts) }
    where
      go : (ts : List Term) (x y : Got A) → Longer r ts x y → Longer r ts (next (roomy r) x f) (next (roomy q) y g)
      go ts x y (added {us = us} {a = a} {u = u} p) = longer_deeper u (longer_on p ((c a).at us))
      go ts x y same = same
      go ts x y full = full

  make_longer : (t : Term) → no_free t ≡ true → Lengthens r q (make_of t) (make_of t)
  unfolding make_of
  make_longer t n = record { at = λ ts. go ts (find_of ts t).is (ltb (length ts) r) refl }
    where
      go : (ts : List Term) (i j : Bool) → ltb (length ts) r ≡ j
          → Longer r ts (pick i (gave ts (find_of ts t).at 0) (pick j (gave (t ∷ ts) (length ts) 0) (refused table_full)))
          (pick i (gave ts (find_of ts t).at 0) (pick (ltb (length ts) q) (gave (t ∷ ts) (length ts) 0) (refused table_full)))
      go ts true j e = added none
      go ts false true e =
          let l : length ts < r = omega (arith, ltb-true (length ts) r e) in
          let m : length ts < q = omega arith in
          rw (lt-ltb _ _ m) (added {a = length ts} {u = 0} (one n l none))
      go ts false false e = full

  lengthens_congruence : Congruence AnyWord (λ A m l. Lengthens r q m l)
  unfolding give refuse reads
  lengthens_congruence =
      record {
        nought = tt;
        worked_out_lem = λ op v w i j. tt;
        giving = λ a. record { at = λ ts. added none };
        refusing = record { at = λ ts. same };
        going_on = then_longer;
        reading = λ f m l k. record { at = λ ts. (k ts (λ n i. tt)).at ts };
        making = λ t n w. make_longer t n;
      }

  eval_longer : (rule : List ℕ) (b d i e : ℕ) (y : State) → Lengthens r q (eval_of rule b d i e y) (eval_of rule b d i e y)
  unfolding eval_of refuse up
  eval_longer rule b zero i e y = record { at = λ ts. same }
  eval_longer rule b (suc d) i e y =
      record { at = λ ts. longer_up ((kept_live (λ A m l. Lengthens r q m l) lengthens_congruence rule (λ j. tt) b (eval_of rule b d) (eval_of rule b d) (eval_longer rule b d) i e y).at ts) }

-- ---- an evaluation that gives a result
module _ (rule : List ℕ) (b d i e : ℕ) (y : State) (r : ℕ) (ts : List Term) {us : List Term} {w : Result} {u : ℕ} (p : eval_of rule b d i e y (record { room = r; search = find_of }) ts ≡ gave us w u) where
  -- It only appends.
  pub eval_adds : Adds r ts us
  eval_adds = go _ _ ((eval_longer r r (omega arith) rule b d i e y).at ts) p
    where
      go : (v z : Got Result) → Longer r ts v z → v ≡ gave us w u → Adds r ts us
      go v z (added {us = vs} a) q = let j : vs ≡ us = cc in rw (← j) a
      go v z same q = let n : ◌≡◌ {A = ℕ} 0 1 = cc in absurd (omega arith)
      go v z full q = let n : ◌≡◌ {A = ℕ} 0 1 = cc in absurd (omega arith)

  -- With more room it gives the same.
  pub same_longer : (q : ℕ) → r ≤ q → eval_of rule b d i e y (record { room = q; search = find_of }) ts ≡ gave us w u
  same_longer q h = go _ _ ((eval_longer r q h rule b d i e y).at ts) p
    where
      go : (v z : Got Result) → Longer r ts v z → v ≡ gave us w u → z ≡ gave us w u
      go v z (added a) q = q
      go v z same q = let n : ◌≡◌ {A = ℕ} 0 1 = cc in absurd (omega arith)
      go v z full q = let n : ◌≡◌ {A = ℕ} 0 1 = cc in absurd (omega arith)
