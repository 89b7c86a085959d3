-- The plain run is the concrete run while its store lasts, and the store lasts exactly as long as it has a place for each binding that the
-- concrete run makes. Assumes nothing.
use mathlib.Core.Path.{◌≡◌, refl, subst}
use mathlib.Core.Bool.{Bool, true, false}
use mathlib.Core.List.{List}
use Prim.Native.Nat.{ℕ, zero, suc, ◌+◌, ◌<◌, ◌≤◌}
use native.Mathlib.Omega.{arith}
use lib.Dec.{eqb, ltb}
use borrow.Author.Tests.{ltb-true, ltb-false}
use Rattle.notation.specs.Notation.{pick, with, when◌then◌else◌, if◌equals◌then◌else◌, if◌below◌then◌else◌}
use Rattle.semantics.specs.declared.Record.{Record}
use Rattle.semantics.specs.Numbers.{input_count}
use Rattle.semantics.specs.Records.{record_at}
use Rattle.semantics.specs.Run.{Value, truth, word, procedure, binding, none, Ended, gives, aborts, errs, spends, Running, after, placed, is_false, call_run, expression_run, run_by, run_of}
use Rattle.semantics.specs.PlainRun.{Stored, ended, full, Storing, onward, taking, call_stored, expression_stored, stored_of, started_of}
use Rattle.semantics.specs.Bindings.{Making, call_makes, let_makes, expression_makes, bindings_made}

-- A run that ends as o and needs n places of a store that has `room`: it ends so, with n taken, or the store is full and had fewer.
pub data Lasts (room : ℕ) (o : Ended) (n : ℕ) : Stored → Type 0 where
  lasted : n ≤ room → Lasts room o n (ended o n)
  over : room < n → Lasts room o n full

module _ (room : ℕ) (rule : List ℕ) where
  same_need : {o : Ended} {m n : ℕ} {s : Stored} → m ≡ n → Lasts room o m s → Lasts room o n s
  same_need {o} {m} {n} {s} e h = subst (λ k. Lasts room o k s) e h

  -- nothing is bound
  plain : {o : Ended} (k : ℕ) → k ≤ room → Lasts room o (k + 0) (ended o k)
  plain {o} k l = same_need (omega arith) (lasted l)

  -- a binding takes a place, and what follows needs m
  taken : (f : Storing) (o : Ended) (e : Value) (k m : ℕ) → k ≤ room → ((n : ℕ) → n ≤ room → Lasts room o (n + m) (f e n)) → Lasts room o (k + suc m) (taking room f e k)
  unfolding taking with if◌below◌then◌else◌
  taken f o e k m l h = go (ltb k room) refl
    where
      go : (b : Bool) → ltb k room ≡ b → Lasts room o (k + suc m) (pick {A = ℕ → Stored} b (λ n. f e (suc n)) (λ n. full) k)
      go true q = same_need (omega arith) (h (suc k) (omega (arith, ltb-true k room q)))
      go false q = over (omega (arith, ltb-false k room q))

  -- what goes on with a value
  goes_on : (o : Ended) (k n : ℕ) {s : Stored} (second : Value → ℕ) (F : Value → ℕ → Stored) (G : Value → Ended) → Lasts room o (k + n) s
      → ((v : Value) (j : ℕ) → j ≤ room → Lasts room (G v) (j + suc (second v)) (F v j)) → Lasts room (after o G) (k + let_makes n o second) (onward s F)
  unfolding onward after let_makes
  goes_on (gives v) k n second F G (lasted l) h = same_need (omega arith) (h v (k + n) l)
  goes_on aborts k n second F G (lasted l) h = lasted l
  goes_on errs k n second F G (lasted l) h = lasted l
  goes_on spends k n second F G (lasted l) h = lasted l
  goes_on (gives v) k n second F G (over l) h = over (omega arith)
  goes_on aborts k n second F G (over l) h = over l
  goes_on errs k n second F G (over l) h = over l
  goes_on spends k n second F G (over l) h = over l

  -- a plain run, a run and a count that belong together
  record At (e : Value) (k : ℕ) (f : Storing) (g : Running) (m : Making) : Type 0 where
    is : Lasts room (g e) (k + m e) (f e k)

  at_equal : {e : Value} {k : ℕ} {f h : Storing} {g l : Running} {m n : Making} (i j : ℕ) → At e k f g m → At e k h l n
      → At e k (if i equals j then f else h) (if i equals j then g else l) (if i equals j then m else n)
  unfolding if◌equals◌then◌else◌
  at_equal {e} {k} {f} {h} {g} {l} {m} {n} i j a b = go (eqb i j)
    where
      go : (c : Bool) → At e k (pick c f h) (pick c g l) (pick c m n)
      go true = a
      go false = b

  module _ (f : ℕ → Storing) (g : ℕ → Running) (m : ℕ → Making) (ih : (i : ℕ) (e : Value) (k : ℕ) → k ≤ room → Lasts room (g i e) (k + m i e) (f i e k)) where
    call_lasts : (u v : Value) (k : ℕ) → k ≤ room → Lasts room (call_run g rule u v) (k + call_makes m rule u v) (call_stored room f rule u v k)
    unfolding call_run call_stored call_makes
    call_lasts (truth b) v k l = plain k l
    call_lasts (word w) v k l = plain k l
    call_lasts (procedure i e) v k l = taken (f (record_at rule i).p) _ (binding v e) k _ l (ih (record_at rule i).p (binding v e))
    call_lasts (binding u e) v k l = plain k l
    call_lasts none v k l = plain k l

    if_lasts : (b : Bool) (q r : ℕ) (e : Value) (k : ℕ) → k ≤ room → Lasts room ((when b then g r else g q) e) (k + (when b then m r else m q) e) ((when b then f r else f q) e k)
    unfolding when◌then◌else◌
    if_lasts true q r e k l = ih r e k l
    if_lasts false q r e k l = ih q e k l

    expression_lasts : (x : Record) (i : ℕ) (e : Value) (k : ℕ) → k ≤ room → At e k (expression_stored room rule f x i) (expression_run placed rule g x i) (expression_makes rule g m x)
    unfolding expression_stored expression_run expression_makes
    expression_lasts x i e k l =
        at_equal _ _ (record { is = plain k l }) (
        at_equal _ _ (record { is = plain k l }) (
        at_equal _ _ (record { is = plain k l }) (
        at_equal _ _ (record { is = call_lasts (placed x.p e) (placed x.q e) k l }) (
        at_equal _ _ (record { is = plain k l }) (
        at_equal _ _ (record {
          is = goes_on (g x.p e) k (m x.p e) _ _ _ (ih x.p e k l) (λ v j n. taken (f x.q) _ (binding v e) j _ n (ih x.q (binding v e)));
        }) (
        at_equal _ _ (record { is = if_lasts (is_false (placed x.p e)) x.q x.r e k l }) (
        at_equal _ _ (record { is = plain k l }) (record { is = plain k l }))))))))

  -- At every depth, of every record, in all bindings and with any places taken before.
  pub stored_lasts : (d i : ℕ) (e : Value) (k : ℕ) → k ≤ room → Lasts room (run_of rule d i e) (k + bindings_made rule d i e) (stored_of room rule d i e k)
  unfolding run_by stored_of bindings_made
  stored_lasts zero i e k l = plain k l
  stored_lasts (suc d) i e k l = (expression_lasts (stored_of room rule d) (run_of rule d) (bindings_made rule d) (stored_lasts d) (record_at rule i) i e k l).is

  -- From record 0, once the inputs have their places.
  pub started_lasts : (d : ℕ) (e : Value) → Lasts room (run_of rule d 0 e) (input_count + bindings_made rule d 0 e) (started_of room rule d e)
  unfolding started_of with if◌below◌then◌else◌
  started_lasts d e = go (ltb room input_count) refl
    where
      go : (b : Bool) → ltb room input_count ≡ b → Lasts room (run_of rule d 0 e) (input_count + bindings_made rule d 0 e) (pick {A = ℕ → Stored} b (λ k. full) (stored_of room rule d 0 e) input_count)
      go true q = over (omega (arith, ltb-true room input_count q))
      go false q = stored_lasts d 0 e input_count (omega (arith, ltb-false room input_count q))
