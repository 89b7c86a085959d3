-- The symbolic rules reach no refusal but 10, 11 and 12. Assumes nothing.
use mathlib.Core.Bool.{Bool, true, false}
use mathlib.Core.List.{List, ◌∷◌}
use Prim.Native.Nat.{ℕ, zero, suc}
use lib.Dec.{ltb}
use lib.ListN.{length}
use Rattle.notation.specs.Notation.{pick}
use Rattle.semantics.specs.declared.Term.{Term}
use Rattle.semantics.specs.declared.State.{State}
use Rattle.semantics.specs.Numbers.{call_too_wide, table_full, depth_spent}
use Rattle.semantics.specs.Steps.{Setting, Got, gave, refused, Make, deeper, next, ◌>>=◌, give, refuse, reads, up, up_of, make_of}
use Rattle.semantics.specs.Evaluation.{eval_of}
use Rattle.depth.proofs.Built.{AnyWord, Congruence, kept_live}

pub data Known {A : Type 0} : Got A → Type 0 where
  result : {ts : List Term} {a : A} {u : ℕ} → Known (gave ts a u)
  too_wide : Known (refused call_too_wide)
  full : Known (refused table_full)
  spent : Known (refused depth_spent)

record Knows {A : Type 0} (m : Make A) : Type 0 where
  at : (z : Setting) (ts : List Term) → Known (m z ts)

known_deeper : {A : Type 0} {x : Got A} (u : ℕ) → Known x → Known (deeper u x)
known_deeper u result = result
known_deeper u too_wide = too_wide
known_deeper u full = full
known_deeper u spent = spent

known_up : {A : Type 0} {x : Got A} → Known x → Known (up_of x)
known_up result = result
known_up too_wide = too_wide
known_up full = full
known_up spent = spent

then_knows : {A B : Type 0} {m : Make A} {f : A → Make B} → Knows m → ((a : A) → Knows (f a)) → Knows (m >>= f)
unfolding ◌>>=◌
then_knows {A} {B} {m} {f} k c = record { at = λ z ts. go z (m z ts) (k.at z ts) }
  where
    go : (z : Setting) (x : Got A) → Known x → Known (next z x f)
    go z x (result {ts = ts} {a = a} {u = u}) = known_deeper u ((c a).at z ts)
    go z x too_wide = too_wide
    go z x full = full
    go z x spent = spent

made : (ts us : List Term) (a b : ℕ) (i j : Bool) → Known (pick i (gave ts a 0) (pick j (gave us b 0) (refused table_full)))
made ts us a b true j = result
made ts us a b false true = result
made ts us a b false false = full

knows_congruence : Congruence AnyWord (λ A m l. Knows m)
unfolding give refuse reads make_of
knows_congruence =
    record {
      nought = tt;
      worked_out_lem = λ op v w p q. tt;
      giving = λ a. record { at = λ z ts. result };
      refusing = record { at = λ z ts. too_wide };
      going_on = then_knows;
      reading = λ f m l k. record { at = λ z ts. (k ts (λ n i. tt)).at z ts };
      making = λ t n w. record { at = λ z ts. made ts (t ∷ ts) (z.search ts t).at (length ts) (z.search ts t).is (ltb (length ts) z.room) };
    }

knows_eval : (rule : List ℕ) (b d i e : ℕ) (y : State) → Knows (eval_of rule b d i e y)
unfolding eval_of refuse up
knows_eval rule b zero i e y = record { at = λ z ts. spent }
knows_eval rule b (suc d) i e y =
    record { at = λ z ts. known_up ((kept_live (λ A m l. Knows m) knows_congruence rule (λ j. tt) b (eval_of rule b d) (eval_of rule b d) (knows_eval rule b d) i e y).at z ts) }

pub eval_known : (rule : List ℕ) (b d i e : ℕ) (y : State) (z : Setting) (ts : List Term) → Known (eval_of rule b d i e y z ts)
eval_known rule b d i e y z ts = (knows_eval rule b d i e y).at z ts
