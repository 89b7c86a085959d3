-- A turn of a loop whose turns are the steps of a list: what is left of the list leads on from the start. Assumes nothing.
use mathlib.Core.Path.{◌≡◌, refl, subst}
use mathlib.Core.List.{List, [], ◌∷◌}
use Rattle.std.specs.Prelude.{IsErr, IsErrAnd}
use Rattle.std.proofs.lemmas.Result.{err_from_is_err_and}
use Rattle.std.specs.declared.result.Result.{Result}
use Rattle.std.specs.declared.result.Result.TheVariants.{Ok, Err}
use Rattle.semantics.specs.declared.refusal.Refusal.{Refusal}
use Rattle.semantics.specs.Steps.{Make, each}
use Rattle.terms.specs.Gives.{Gives, Leads}
use Rattle.terms.specs.declared.table.Table.{Table}
use Rattle.terms.proofs.Gives.{each_end, each_stop, each_next}

module _ {A B : Type 0} (f : A → B → Make A) {m : Make A} {s y : Table} where
  lead : (p : A) (l k : List B) → l ≡ k → Leads m s 0 (each f p l) y → Leads m s 0 (each f p k) y
  lead p l k e inv = subst (λ (k : List B). Leads m s 0 (each f p k) y) e inv

  module _ {p : A} (l : List B) (inv : Leads m s 0 (each f p l) y) where
    pub turn_end : l ≡ [] → Gives m s 0 (Ok p) y
    turn_end e = each_end f (lead p l [] e inv)

    module _ (x : B) (k : List B) (e : l ≡ x ∷ k) {q : Result A Refusal} {w : Table} (g : Gives (f p x) y 0 q w) where
      pub turn_stop : (j : Refusal) → q ≡ Err j → Gives m s 0 (Err j) w
      turn_stop j i = each_stop f x k (lead p l (x ∷ k) e inv) g i

      pub turn_next : {a : A} → q ≡ Ok a → Leads m s 0 (each f a k) w
      turn_next i = each_next f x k (lead p l (x ∷ k) e inv) g i refl

      -- with the refusal that a `?` handed on
      pub turn_stopped : (j : Refusal) → q ≡ Err j → (r : Result A Refusal) → IsErr r × IsErrAnd r (λ k. k ≡ j) → Gives m s 0 r w
      turn_stopped j i r h = let u = err_from_is_err_and r h.1 in rw (u.1, u.2) (turn_stop j i)
