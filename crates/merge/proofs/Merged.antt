-- A merge, pass by pass: it stops where a pass is refused, or ends with the halt test. Assumes nothing.
use mathlib.Core.Path.{◌≡◌, refl}
use mathlib.Core.List.{List}
use Rattle.std.specs.declared.result.Result.{Result}
use Rattle.std.specs.declared.result.Result.TheVariants.{Ok, Err}
use Rattle.semantics.specs.declared.Branch.{Branch}
use Rattle.semantics.specs.declared.Folded.{Folded}
use Rattle.semantics.specs.declared.State.{State}
use Rattle.semantics.specs.declared.refusal.Refusal.{Refusal}
use Rattle.semantics.specs.Steps.{◌>>=◌, each}
use Rattle.semantics.specs.Merge.{assumed_step, asserted_step, merge_states_of, merge_values_of, finish_of, merge_of}
use Rattle.terms.specs.Gives.{Gives}
use Rattle.terms.specs.declared.table.Table.{Table}
use Rattle.terms.proofs.Gives.{then_stop, then_on}

module _ (x : State) (bs : List Branch) {s y : Table} {q : Result State Refusal} (g : Gives (each assumed_step x bs) s 0 q y) where
  pub assumed_stop : (j : Refusal) → q ≡ Err j → Gives (merge_of x bs) s 0 (Err j) y
  unfolding merge_of merge_states_of
  assumed_stop j i = then_stop (λ a. merge_values_of bs >>= λ v. finish_of a v) (then_stop (λ a. each asserted_step a bs) g i) refl

  module _ {a : State} (i : q ≡ Ok a) {r : Result State Refusal} {z : Table} (h : Gives (each asserted_step a bs) y 0 r z) where
    pub states_on : Gives (merge_states_of x bs) s 0 r z
    unfolding merge_states_of
    states_on = then_on (λ a. each asserted_step a bs) g i h

    pub asserted_stop : (j : Refusal) → r ≡ Err j → Gives (merge_of x bs) s 0 (Err j) z
    unfolding merge_of
    asserted_stop j k = then_stop (λ a. merge_values_of bs >>= λ v. finish_of a v) states_on k

    module _ {b : State} (k : r ≡ Ok b) {p : Result Folded Refusal} {w : Table} (l : Gives (merge_values_of bs) z 0 p w) where
      pub values_stop : (j : Refusal) → p ≡ Err j → Gives (merge_of x bs) s 0 (Err j) w
      unfolding merge_of
      values_stop j e = then_on (λ a. merge_values_of bs >>= λ v. finish_of a v) states_on k (then_stop (λ v. finish_of b v) l e)

      pub merged : {f : Folded} → p ≡ Ok f → {c : _} → Gives (finish_of b f) w 0 (Ok c) w → Gives (merge_of x bs) s 0 (Ok c) w
      unfolding merge_of
      merged e n = then_on (λ a. merge_values_of bs >>= λ v. finish_of a v) states_on k (then_on (λ v. finish_of b v) l e n)
