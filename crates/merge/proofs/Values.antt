-- The values from the right are a step for each branch, the last first. Assumes nothing.
use mathlib.Core.Path.{◌≡◌, refl, sym, ap, subst, ◌∙◌}
use mathlib.Core.List.{List, [], ◌∷◌, ◌++◌, reverse, reverse-cons}
use Rattle.std.proofs.lemmas.List.{reverse-append}
use Rattle.semantics.specs.declared.Branch.{Branch}
use Rattle.semantics.specs.declared.Folded.{Folded}
use Rattle.semantics.specs.Steps.{Make, ◌>>=◌, each}
use Rattle.semantics.specs.Merge.{none_given, value_step_of, merge_values_of}
use Rattle.terms.specs.Gives.{Leads}
use Rattle.terms.specs.declared.table.Table.{Table}
use Rattle.terms.proofs.Gives.{leads_start}
use Rattle.merge.proofs.Steps.{then_as, each_append, each_one}

abbrev pub value_turn : Folded → Branch → Make Folded
value_turn v b = value_step_of b v

from_right : (bs : List Branch) → each value_turn none_given (reverse bs) ≡ merge_values_of bs
unfolding each merge_values_of
from_right [] = refl
from_right (b ∷ bs) =
    ap (each value_turn none_given) (reverse-cons b bs) ∙ sym (each_append value_turn none_given (reverse bs) (b ∷ []))
    ∙ ap (λ (m : Make Folded). m >>= λ v. each value_turn v (b ∷ [])) (from_right bs) ∙ then_as (merge_values_of bs) (λ v. each_one value_turn v b)

pub values_start : (bs l : List Branch) (s : Table) → l ≡ bs → Leads (merge_values_of bs) s 0 (each value_turn none_given (reverse l)) s
values_start bs l s e = rw e (subst (λ (m : Make Folded). Leads (merge_values_of bs) s 0 m s) (sym (from_right bs)) (leads_start (merge_values_of bs) s))

pub values_last : (l k : List Branch) (b : Branch) → l ≡ k ++ (b ∷ []) → reverse l ≡ b ∷ reverse k
values_last l k b e = ap reverse e ∙ reverse-append k (b ∷ [])
