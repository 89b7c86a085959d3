-- One term more: its helpers and its clauses; and what the gates of a shift by a constant have. Assumes nothing.
use mathlib.Core.Path.{◌≡◌, refl, ap, ◌∙◌}
use mathlib.Core.List.{List, [], ◌∷◌, ◌++◌}
use Prim.Native.Nat.{ℕ, suc, ◌+◌, ◌*◌}
use native.Mathlib.Omega.{arith}
use lib.ListN.{length}
use Rattle.circuits.specs.Gates.{Literal, pos, clauses}
use Rattle.circuits.specs.Circuits.{masks}
use Rattle.circuits.specs.Templates.{Wire, helper, own}
use Rattle.semantics.specs.declared.Term.{Term}
use Rattle.clauses.specs.Clauses.{term_gates, named_by_b, helpers, helpers_of, helpers_in, first_helper, term_clauses, table_clauses}

pub helpers_are : (t u : Term) → helpers_of t u ≡ helpers (term_gates t u)
unfolding helpers_of
helpers_are t u = refl

module _ (t : Term) (ts : List Term) where
  pub helpers_more : helpers_in (t ∷ ts) ≡ helpers_in ts + helpers_of t (named_by_b ts t)
  unfolding helpers_in
  helpers_more = refl

  pub table_more : (c : ℕ) → table_clauses c (t ∷ ts) ≡ table_clauses c ts ++ term_clauses (first_helper c ts) (length ts) t (named_by_b ts t)
  unfolding table_clauses
  table_more c = refl

-- ---- a gate for each bit, under the guard of helper 0
pub length_masks : (s : ℕ) (rs : List (Literal Wire)) → length (masks helper own (pos (helper 0)) s rs) ≡ length rs
unfolding masks
length_masks s [] = refl
length_masks s (r ∷ rs) = ap suc (length_masks (suc s) rs)

pub masks_clauses : (s : ℕ) (rs : List (Literal Wire)) → length (clauses (masks helper own (pos (helper 0)) s rs)) ≡ 3 * length rs
unfolding masks
masks_clauses s [] = refl
masks_clauses s (r ∷ rs) = ap (λ n. suc (suc (suc n))) (masks_clauses (suc s) rs) ∙ omega arith

pub masks_helpers : (s : ℕ) (rs : List (Literal Wire)) → helpers (masks helper own (pos (helper 0)) s rs) ≡ 0
unfolding helpers masks
masks_helpers s [] = refl
masks_helpers s (r ∷ rs) = masks_helpers (suc s) rs
