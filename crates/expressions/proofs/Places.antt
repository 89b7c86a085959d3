-- The way along bindings, one at a time. Assumes nothing.
use mathlib.Core.Path.{◌≡◌}
use mathlib.Core.List.{List}
use Prim.Native.Nat.{ℕ, zero, suc}
use Rattle.semantics.specs.declared.Term.{Term}
use Rattle.semantics.specs.Terms.{at}
use Rattle.semantics.specs.Evaluation.{place_of}

pub place_next : (ts : List Term) (k e : ℕ) {x : Term} → x ≡ at ts e → {j : ℕ} → k ≡ suc j → {z : ℕ} → place_of k e ts ≡ z → place_of j x.b ts ≡ z
unfolding place_of
place_next ts k e ex h inv = rw ex (rw (h, place_of) at inv)

pub place_end : (ts : List Term) (k e : ℕ) {x : Term} → x ≡ at ts e → k ≡ zero → {z : ℕ} → place_of k e ts ≡ z → x.a ≡ z
unfolding place_of
place_end ts k e ex h inv = rw ex (rw (h, place_of) at inv)
