-- A rule that passes the tests 4 to 7 has its places in scope, and each part of a record stands under that record's bindings and what it has
-- more. Assumes nothing.
use mathlib.Core.Path.{◌≡◌}
use mathlib.Core.List.{List}
use Prim.Native.Nat.{ℕ, ◌+◌, ◌<◌}
use native.Mathlib.Omega.{arith}
use lib.Dec.{ltb}
use borrow.Author.Tests.{ltb-true}
use Rattle.notation.specs.Notation.{with, In}
use Rattle.notation.proofs.Every.{up_all, every_in}
use Rattle.semantics.specs.Numbers.{input_count}
use Rattle.semantics.specs.Records.{record_at, records_in}
use Rattle.semantics.specs.Rules.{part, parts_of, places_of, in_scope_at, scoped_of, rule_refusal_of}
use Rattle.semantics.proofs.Scopes.{in_times, child_within, part_scope}
use Rattle.typing.proofs.Ruled.{tested}
use Rattle.soundness.proofs.Scope.{Under, Scoped}

module _ (s : List ℕ) (h : rule_refusal_of s ≡ 0) where
  under : {c m : ℕ} (i : ℕ) → i < records_in s → In (part c m) (parts_of (record_at s i)) → Under (records_in s) (in_scope_at s) c (in_scope_at s i + m)
  under {c} i l p =
      let tree = (tested s h).linked in
      record {
        low = (child_within s (records_in s) tree i c l (in_times c (parts_of (record_at s i)) p)).1;
        is = part_scope s (records_in s) tree i l p;
      }

  place : {p : ℕ} (i : ℕ) → i < records_in s → In p (places_of (record_at s i)) → p < in_scope_at s i + input_count
  unfolding scoped_of with
  place {p} i l q =
      let e = every_in (λ p. ltb p (in_scope_at s i + input_count)) (places_of (record_at s i)) (up_all (scoped_of s) (records_in s) (tested s h).scoped i l) q in
      omega (arith, ltb-true p (in_scope_at s i + input_count) e)

  pub scoped : Scoped s (records_in s) (in_scope_at s)
  scoped = record { places = place; parts = under }
