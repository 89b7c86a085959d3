-- The pass for the tests 6 and 7: what holds when it comes to a record, and what it answers with. Assumes nothing.
use mathlib.Core.Path.{◌≡◌, sym, ◌∙◌}
use mathlib.Core.Bool.{Bool, true, false, ◌&&◌}
use mathlib.Core.List.{List}
use Prim.Native.Nat.{ℕ, ◌+◌, ◌<◌, ◌≤◌}
use native.Mathlib.Omega.{arith}
use lib.Dec.{ltb}
use lib.ListN.{get_or}
use Rattle.notation.specs.Notation.{unless◌then◌else◌, up_to, every}
use Rattle.notation.proofs.Every.{up_start, up_next, up_stop, up_end}
use Rattle.semantics.specs.declared.Record.{Record}
use Rattle.semantics.specs.Numbers.{input_count, bad_tree, bad_place}
use Rattle.semantics.specs.Records.{record_at}
use Rattle.semantics.specs.Rules.{Part, parts_of, inside_of, times_below, once_of, linked_of, places_of}
use Rattle.scopes.specs.Scopes.{KeptInScope}
use Rattle.children.specs.Children.{marked_of}
use Rattle.rules.specs.Passes.{told_of, Cleared, tree_and_scopes_of}
use Rattle.rules.specs.Turns.{stands_of, turns_of}
use Rattle.rules.proofs.Trees.{Counts, counts_start, counts_next, not_ordered, once_so, tree_by_standing}
use Rattle.rules.proofs.OneTurn.{turns_stop, turns_end}
use Rattle.rules.proofs.Scopes.{Kept, kept_start, kept_next, kept_is_in_scope, no_tree, Sees, sees_start, sees_next, sees_end}

module _ (s : List ℕ) (n : ℕ) where
  -- When the pass comes to record i: all before it stand, the marks are how often each record is their child, the list of counts keeps the bindings
  -- in scope, `scoped` says whether the places before it are, and there was a turn for each.
  pub record Reached (i : ℕ) (marks bindings : List ℕ) (scoped : Bool) (turns : ℕ) : Type 0 where
    pub within : i ≤ n
    pub standing : up_to i (stands_of s n) ≡ true
    pub marked : Counts n (times_below s i) marks
    pub kept : Kept s n i bindings
    pub sees : Sees s n i scoped
    pub counted : turns ≡ i

  pub reached_start : {m b : List ℕ} → Cleared n m → Cleared n b → Reached 0 m b true 0
  reached_start g h =
      record {
        within = omega arith;
        standing = up_start (stands_of s n);
        marked = counts_start s n g;
        kept = kept_start s n h;
        sees = sees_start s n;
        counted = omega arith;
      }

  -- what the pass answers with: the number of the refusal, the turns, and the list of counts
  abbrev pub Answers : ℕ → ℕ → List ℕ → Type 0
  Answers refusal turns bindings = (refusal ≡ tree_and_scopes_of s n) × ((turns ≡ turns_of s n n) × KeptInScope s n bindings)

  -- ---- at record i
  module _ {i t : ℕ} {m b : List ℕ} {o : Bool} (r : Reached i m b o t) where
    module _ (l : i < n) where
      -- a record that does not stand
      fallen : stands_of s n i ≡ false → Answers bad_tree (t + 1) b
      unfolding tree_and_scopes_of unless◌then◌else◌
      fallen f =
          let bad : false ≡ up_to n (linked_of s n) = up_stop (stands_of s n) i n l f ∙ sym (tree_by_standing s n) in
          (rw (← bad), (turns_stop s n i r.standing l f (omega (arith, r.counted)), no_tree s n b bad))

      module _ {x : Record} {cs : List Part} {u : Bool} (ex : x ≡ record_at s i) (ec : cs ≡ parts_of x) (eu : u ≡ every (inside_of i n) cs) where
        pub fallen_order : u ≡ false → Answers bad_tree (t + 1) b
        fallen_order h = fallen (not_ordered s n i ex ec eu h)

        module _ {w : Bool} (h : u ≡ true) (ew : w ≡ once_of i (get_or m i 0)) where
          pub fallen_once : w ≡ false → Answers bad_tree (t + 1) b
          fallen_once k = fallen (once_so s n i ex ec eu r.marked l h ew k)

          -- one that stands
          pub reached_next : {p q : Bool} {y z : List ℕ} → w ≡ true → p ≡ every (λ place. ltb place (get_or b i 0 + input_count)) (places_of x) → q ≡ (o && p)
              → y ≡ marked_of cs m → z ≡ told_of (get_or b i 0) cs b → Reached (i + 1) y z q (t + 1)
          reached_next k ep eq ey ez =
              let stands = once_so s n i ex ec eu r.marked l h ew k in
              record {
                within = omega arith;
                standing = up_next (stands_of s n) i r.standing stands;
                marked = counts_next s n i r.marked ex ec ey;
                kept = kept_next s n i r.kept l stands ex ec ez;
                sees = sees_next s n i r.sees r.kept l stands ex ep eq;
                counted = omega (arith, r.counted);
              }

    -- ---- at the end
    module _ (l : n ≤ i) where
      tree : up_to n (linked_of s n) ≡ true
      tree = tree_by_standing s n ∙ sym (up_end (stands_of s n) i n r.standing r.within l)

      rest : (t ≡ turns_of s n n) × KeptInScope s n b
      rest = (turns_end s n i r.standing r.within l r.counted, kept_is_in_scope s n i r.kept r.within l)

      pub end_scoped : o ≡ true → Answers 0 t b
      unfolding tree_and_scopes_of unless◌then◌else◌
      end_scoped e = (rw (tree, ← sees_end s n i r.sees r.within l tree e), rest)

      pub end_unscoped : o ≡ false → Answers bad_place t b
      unfolding tree_and_scopes_of unless◌then◌else◌
      end_unscoped e = (rw (tree, ← sees_end s n i r.sees r.within l tree e), rest)
