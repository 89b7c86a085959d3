-- A whole record is read from its 8 bytes alone as from the slice. Assumes nothing.
use mathlib.Core.Path.{◌≡◌, refl, ◌∙◌}
use mathlib.Core.List.{List}
use Prim.Native.Nat.{ℕ, ◌+◌, ◌-◌, ◌*◌, ◌<◌}
use native.Mathlib.Omega.{arith}
use lib.ListN.{get_or, take, drop}
use lib.Seq.{get_or-take, get_or-drop}
use Rattle.semantics.specs.declared.Record.{Record}
use Rattle.semantics.specs.Records.{record_at}

module _ (s : List ℕ) (i : ℕ) where
  byte_in : (j k : ℕ) → j < 8 → 8 * i + j ≡ k → get_or (take 8 (drop (8 * i) s)) j 0 ≡ get_or s k 0
  byte_in j k h e = rw (← e) (get_or-take 8 (drop (8 * i) s) j 0 h ∙ get_or-drop (8 * i) s j 0)

  alone : record_at (take 8 (drop (8 * i) s)) 0 ≡ record_at s i
  unfolding record_at
  alone =
      simp (
        byte_in 0 (8 * i) (omega arith) (omega arith),
        byte_in 1 (8 * i + 1) (omega arith) refl,
        byte_in 2 (8 * i + 2) (omega arith) refl,
        byte_in 3 (8 * i + 2 + 1) (omega arith) (omega arith),
        byte_in 4 (8 * i + 4) (omega arith) refl,
        byte_in 5 (8 * i + 4 + 1) (omega arith) (omega arith),
        byte_in 6 (8 * i + 6) (omega arith) refl,
        byte_in 7 (8 * i + 6 + 1) (omega arith) (omega arith),
      )

  -- from its place to the next one's
  pub part_record : {x : Record} → x ≡ record_at (take (8 * i + 8 - 8 * i) (drop (8 * i) s)) 0 → x ≡ record_at s i
  part_record h = let e : 8 * i + 8 - 8 * i ≡ 8 = omega arith in rw e at h ∙ alone
