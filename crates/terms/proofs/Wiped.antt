-- A table wiped from its count on is as it was before steps were taken. Assumes nothing.
use mathlib.Core.Path.{◌≡◌, refl, sym, ap, ◌∙◌}
use mathlib.Core.Bool.{Bool, true, false}
use mathlib.Core.List.{List, ◌++◌}
use Prim.Native.Nat.{ℕ, ◌+◌, ◌-◌, ◌*◌, ◌<◌, ◌≤◌}
use native.Mathlib.Omega.{arith}
use lib.ListN.{length, get_or, take, replicate, length-append, length-replicate, get_or-append, get_or-replicate}
use lib.Seq.{ext_get_or, length-take-le, get_or-take, get_or-append-add}
use lib.Dec.{ltb}
use borrow.Author.Tests.{ltb-true, ltb-false}
use Rattle.slices.specs.Wiped.{wiped}
use Rattle.terms.specs.Gives.{OnlyAppends}
use Rattle.terms.specs.declared.table.Table.{Table}

-- a table with room for its terms, zero after them, on which steps were taken
module _ (t z : Table) (g : OnlyAppends t z) (room : t.count * 8 ≤ length t.bytes.now) (tail : (k : ℕ) → t.count * 8 ≤ k → get_or t.bytes.now k 0 ≡ 0) where
  abbrev s : List ℕ
  s = t.bytes.now

  abbrev y : List ℕ
  y = z.bytes.now

  abbrev n : ℕ
  n = t.count

  long : length (take (n * 8) y) ≡ n * 8
  long = let l = g.long in length-take-le (n * 8) y (omega arith)

  byte : (i : ℕ) → i < length s → get_or (wiped y (n * 8)) i 0 ≡ get_or s i 0
  unfolding wiped
  byte i h = go (ltb i (n * 8)) refl
    where
      go : (b : Bool) → ltb i (n * 8) ≡ b → get_or (take (n * 8) y ++ replicate (length y - n * 8) 0) i 0 ≡ get_or s i 0
      go true e =
          let l : i < n * 8 = ltb-true _ _ e in
          get_or-append (take (n * 8) y) (replicate (length y - n * 8) 0) 0 i (rw long l) ∙ get_or-take (n * 8) y i 0 l ∙ g.low i l
      go false e =
          let l : n * 8 ≤ i = ltb-false _ _ e in
          let k = g.long in
          let u : i ≡ length (take (n * 8) y) + (i - n * 8) = rw long (omega arith) in
          ap (λ (j : ℕ). get_or (take (n * 8) y ++ replicate (length y - n * 8) 0) j 0) u
          ∙ get_or-append-add (take (n * 8) y) (replicate (length y - n * 8) 0) (i - n * 8) 0
          ∙ get_or-replicate (length y - n * 8) (i - n * 8) 0 0 (omega arith) ∙ sym (tail i l)

  wiped_long : length (wiped y (n * 8)) ≡ length s
  unfolding wiped
  wiped_long = let l = g.long in simp (length-append, long, length-replicate) (omega arith)

  pub restored : wiped y (n * 8) ≡ s
  restored = ext_get_or 0 (wiped y (n * 8)) s wiped_long (λ i h. byte i (rw wiped_long at h))
