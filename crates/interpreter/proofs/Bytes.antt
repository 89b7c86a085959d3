-- A store after a record is put at a place: the bytes below as before, the record itself there; and a store whose tail was lent. Assumes nothing.
use mathlib.Core.Path.{◌≡◌, ap, ◌∙◌}
use mathlib.Core.List.{List, ◌++◌, append-nil}
use Prim.Native.Nat.{ℕ, ◌+◌, ◌-◌, ◌*◌, ◌/◌, ◌%◌, ◌<◌, ◌≤◌}
use native.Mathlib.Omega.{arith}
use lib.ListN.{length, get_or, take, drop, length-drop, length-append, drop_of_length-le, get_or-append}
use lib.Seq.{get_or-take, get_or-append-add, length-take-le, take_all}
use Rattle.semantics.specs.declared.Record.{Record}
use Rattle.semantics.specs.Records.{record_at, record_bytes}

-- the bytes of a record, "fields little-endian"
unfoldable pub bytes_of : Record → List ℕ
bytes_of x = record_bytes x.kind x.op x.p x.q x.r

-- the record x at place n
unfoldable pub put : List ℕ → ℕ → Record → List ℕ
put s n x = take (8 * n) s ++ (bytes_of x ++ drop 8 (drop (8 * n) s))

halves : (x : ℕ) → x % 256 + 256 * (x / 256) ≡ x
halves x = omega arith

module _ (s : List ℕ) (n : ℕ) (x : Record) (room : 8 * n + 8 ≤ length s) where
  rest : List ℕ
  rest = drop 8 (drop (8 * n) s)

  head_length : length (take (8 * n) s) ≡ 8 * n
  head_length = length-take-le (8 * n) s (omega arith)

  pub put_length : length (put s n x) ≡ length s
  unfolding put bytes_of
  put_length = simp (length-append, head_length, length-drop) (omega arith)

  pub put_below : (k : ℕ) → k < 8 * n → get_or (put s n x) k 0 ≡ get_or s k 0
  unfolding put rest
  put_below k h = get_or-append (take (8 * n) s) (bytes_of x ++ rest) 0 k (rw head_length h) ∙ get_or-take (8 * n) s k 0 h

  put_at : (j k : ℕ) → k ≡ 8 * n + j → get_or (put s n x) k 0 ≡ get_or (bytes_of x ++ rest) j 0
  unfolding put rest
  put_at j k e =
      let u : k ≡ length (take (8 * n) s) + j = rw head_length e in
      ap (λ (i : ℕ). get_or (take (8 * n) s ++ (bytes_of x ++ rest)) i 0) u ∙ get_or-append-add (take (8 * n) s) (bytes_of x ++ rest) j 0

  -- the record there
  pub put_record : record_at (put s n x) n ≡ x
  unfolding record_at bytes_of
  put_record =
      simp (
        put_at 0 (8 * n) (omega arith),
        put_at 1 (8 * n + 1) (omega arith),
        put_at 2 (8 * n + 2) (omega arith),
        put_at 3 (8 * n + 2 + 1) (omega arith),
        put_at 4 (8 * n + 4) (omega arith),
        put_at 5 (8 * n + 4 + 1) (omega arith),
        put_at 6 (8 * n + 6) (omega arith),
        put_at 7 (8 * n + 6 + 1) (omega arith),
        halves,
      )

-- a record whose bytes are the same in two stores
pub record_same : (s y : List ℕ) (k i : ℕ) → i < k → ((j : ℕ) → j < 8 * k → get_or y j 0 ≡ get_or s j 0) → record_at y i ≡ record_at s i
unfolding record_at
record_same s y k i h same =
    simp (
      same (8 * i) (omega arith),
      same (8 * i + 1) (omega arith),
      same (8 * i + 2) (omega arith),
      same (8 * i + 2 + 1) (omega arith),
      same (8 * i + 4) (omega arith),
      same (8 * i + 4 + 1) (omega arith),
      same (8 * i + 6) (omega arith),
      same (8 * i + 6 + 1) (omega arith),
    )

-- a part that runs to the end, as it is lent, and come back with a record at its start
module _ (s : List ℕ) (n : ℕ) (x : Record) where
  tail_length : length (drop (8 * n) s) ≤ length s - 8 * n
  tail_length = simp length-drop (omega arith)

  pub put_back : (y : List ℕ) → y ≡ record_bytes x.kind x.op x.p x.q x.r ++ drop 8 (take (length s - 8 * n) (drop (8 * n) s))
      → take (8 * n) s ++ (y ++ drop (length s - 8 * n) (drop (8 * n) s)) ≡ put s n x
  unfolding put bytes_of
  put_back y e =
      let lent : take (length s - 8 * n) (drop (8 * n) s) ≡ drop (8 * n) s = take_all (length s - 8 * n) (drop (8 * n) s) tail_length in
      let nothing : y ++ drop (length s - 8 * n) (drop (8 * n) s) ≡ y = rw (drop_of_length-le (drop (8 * n) s) tail_length) (append-nil y) in
      rw (nothing, e, lent)
