-- Assumes nothing. What a table reads after a term is put at its count: the terms_in below as before, the term itself there, and what stands past it as before.
use mathlib.Core.Path.{◌≡◌, refl, sym, ap, ◌∙◌}
use mathlib.Core.List.{List, ◌++◌}
use Prim.Native.Nat.{ℕ, ◌+◌, ◌-◌, ◌*◌, ◌/◌, ◌%◌, ◌<◌, ◌≤◌}
use native.Mathlib.Omega.{arith}
use lib.ListN.{length, get_or, take, drop, length-drop, length-append, get_or-append}
use lib.Seq.{get_or-take, get_or-drop, get_or-append-add, length-take-le}
use Rattle.notation.specs.Notation.{with}
use Rattle.semantics.specs.declared.Term.{Term}
use Rattle.semantics.specs.Records.{record_at}
use Rattle.semantics.specs.Terms.{term_at, bytes_of, put}

halves : (x : ℕ) → x % 256 + 256 * (x / 256) ≡ x
halves x = omega arith

module _ (s : List ℕ) (n : ℕ) (t : Term) (room : n * 8 + 8 ≤ length s) where
  abbrev pub rest : List ℕ
  rest = drop 8 (drop (n * 8) s)

  head_length : length (take (n * 8) s) ≡ n * 8
  head_length = length-take-le (n * 8) s (omega arith)

  pub put_length : length (put s n t) ≡ length s
  unfolding put bytes_of
  put_length = simp (length-append, head_length, length-drop) (omega arith)

  pub put_below : (k : ℕ) → k < n * 8 → get_or (put s n t) k 0 ≡ get_or s k 0
  unfolding put
  put_below k h = get_or-append (take (n * 8) s) (bytes_of t ++ rest) 0 k (rw head_length h) ∙ get_or-take (n * 8) s k 0 h

  pub put_at : (j k : ℕ) → k ≡ n * 8 + j → get_or (put s n t) k 0 ≡ get_or (bytes_of t ++ rest) j 0
  unfolding put
  put_at j k e =
      let u : k ≡ length (take (n * 8) s) + j = rw head_length e in
      ap (λ (i : ℕ). get_or (take (n * 8) s ++ (bytes_of t ++ rest)) i 0) u ∙ get_or-append-add (take (n * 8) s) (bytes_of t ++ rest) j 0

  pub put_past : (k : ℕ) → n * 8 + 8 ≤ k → get_or (put s n t) k 0 ≡ get_or s k 0
  unfolding bytes_of
  put_past k h =
      let e : k ≡ n * 8 + (8 + (k - (n * 8 + 8))) = omega arith in
      let f : n * 8 + (8 + (k - (n * 8 + 8))) ≡ k = sym e in
      put_at (8 + (k - (n * 8 + 8))) k e ∙ get_or-append-add (bytes_of t) rest (k - (n * 8 + 8)) 0 ∙ get_or-drop 8 (drop (n * 8) s) (k - (n * 8 + 8)) 0
      ∙ get_or-drop (n * 8) s (8 + (k - (n * 8 + 8))) 0 ∙ ap (λ (i : ℕ). get_or s i 0) f

  pub term_below : (i : ℕ) → i < n → term_at (put s n t) i ≡ term_at s i
  unfolding term_at record_at with
  term_below i h =
      let b : (j k : ℕ) → j < 8 → k ≡ 8 * i + j → get_or (put s n t) k 0 ≡ get_or s k 0 = λ j k l e. put_below k (omega arith) in
      simp (
        b 0 (8 * i) (omega arith) (omega arith),
        b 1 (8 * i + 1) (omega arith) refl,
        b 2 (8 * i + 2) (omega arith) refl,
        b 3 (8 * i + 2 + 1) (omega arith) (omega arith),
        b 4 (8 * i + 4) (omega arith) refl,
        b 5 (8 * i + 4 + 1) (omega arith) (omega arith),
        b 6 (8 * i + 6) (omega arith) refl,
        b 7 (8 * i + 6 + 1) (omega arith) (omega arith),
      )

  pub term_there : term_at (put s n t) n ≡ t
  unfolding term_at record_at with bytes_of
  term_there =
      simp (
        put_at 0 (8 * n) (omega arith),
        put_at 1 (8 * n + 1) (omega arith),
        put_at 2 (8 * n + 2) (omega arith),
        put_at 3 (8 * n + 2 + 1) (omega arith),
        put_at 4 (8 * n + 4) (omega arith),
        put_at 5 (8 * n + 4 + 1) (omega arith),
        put_at 6 (8 * n + 6) (omega arith),
        put_at 7 (8 * n + 6 + 1) (omega arith),
        halves,
      )
