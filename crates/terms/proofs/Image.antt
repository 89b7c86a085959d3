-- A table of bytes that is zero past its n terms is the image of those terms. Assumes nothing.
use mathlib.Core.Path.{◌≡◌, refl, sym, ap, ◌∙◌}
use mathlib.Core.Bool.{Bool, true, false}
use mathlib.Core.List.{List, ◌++◌}
use Prim.Native.Nat.{ℕ, zero, suc, ◌+◌, ◌-◌, ◌*◌, ◌<◌, ◌≤◌}
use native.Mathlib.Omega.{arith}
use lib.ListN.{length, get_or, drop, length-replicate, get_or-replicate}
use lib.Seq.{ext_get_or}
use lib.Dec.{ltb}
use borrow.Author.Tests.{ltb-true, ltb-false}
use Rattle.notation.specs.Notation.{with}
use Rattle.semantics.specs.Records.{record_at}
use Rattle.semantics.specs.Terms.{term_at, bytes_of, terms_in, put, image_of}
use Rattle.terms.proofs.Tables.{terms_length}
use Rattle.terms.proofs.Put.{put_length, put_below, put_at, put_past}

pub image_length : (l : ℕ) (s : List ℕ) (n : ℕ) → n * 8 ≤ l → length (image_of l (terms_in s n)) ≡ l
unfolding image_of terms_in
image_length l s zero h = length-replicate l 0
image_length l s (suc n) h =
    let e = image_length l s n (omega arith) in
    rw (terms_length s n) (put_length (image_of l (terms_in s n)) n (term_at s n) (omega arith) ∙ e)

module _ (s : List ℕ) (byte : (k : ℕ) → get_or s k 0 < 256) where
  -- the bytes of a term that was cut from s are those of s
  term_byte : (n j : ℕ) (r : List ℕ) → j < 8 → get_or (bytes_of (term_at s n) ++ r) j 0 ≡ get_or s (8 * n + j) 0
  unfolding bytes_of term_at record_at with
  term_byte n zero r h = let e : 8 * n + 0 ≡ 8 * n = omega arith in rw e
  term_byte n (suc zero) r h = refl
  term_byte n (suc (suc zero)) r h = let a = byte (8 * n + 2) in omega arith
  term_byte n (suc (suc (suc zero))) r h =
      let e : 8 * n + 3 ≡ 8 * n + 2 + 1 = omega arith in let a = byte (8 * n + 2) in let b = byte (8 * n + 2 + 1) in rw e (omega arith)
  term_byte n (suc (suc (suc (suc zero)))) r h = let a = byte (8 * n + 4) in omega arith
  term_byte n (suc (suc (suc (suc (suc zero))))) r h =
      let e : 8 * n + 5 ≡ 8 * n + 4 + 1 = omega arith in let a = byte (8 * n + 4) in let b = byte (8 * n + 4 + 1) in rw e (omega arith)
  term_byte n (suc (suc (suc (suc (suc (suc zero)))))) r h = let a = byte (8 * n + 6) in omega arith
  term_byte n (suc (suc (suc (suc (suc (suc (suc zero))))))) r h =
      let e : 8 * n + 7 ≡ 8 * n + 6 + 1 = omega arith in let a = byte (8 * n + 6) in let b = byte (8 * n + 6 + 1) in rw e (omega arith)
  term_byte n (suc (suc (suc (suc (suc (suc (suc (suc j)))))))) r h = absurd (omega arith)

  module _ (l : ℕ) where
    image_below : (n k : ℕ) → n * 8 ≤ l → k < n * 8 → get_or (image_of l (terms_in s n)) k 0 ≡ get_or s k 0
    unfolding image_of terms_in
    image_below zero k h i = absurd (omega arith)
    image_below (suc n) k h i =
        rw (terms_length s n) (go (ltb k (n * 8)) refl (λ j. image_below n k (omega arith) j))
      where
        room : n * 8 + 8 ≤ length (image_of l (terms_in s n))
        room = let e = image_length l s n (omega arith) in omega arith

        go : (b : Bool) → ltb k (n * 8) ≡ b → (k < n * 8 → get_or (image_of l (terms_in s n)) k 0 ≡ get_or s k 0)
            → get_or (put (image_of l (terms_in s n)) n (term_at s n)) k 0 ≡ get_or s k 0
        go true e r =
            let j : k < n * 8 = omega (arith, ltb-true k (n * 8) e) in put_below (image_of l (terms_in s n)) n (term_at s n) room k j ∙ r j
        go false e r =
            let j : n * 8 ≤ k = omega (arith, ltb-false k (n * 8) e) in
            let q : k ≡ n * 8 + (k - n * 8) = omega arith in
            let p : 8 * n + (k - n * 8) ≡ k = omega arith in
            put_at (image_of l (terms_in s n)) n (term_at s n) room (k - n * 8) k q
            ∙ (term_byte n (k - n * 8) (drop 8 (drop (n * 8) (image_of l (terms_in s n)))) (omega arith) ∙ ap (λ (m : ℕ). get_or s m 0) p)

    image_past : (n k : ℕ) → n * 8 ≤ l → n * 8 ≤ k → k < l → get_or (image_of l (terms_in s n)) k 0 ≡ 0
    unfolding image_of terms_in
    image_past zero k h i m = get_or-replicate l k 0 0 m
    image_past (suc n) k h i m =
        let e = image_length l s n (omega arith) in
        rw (terms_length s n) (put_past (image_of l (terms_in s n)) n (term_at s n) (omega arith) k (omega arith) ∙ image_past n k (omega arith) (omega arith) m)

  pub image_whole : (n : ℕ) → n * 8 ≤ length s → ((k : ℕ) → n * 8 ≤ k → get_or s k 0 ≡ 0) → s ≡ image_of (length s) (terms_in s n)
  image_whole n h tail = ext_get_or 0 s (image_of (length s) (terms_in s n)) (sym (image_length (length s) s n h)) (λ k i. go k i (ltb k (n * 8)) refl)
    where
      go : (k : ℕ) → k < length s → (b : Bool) → ltb k (n * 8) ≡ b → get_or s k 0 ≡ get_or (image_of (length s) (terms_in s n)) k 0
      go k i true e = sym (image_below (length s) n k h (omega (arith, ltb-true k (n * 8) e)))
      go k i false e =
          let j : n * 8 ≤ k = omega (arith, ltb-false k (n * 8) e) in tail k j ∙ sym (image_past (length s) n k h j i)
