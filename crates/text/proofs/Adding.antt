-- Text added to a buffer: a byte more, and one text after another. Assumes nothing.
use mathlib.Core.Path.{◌≡◌, refl, sym}
use mathlib.Core.List.{List, [], ◌∷◌, ◌++◌, append_assoc}
use Prim.Native.Nat.{ℕ, suc, ◌+◌, ◌*◌, ◌<◌, ◌≤◌}
use native.Mathlib.Numerals.{add-one}
use native.Mathlib.Omega.{arith}
use lib.ListN.{length, take, drop, get_or, drop_of_length-le}
use lib.Seq.{length-take-le, drop-cons}
use Rattle.text.specs.Text.{space, line_feed, decimal_of, joined, numbers_text}
use Rattle.text.specs.Appends.{number_bytes, Appends, Writes}

-- one text after another
pub both_added : {m n : ℕ} {t u s : List ℕ} {at : ℕ} {y : List ℕ} {e : ℕ} {z : List ℕ} {r : ℕ} → Appends m t s at y e → Appends n u y e z r → Appends (m + n) (t ++ u) s at z r
both_added p q =
    let a = p.low in let b = p.high in let c = q.low in let d = q.high in
    record { is = rw (q.is, p.is, append_assoc); low = omega arith; high = omega arith }

-- a text from the start on, in a buffer that has room for it
pub written : {m : ℕ} {t s y : List ℕ} {r : ℕ} → m ≤ length y → Appends m t s 0 y r → Writes t y r
written {y = y} {r} h p = let a = p.high in let b : r ≤ length y = omega arith in record { counts = (b, sym (length-take-le r y b)); is = p.is }

-- ---- numbers that are put one by one
text_cons : (ns : List ℕ) (i : ℕ) → i + 1 < length ns → numbers_text (drop i ns) ≡ (decimal_of (get_or ns i 0) ++ (space ∷ [])) ++ numbers_text (drop (i + 1) ns)
unfolding numbers_text joined
text_cons ns i h =
    let l : i < length ns = omega arith in
    let m : suc i < length ns = omega arith in
    rw (add-one, drop-cons ns i 0 l, drop-cons ns (suc i) 0 m, append_assoc)

text_last : (ns : List ℕ) (i : ℕ) → i + 1 ≡ length ns → numbers_text (drop i ns) ≡ decimal_of (get_or ns i 0) ++ (line_feed ∷ [])
unfolding numbers_text joined
text_last ns i h =
    let l : i < length ns = omega arith in
    let m : length ns ≤ suc i = omega arith in
    rw (drop-cons ns i 0 l, drop_of_length-le ns m)

-- The numbers before i stand in y up to e, so that only the text of the others is missing.
pub record Listed (s : List ℕ) (at : ℕ) (ns y : List ℕ) (e i : ℕ) : Type 0 where
  pub is : take e y ++ numbers_text (drop i ns) ≡ take at s ++ numbers_text ns
  pub low : at ≤ e
  pub high : e ≤ at + number_bytes * i

module _ {s : List ℕ} {at : ℕ} {ns : List ℕ} where
  pub none_listed : Listed s at ns s at 0
  none_listed = record { is = refl; low = omega arith; high = omega arith }

  module _ {y : List ℕ} {e i : ℕ} (h : Listed s at ns y e i) {z : List ℕ} {r : ℕ} where
    pub one_listed : i + 1 < length ns → Appends number_bytes (decimal_of (get_or ns i 0) ++ (space ∷ [])) y e z r → Listed s at ns z r (i + 1)
    one_listed l p =
        let a = h.low in let b = h.high in let c = p.low in let d = p.high in
        record { is = rw (p.is, append_assoc, ← text_cons ns i l) h.is; low = omega arith; high = omega arith }

    pub all_listed : {k : ℕ} → k ≡ i → k + 1 ≡ length ns → Appends number_bytes (decimal_of (get_or ns k 0) ++ (line_feed ∷ [])) y e z r → Appends (number_bytes * length ns) (numbers_text ns) s at z r
    all_listed {k} q l p =
        let a = h.low in let b = h.high in let c = p.low in let d = p.high in
        record { is = rw (p.is, ← text_last ns k l, q) h.is; low = omega arith; high = omega arith }
