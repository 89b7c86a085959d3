-- What writing from the start comes to, of a text that is no longer than the limit: the place after it is its length; and where the buffer has room for
-- it, it stands at the buffer's start and the rest is as it was. Assumes nothing.
use mathlib.Core.Path.{◌≡◌, refl, sym, ap, ◌∙◌}
use mathlib.Core.List.{List, [], ◌∷◌, ◌++◌, append_assoc}
use Prim.Native.Nat.{ℕ, zero, suc, ◌+◌, ◌<◌, ◌≤◌}
use native.Mathlib.Omega.{arith}
use native.Mathlib.Numerals.{add-one}
use lib.ListN.{length, set, take, drop, length-set}
use lib.Seq.{take-suc-set}
use borrow.Author.Tests.{lt-ltb}
use Rattle.notation.specs.Notation.{if◌below◌then◌else◌}
use Rattle.cursor.specs.declared.Cursor.{Cursor}
use Rattle.cursor.specs.Sink.{most_text, Sink, sink_of, put_one, wrote, Writes, Fills}

put_fits : (s : List ℕ) (n b : ℕ) → n < most_text → put_one (sink_of s n) b ≡ sink_of (set s n b) (n + 1)
unfolding put_one if◌below◌then◌else◌
put_fits s n b h = rw (lt-ltb n most_text h)

-- the place is past the text
place : (t s : List ℕ) (n : ℕ) → n + length t ≤ most_text → (wrote (sink_of s n) t).at ≡ n + length t
unfolding wrote
place [] s n h = omega arith
place (b ∷ t) s n h = ap (λ k. (wrote k t).at) (put_fits s n b (omega arith)) ∙ (place t (set s n b) (n + 1) (omega arith) ∙ omega arith)

drop_set : (s : List ℕ) (n b k : ℕ) → n < k → drop k (set s n b) ≡ drop k s
drop_set [] n b k h = refl
drop_set (x ∷ s) zero b zero h = absurd (omega arith)
drop_set (x ∷ s) zero b (suc k) h = refl
drop_set (x ∷ s) (suc n) b zero h = absurd (omega arith)
drop_set (x ∷ s) (suc n) b (suc k) h = drop_set s n b k (omega arith)

take_drop : (s : List ℕ) (n : ℕ) → take n s ++ drop n s ≡ s
take_drop s zero = refl
take_drop [] (suc n) = refl
take_drop (x ∷ s) (suc n) = ap (λ l. x ∷ l) (take_drop s n)

-- the bytes: the text after the first n, then as they were
stands : (t s : List ℕ) (n : ℕ) → n + length t ≤ length s → n + length t ≤ most_text → (wrote (sink_of s n) t).bytes ≡ take n s ++ (t ++ drop (n + length t) s)
unfolding wrote
stands [] s n h l = let z : n + 0 ≡ n = omega arith in rw z (sym (take_drop s n))
stands (b ∷ t) s n h l =
    let k : n < length s = omega arith in
    let q : n + 1 + length t ≡ n + suc (length t) = omega arith in
    ap (λ k. (wrote k t).bytes) (put_fits s n b (omega arith))
    ∙ (stands t (set s n b) (n + 1) (rw (length-set s n b) (omega arith)) (omega arith)
    ∙ (rw (q, add-one n, take-suc-set s n b k, drop_set s n b (n + suc (length t)) (omega arith)) (append_assoc (take n s) (b ∷ []) (t ++ drop (n + suc (length t)) s))))

-- ---- from the start
-- what a cursor wrote is in the buffer that it was lent, once the cursor still holds it
pub filled : {t : List ℕ} {c d : Cursor} → Writes t c d → c.at ≡ 0 → {z : List ℕ} → (c.buffer.ghost_name ≡ d.buffer.ghost_name → z ≡ d.buffer.now) → Fills t c.buffer.now z d.at
filled {t} {c} {d} w e {z} h = record { is = rw (h (sym w.same)) (w.is ∙ ap (λ n. wrote (sink_of c.buffer.now n) t) e) }

pub measured : {t s y : List ℕ} {m : ℕ} → Fills t s y m → length t ≤ most_text → m ≡ length t
measured {t} {s} w l = ap (λ (k : Sink). k.at) w.is ∙ (place t s 0 (omega arith) ∙ omega arith)

pub stored : {t s z : List ℕ} {m : ℕ} → Fills t s z m → length t ≤ length s → length t ≤ most_text → z ≡ t ++ drop (length t) s
stored {t} {s} w h l =
    let e : 0 + length t ≡ length t = omega arith in
    ap (λ (k : Sink). k.bytes) w.is ∙ (stands t s 0 (omega arith) (omega arith) ∙ ap (λ n. t ++ drop n s) e)
