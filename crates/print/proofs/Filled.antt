-- A buffer that is filled read by read. Assumes nothing.
use mathlib.Core.Path.{◌≡◌, sym, ap, ◌∙◌}
use mathlib.Core.List.{List, ◌++◌, append_assoc}
use Prim.Native.Nat.{ℕ, ◌+◌, ◌-◌, ◌≤◌}
use native.Mathlib.Omega.{arith}
use lib.ListN.{length, take, drop, length-drop}
use lib.Seq.{take-append-add, length-take-le}
use borrow.Rule.Slice.PartMut.{mid_of, put_mid, post_of, same_len_mid}
use Rattle.std.proofs.lemmas.List.{take-append-le}
use Rattle.std.specs.Prelude.{None, Some}
use Rattle.std.specs.declared.option.Option.{Option}
use Rattle.std.specs.Io.KnownBytes.{Consumes}

-- the first n of ys, written from a on, follow the first a of xs
filled : (a k n : ℕ) (xs ys : List ℕ) → a ≤ length xs → n ≤ length ys → take (a + n) (put_mid a k xs ys) ≡ take a xs ++ take n ys
filled a k n xs ys h l =
    ap (λ m. take (m + n) (put_mid a k xs ys)) (sym (length-take-le a xs h))
    ∙ (take-append-add (take a xs) (ys ++ post_of a k xs) n ∙ ap (λ l. take a xs ++ l) (take-append-le n ys (post_of a k xs) l))

consumes_more : (o m p : Option (List ℕ)) (xs ys : List ℕ) → Consumes o m xs → Consumes m p ys → Consumes o p (xs ++ ys)
consumes_more None m p xs ys h k = tt
consumes_more (Some u) None p xs ys h k = absurd h
consumes_more (Some u) (Some v) None xs ys h k = absurd k
consumes_more (Some u) (Some v) (Some w) xs ys h k = h ∙ (ap (λ l. xs ++ l) k ∙ sym (append_assoc xs ys w))

-- one read more, into what is left of xs
pub more_read : (o m p : Option (List ℕ)) (a n : ℕ) (xs ys : List ℕ) → a ≤ length xs → Consumes o m (take a xs) → length ys ≡ length (mid_of a (length xs - a) xs) → n ≤ length ys
    → Consumes m p (take n ys)
    → let zs = put_mid a (length xs - a) xs ys in (a + n ≤ length zs) × Consumes o p (take (a + n) zs)
more_read o m p a n xs ys l h e b r =
    let s = same_len_mid a (length xs - a) xs ys e in
    let d = length-drop a xs in
    let t = length-take-le (length xs - a) (drop a xs) (omega arith) in
    (omega arith, rw (filled a (length xs - a) n xs ys l b) (consumes_more o m p _ _ h r))
