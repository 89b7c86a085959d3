-- What stands past the leaves is blank after one more. Assumes nothing.
use Rattle.std.proofs.Common.{◌≡◌, ◌∙◌, ◌+◌, ◌-◌, ◌<◌, ℕ, List, drop, replicate, set, arith, sym}
use Rattle.std.proofs.lemmas.List.{drop-set-lt, drop-replicate}
use Rattle.std.proofs.lemmas.Grind.{drop_more_same}

pub padded_more : {A : Type 0} (z a : A) (n c : ℕ) (l : List A) → drop c l ≡ replicate (n - c) z → drop (c + 1) (set l c a) ≡ replicate (n - (c + 1)) z
padded_more z a n c l e =
    drop-set-lt (c + 1) l c a (omega arith)
    ∙ (drop_more_same l (replicate n z) c (e ∙ sym (drop-replicate c n z)) ∙ drop-replicate (c + 1) n z)
