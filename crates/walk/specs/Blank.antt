-- An array of leaves that is blank past them: they fix it, so that it can be copied. Assumes nothing.
use Rattle.std.specs.Prelude.{◌≡◌, ◌-◌, ◌≤◌, ℕ, List, ◌++◌, length, take, drop, replicate}
use Rattle.std.proofs.Common.{◌∙◌, sym, ap, subst, take-append-drop, length-take-le}
use Rattle.semantics.specs.declared.Leaf.{Leaf}
use Rattle.semantics.specs.Terms.{blank}

-- what stands past the leaves
abbrev pub no_leaf : Leaf
no_leaf = record { guard = 0; term = blank }

-- the leaves are as many as their count
pub counted : {A : Type 0} (n c : ℕ) (l : List A) → c ≤ n → length l ≡ n → length (take c l) ≡ c
counted n c l h k = length-take-le c l (subst (λ m. c ≤ m) (sym k) h)

-- and with blanks up to the limit they are the array
pub padded : {A : Type 0} (z : A) (n c : ℕ) (l : List A) → c ≤ n → length l ≡ n → drop c l ≡ replicate (n - c) z → take c l ++ replicate (n - length (take c l)) z ≡ l
padded z n c l h k e = ap (λ m. take c l ++ replicate (n - m) z) (counted n c l h k) ∙ (ap (λ r. take c l ++ r) (sym e) ∙ take-append-drop c l)
