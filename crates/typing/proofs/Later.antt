-- A table that is well formed stays so when one rule more was accepted. Assumes nothing.
use mathlib.Core.Path.{◌≡◌, refl}
use mathlib.Core.Bool.{Bool, true, false, ◌&&◌}
use mathlib.Core.List.{List, [], ◌∷◌}
use Prim.Native.Nat.{ℕ, ◌+◌, ◌<◌}
use native.Mathlib.Omega.{arith}
use lib.Dec.{eqb, ltb}
use borrow.Author.Tests.{eqb-true, ltb-true, lt-ltb}
use Rattle.notation.specs.Notation.{if◌equals◌then◌else◌}
use Rattle.semantics.specs.declared.Term.{Term}
use Rattle.semantics.specs.Numbers.{procedure_term, record_limit}
use Rattle.semantics.specs.Terms.{names_binding, laid_out, well_formed}
use Rattle.typing.proofs.Formed.{never, both, by_test, formed_newest}
use Rattle.typing.proofs.Does.{Fit}

laid_later : (n : ℕ) (ts : List Term) (t : Term) → laid_out n ts t ≡ true → laid_out (n + 1) ts t ≡ true
unfolding laid_out if◌equals◌then◌else◌
laid_later n ts t h = go (eqb t.kind procedure_term) refl
  where
    go : (b : Bool) → eqb t.kind procedure_term ≡ b → laid_out (n + 1) ts t ≡ true
    go true e =
        let k : t.kind ≡ procedure_term = eqb-true _ _ e in
        by_test (eqb t.op 0) (ltb t.a record_limit && (names_binding ts t.b && ltb t.c n)) false (rw k at h)
        (λ i j. both (ltb t.a record_limit) (names_binding ts t.b && ltb t.c n) j λ p q. both (names_binding ts t.b) (ltb t.c n) q λ u v.
        let w : t.c < n + 1 = omega (arith, ltb-true t.c n v) in rw (k, i, p, u, lt-ltb _ _ w))
        (λ i j. never j)
    go false e = rw e (rw e at h)

pub formed_later : (n : ℕ) (ts : List Term) → well_formed n ts ≡ true → well_formed (n + 1) ts ≡ true
unfolding well_formed
formed_later n [] h = refl
formed_later n (t ∷ ts) h = formed_newest n t ts h λ p q r. rw (laid_later n ts t p, q, formed_later n ts r)

pub fit_later : {n : ℕ} {ts : List Term} → Fit n ts → Fit (n + 1) ts
fit_later {n} {ts} f = record { formed = formed_later n ts f.formed; no = f.no; yes = f.yes; short = f.short }
