-- Two ways to come to `Onward`: by a refusal, and by an answer with which the part runs. Assumes nothing.
use mathlib.Core.Path.{◌≡◌, sym, ap, ◌∙◌}
use mathlib.Core.Bool.{true, false, true≢false}
use Prim.Native.Nat.{ℕ}
use Rattle.std.specs.declared.result.Result.{Result}
use Rattle.std.specs.declared.result.Result.TheVariants.{Ok, Err}
use Rattle.std.specs.Prelude.{IsErr, IsErrAnd, is_ok}
use Rattle.std.specs.Result.{result_unwrap_or}
use Rattle.std.proofs.lemmas.Result.{err_from_is_err_and}
use Rattle.semantics.specs.declared.refusal.Refusal.{Refusal}
use Rattle.semantics.specs.Steps.{Make}
use Rattle.terms.specs.Gives.{mapped, Gives}
use Rattle.terms.specs.declared.table.Table.{Table}
use Rattle.parts.specs.Onward.{Onward}

module _ {A B T : Type 0} {m : B → Make A} {l : T → B → Make A} {s y : Table} where
  pub refused : (r : Result T Refusal) {e : Refusal} → IsErr r × IsErrAnd r (λ k. k ≡ e) → ((b : B) (u : ℕ) → Gives (m b) s u (Err e) y) → Onward m l s r y
  refused r {e} j g =
      let p = err_from_is_err_and r j.1 in
      rw (p.1, p.2)
      (record {
        stops = λ b {k} i u. let q : e ≡ k = err_same i in rw q at (g b u);
        goes = λ b {t} i h. absurd (true≢false (sym (ap is_ok i)));
      })
    where
      err_of : Result T Refusal → Refusal
      err_of (Ok t) = e
      err_of (Err k) = k

      err_same : {k : Refusal} → ◌≡◌ {A = Result T Refusal} (Err e) (Err k) → e ≡ k
      err_same i = ap err_of i

  pub onward : (t : T) → ((b : B) (u : ℕ) (x : Result A Refusal) (z : Table) → Gives (l t b) y u x z → Gives (m b) s u x z) → Onward m l s (Ok t) y
  onward t g =
      record {
        stops = λ b {k} i u. absurd (true≢false (ap is_ok i));
        goes = λ b {t = v} i {u} {x} {z} h. let q : t ≡ v = ap (λ (r : Result T Refusal). result_unwrap_or r t) i in g b u x z (rw (← q) at h);
      }

-- an answer that is told by f, where a `?` ends it
pub mapped_stop : {A B : Type 0} (f : A → B) {m : Make B} {s y : Table} (r : Result A Refusal) {e : Refusal} → IsErr r × IsErrAnd r (λ k. k ≡ e) → Gives m s 0 (Err e) y
    → Gives m s 0 (mapped f r) y
mapped_stop f r j g = let p = err_from_is_err_and r j.1 in rw (p.1, p.2) g
