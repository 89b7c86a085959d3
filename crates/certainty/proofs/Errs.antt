-- Runs that err: they alone have an error for their outcome, and they have a rule. Assumes nothing.
use mathlib.Core.Path.{◌≡◌, refl}
use mathlib.Core.List.{List, [], ◌∷◌}
use Prim.Native.Nat.{ℕ, ◌<◌}
use native.Mathlib.Omega.{arith}
use lib.ListN.{length}
use Rattle.semantics.specs.declared.Input.{Input}
use Rattle.semantics.specs.declared.Outcome.TheVariants.{Error}
use Rattle.semantics.specs.Run.{Value, truth, word, procedure, binding, none, Ended, gives, aborts, errs, spends}
use Rattle.semantics.specs.PlainRun.{value_given, ended_outcome}
use Rattle.semantics.specs.History.{Accepted, ran_all, run_of_rules}

-- only a run that errs has an error for its outcome: no value is one
value_no_error : (v : Value) → value_given v ≡ Error → ⊥
unfolding value_given
value_no_error (truth b) e = let z : ◌≡◌ {A = ℕ} 0 1 = cc in omega arith
value_no_error (word w) e = let z : ◌≡◌ {A = ℕ} 0 1 = cc in omega arith
value_no_error (procedure i v) e = let z : ◌≡◌ {A = ℕ} 0 1 = cc in omega arith
value_no_error (binding v w) e = let z : ◌≡◌ {A = ℕ} 0 1 = cc in omega arith
value_no_error none e = let z : ◌≡◌ {A = ℕ} 0 1 = cc in omega arith

pub error_errs : (o : Ended) → ended_outcome o ≡ Error → o ≡ errs
unfolding ended_outcome
error_errs (gives v) e = absurd (value_no_error v e)
error_errs aborts e = let z : ◌≡◌ {A = ℕ} 0 1 = cc in absurd (omega arith)
error_errs errs e = refl
error_errs spends e = let z : ◌≡◌ {A = ℕ} 0 1 = cc in absurd (omega arith)

-- a run that errs has a rule
pub errs_some : (xs : List Input) (ns : List ℕ) (rs : List Accepted) → run_of_rules xs ns rs ≡ errs → 0 < length rs
unfolding run_of_rules ran_all
errs_some xs ns [] e = let z : ◌≡◌ {A = ℕ} 0 1 = cc in absurd (omega arith)
errs_some xs ns (r ∷ rs) e = omega arith

pub errs_error : (o : Ended) → o ≡ errs → ended_outcome o ≡ Error
unfolding ended_outcome
errs_error o e = rw e
