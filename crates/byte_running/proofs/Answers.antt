-- Each way out of the plain run over byte forms. Assumes nothing.
use mathlib.Core.Path.{◌≡◌}
use mathlib.Core.List.{List}
use Prim.Native.Nat.{ℕ}
use lib.ListN.{length, replicate}
use borrow.Author.Tests.{eq-eqb}
use Rattle.notation.proofs.Follow.{tests}
use Rattle.notation.specs.Notation.{with, if◌equals◌then◌else◌}
use Rattle.semantics.specs.declared.Input.{Input}
use Rattle.semantics.specs.declared.Outcome.{Outcome}
use Rattle.semantics.specs.declared.refusal.Refusal.{Refusal}
use Rattle.semantics.specs.Refusals.{number_of}
use Rattle.semantics.specs.PlainRun.{run_plainly_of}
use Rattle.forms.specs.Forms.{inputs_in, numbers_in, words_of}
use Rattle.forms.specs.Answers.{outcome_values, written_at}
use Rattle.forms.proofs.Lengths.{long_so, long_not}
use Rattle.forms.proofs.Outcomes.{told}
use Rattle.operations.proofs.Answers.{numbered}
use Rattle.byte_running.specs.Run.{run_unformed, desk_run}

module _ (inputs numbers rule : List ℕ) (allowance : ℕ) (store reading : List ℕ) {k : ℕ} (ek : k ≡ run_unformed inputs numbers (length reading)) where
  pub unformed : (e : Refusal) → number_of e ≡ k → {n : ℕ} → n ≡ number_of e → {y : List ℕ} → y ≡ replicate (length store) 0 → (n, y, reading) ≡ desk_run inputs numbers rule allowance store reading
  unfolding desk_run with if◌equals◌then◌else◌
  unformed e q en ey = rw (← ek, ← q, numbered e, en, ey)

  module _ (h : k ≡ 0) where
    module _ {xs : List Input} (ex : xs ≡ inputs_in inputs) {ns : List ℕ} (en : ns ≡ numbers_in numbers) where
      pub run_whole : {o : Outcome} {y : List ℕ} → (o, y) ≡ run_plainly_of xs ns rule allowance store → {a : ℕ} {z : List ℕ} → (a, z) ≡ written_at words_of (outcome_values o) reading
          → (a, y, z) ≡ desk_run inputs numbers rule allowance store reading
      unfolding desk_run with if◌equals◌then◌else◌
      run_whole eo ea = rw (← ek, eq-eqb k 0 h, ← ex, ← en) (told _ reading eo ea)

pub ruleset forms = (tests, long_so, long_not)
