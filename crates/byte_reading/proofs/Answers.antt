-- Each way out of reading over byte forms. Assumes nothing.
use mathlib.Core.Path.{◌≡◌}
use mathlib.Core.List.{List}
use Prim.Native.Nat.{ℕ}
use lib.ListN.{length, replicate}
use borrow.Author.Tests.{eq-eqb}
use Rattle.notation.proofs.Follow.{tests}
use Rattle.notation.specs.Notation.{with, if◌equals◌then◌else◌}
use Rattle.semantics.specs.declared.Result.{Result}
use Rattle.semantics.specs.declared.Session.{Session}
use Rattle.semantics.specs.declared.Outcome.{Outcome}
use Rattle.semantics.specs.declared.refusal.Refusal.{Refusal}
use Rattle.semantics.specs.Refusals.{number_of}
use Rattle.semantics.specs.Reading.{read_of}
use Rattle.forms.specs.Forms.{numbers_in, session_in, result_in, words_of}
use Rattle.forms.specs.Answers.{outcome_values, written_at}
use Rattle.forms.proofs.Lengths.{long_so, long_not}
use Rattle.forms.proofs.Outcomes.{told}
use Rattle.operations.proofs.Answers.{numbered}
use Rattle.byte_reading.specs.Read.{read_unformed, desk_read}

module _ (session table numbers result work reading : List ℕ) {k : ℕ} (ek : k ≡ read_unformed session numbers result (length reading)) where
  pub unformed : (e : Refusal) → number_of e ≡ k → {n : ℕ} → n ≡ number_of e → {y : List ℕ} → y ≡ replicate (length work) 0 → (n, y, reading) ≡ desk_read session table numbers result work reading
  unfolding desk_read with if◌equals◌then◌else◌
  unformed e q en ey = rw (← ek, ← q, numbered e, en, ey)

  module _ (h : k ≡ 0) where
    module _ {x : Session} (ex : x ≡ session_in session) {ns : List ℕ} (en : ns ≡ numbers_in numbers) {r : Result} (er : r ≡ result_in result) where
      pub read_whole : {o : Outcome} {y : List ℕ} → (o, y) ≡ read_of x table ns r work → {a : ℕ} {z : List ℕ} → (a, z) ≡ written_at words_of (outcome_values o) reading
          → (a, y, z) ≡ desk_read session table numbers result work reading
      unfolding desk_read with if◌equals◌then◌else◌
      read_whole eo ea = rw (← ek, eq-eqb k 0 h, ← ex, ← en, ← er) (told _ reading eo ea)

pub ruleset forms = (tests, long_so, long_not)
