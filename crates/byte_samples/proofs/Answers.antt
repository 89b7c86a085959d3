-- Each way out of samples over byte forms. Assumes nothing.
use mathlib.Core.Path.{◌≡◌}
use mathlib.Core.List.{List}
use Prim.Native.Nat.{ℕ}
use lib.ListN.{length, replicate}
use lib.Dec.{eqb}
use mathlib.Core.Bool.{false}
use borrow.Author.Tests.{eq-eqb}
use Rattle.notation.specs.Notation.{with, if◌equals◌then◌else◌}
use Rattle.semantics.specs.declared.Result.{Result}
use Rattle.semantics.specs.declared.Session.{Session}
use Rattle.semantics.specs.Samples.{read_all_of}
use Rattle.forms.specs.Forms.{session_in, result_in}
use Rattle.byte_samples.specs.Samples.{samples_unformed, desk_read_all}

module _ (session table result numbers work answers : List ℕ) {k : ℕ} (ek : k ≡ samples_unformed session result) where
  pub samples_unformed_lem : eqb k 0 ≡ false → {y : List ℕ} → y ≡ replicate (length work) 0 → (k, y, answers) ≡ desk_read_all session table result numbers work answers
  unfolding desk_read_all with if◌equals◌then◌else◌
  samples_unformed_lem n ey = rw (← ek, n, ey)

  pub samples_formed : k ≡ 0 → {x : Session} → x ≡ session_in session → {r : Result} → r ≡ result_in result
      → {a : ℕ} {y z : List ℕ} → (a, y, z) ≡ read_all_of x table r numbers work answers → (a, y, z) ≡ desk_read_all session table result numbers work answers
  unfolding desk_read_all with if◌equals◌then◌else◌
  samples_formed h ex er e = rw (← ek, eq-eqb k 0 h, ← ex, ← er) e
