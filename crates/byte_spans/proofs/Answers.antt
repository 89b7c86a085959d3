-- Each way out of spans over byte forms. Assumes nothing.
use mathlib.Core.Path.{◌≡◌}
use mathlib.Core.List.{List}
use Prim.Native.Nat.{ℕ}
use lib.Dec.{eqb}
use mathlib.Core.Bool.{false}
use borrow.Author.Tests.{eq-eqb}
use native.Mathlib.Omega.{arith}
use Rattle.semantics.specs.declared.refusal.Refusal.{Refusal}
use Rattle.semantics.specs.Refusals.{number_of}
use Rattle.notation.specs.Notation.{with, if◌equals◌then◌else◌}
use Rattle.semantics.specs.declared.Session.{Session}
use Rattle.semantics.specs.Spans.{spans_of}
use Rattle.forms.specs.Forms.{numbers_in, session_in}
use Rattle.byte_spans.specs.Spans.{spans_unformed, desk_spans}

-- the number of a refusal is not 0
pub above_zero : (k : Refusal) → eqb (number_of k) 0 ≡ false
above_zero k = grind arith

module _ (session table lows highs list : List ℕ) {k : ℕ} (ek : k ≡ spans_unformed session lows highs) where
  pub spans_unformed_lem : eqb k 0 ≡ false → (k, list) ≡ desk_spans session table lows highs list
  unfolding desk_spans with if◌equals◌then◌else◌
  spans_unformed_lem n = rw (← ek, n)

  pub spans_formed : k ≡ 0 → {x : Session} → x ≡ session_in session → {ls : List ℕ} → ls ≡ numbers_in lows → {hs : List ℕ} → hs ≡ numbers_in highs
      → {a : ℕ} {y : List ℕ} → (a, y) ≡ spans_of x table ls hs list → (a, y) ≡ desk_spans session table lows highs list
  unfolding desk_spans with if◌equals◌then◌else◌
  spans_formed h ex el eh e = rw (← ek, eq-eqb k 0 h, ← ex, ← el, ← eh) e
