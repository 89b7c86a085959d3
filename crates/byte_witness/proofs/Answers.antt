-- Each way out of witnesses over byte forms. Assumes nothing.
use mathlib.Core.Path.{◌≡◌, ap}
use mathlib.Core.Bool.{not}
use mathlib.Core.List.{List}
use Prim.Native.Nat.{ℕ}
use lib.Dec.{eqb}
use lib.ListN.{length, replicate}
use lib.Seq.{sets}
use borrow.Author.Tests.{ne_eqb}
use Rattle.notation.specs.Notation.{with, if◌equals◌then◌else◌}
use Rattle.semantics.specs.declared.Result.{Result}
use Rattle.semantics.specs.declared.Session.{Session}
use Rattle.semantics.specs.declared.Goal.{Goal}
use Rattle.semantics.specs.declared.Witness.{Witness}
use Rattle.semantics.specs.declared.refusal.Refusal.{Refusal}
use Rattle.semantics.specs.Refusals.{number_of}
use Rattle.firsts.specs.Witness.{witness_of}
use Rattle.witness.proofs.Whole.{number_some}
use Rattle.forms.specs.Forms.{numbers_in, session_in, result_in}
use Rattle.goal_forms.specs.Goals.{goal_in}
use Rattle.byte_witness.specs.Witness.{hit_bytes, witness_unformed, desk_witness}

module _ (session table result goal lows highs work place : List ℕ) where
  pub hit_unformed : (r : Refusal) → number_of r ≡ witness_unformed session result goal (length lows) (length highs) (length place) → {k : ℕ} → k ≡ number_of r → {y : List ℕ} → y ≡ replicate (length work) 0
      → (k, y, place) ≡ desk_witness session table result goal lows highs work place
  unfolding desk_witness with if◌equals◌then◌else◌
  hit_unformed r h ek ey = rw (← h, ne_eqb (number_of r) 0 (number_some r), ek, ey)

  module _ (h : 0 ≡ witness_unformed session result goal (length lows) (length highs) (length place)) {x : Session} (ex : x ≡ session_in session) {r : Result} (er : r ≡ result_in result) {g : Goal} (eg : g ≡ goal_in goal)
      {ls : List ℕ} (el : ls ≡ numbers_in lows) {hs : List ℕ} (eh : hs ≡ numbers_in highs) {w : Witness} {y : List ℕ} (e : ◌≡◌ {A = Witness × List ℕ} (w, y) (witness_of x table r g (not (eqb (length lows) 0)) ls hs work)) where
    pub hit_refused : (w.refusal ≡ 0 → ⊥) → {k : ℕ} → k ≡ w.refusal → (k, y, place) ≡ desk_witness session table result goal lows highs work place
    unfolding desk_witness with if◌equals◌then◌else◌
    hit_refused n ek = rw (← h, ← ex, ← er, ← eg, ← el, ← eh, ← e, ne_eqb w.refusal 0 n, ek)

    pub hit_said_lem : w.refusal ≡ 0 → {z : List ℕ} → z ≡ sets place 0 (hit_bytes w.hit) → (0, y, z) ≡ desk_witness session table result goal lows highs work place
    unfolding desk_witness with if◌equals◌then◌else◌
    hit_said_lem n ez = rw (← h, ← ex, ← er, ← eg, ← el, ← eh, ← e, n) (ap (λ v. (0, y, v)) ez)
