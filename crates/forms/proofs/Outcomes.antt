-- What was read or run and then written is its form. Assumes nothing.
use mathlib.Core.Path.{◌≡◌}
use mathlib.Core.List.{List}
use Prim.Native.Nat.{ℕ}
use Rattle.notation.specs.Notation.{with}
use Rattle.semantics.specs.declared.Outcome.{Outcome}
use Rattle.forms.specs.Forms.{words_of}
use Rattle.forms.specs.Answers.{outcome_values, written_at}
use Rattle.forms.specs.Outcomes.{outcome_form}

pub told : (p : Outcome × List ℕ) (reading : List ℕ) {o : Outcome} {y : List ℕ} → (o, y) ≡ p → {a : ℕ} {z : List ℕ} → (a, z) ≡ written_at words_of (outcome_values o) reading → (a, y, z) ≡ outcome_form p reading
unfolding outcome_form with
told p reading ep ea = rw (← ep, ← ea)
