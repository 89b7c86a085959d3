-- What code promises that goes as far as a part of an expression, and leaves the part to be run. Assumes nothing.
use Rattle.std.specs.Prelude.{◌≡◌, ℕ}
use Rattle.std.specs.declared.result.Result.{Result}
use Rattle.std.specs.declared.result.Result.TheVariants.{Ok, Err}
use Rattle.semantics.specs.declared.State.{State}
use Rattle.semantics.specs.declared.Result.{Result as Ending}
use Rattle.semantics.specs.declared.refusal.Refusal.{Refusal}
use Rattle.semantics.specs.Steps.{Make}
use Rattle.semantics.specs.Evaluation.{Evaluator, Fork, both_of}
use Rattle.terms.specs.Gives.{Gives}
use Rattle.terms.specs.declared.table.Table.{Table}
use Rattle.parts.specs.declared.Sides.{Sides}
use Rattle.parts.specs.declared.Sides.TheVariants.{Alone, Both}
use Rattle.parts.specs.declared.Forked.{Forked}

-- The step m from the table s is refused as r says, or else goes on as the step l of r's answer does from the table y. It does so for every
-- b, which is what the code does not know: the evaluator of the parts.
pub record Onward {A B T : Type 0} (m : B → Make A) (l : T → B → Make A) (s : Table) (r : Result T Refusal) (y : Table) : Type 0 where
  pub stops : (b : B) {k : Refusal} → r ≡ Err k → (u : ℕ) → Gives (m b) s u (Err k) y
  pub goes : (b : B) {t : T} → r ≡ Ok t → {u : ℕ} {x : Result A Refusal} {z : Table} → Gives (l t b) y u x z → Gives (m b) s u x z

-- an if once its test is made: one branch alone, or both
abbrev pub tested : ℕ → ℕ → ℕ → Sides → Evaluator × State → Make Ending
tested q r env (Alone part) b = b.0 part env b.1
tested q r env (Both g) b = both_of b.0 g q r env b.1

abbrev pub forked : Forked → Fork
forked f = record { guard = f.guard; yes = f.yes; no = f.no }
