-- A literal's text by its number: an even number is positive. Assumes nothing.
use mathlib.Core.Path.{◌≡◌, subst}
use mathlib.Core.List.{[], ◌∷◌, ◌++◌}
use Prim.Native.Nat.{ℕ, ◌/◌, ◌%◌}
use borrow.Author.Tests.{ne_eqb}
use Rattle.notation.specs.Notation.{if◌equals◌then◌else◌}
use Rattle.text.specs.Text.{space, decimal_of}
use Rattle.cursor.specs.declared.Cursor.{Cursor}
use Rattle.cursor.specs.Sink.{Writes}
use Rattle.cursor.proofs.Writing.{onward, said}
use Rattle.dimacs.specs.Text.{minus, literal_text}
use Rattle.gates.specs.Slots.{as_literal}

module _ (l : ℕ) {c m d : Cursor} (p : Writes (decimal_of (l / 2) ++ (space ∷ [])) m d) where
  pub positive : l % 2 ≡ 0 → m ≡ c → Writes (literal_text (as_literal l)) c d
  unfolding literal_text as_literal if◌equals◌then◌else◌
  positive h e = said (subst (λ x. Writes (decimal_of (l / 2) ++ (space ∷ [])) x d) e p) (rw h)

  pub negative : (l % 2 ≡ 0 → ⊥) → {k : Cursor} → Writes (minus ∷ []) c k → m ≡ k → Writes (literal_text (as_literal l)) c d
  unfolding literal_text as_literal if◌equals◌then◌else◌
  negative h w e = said (onward w (subst (λ x. Writes (decimal_of (l / 2) ++ (space ∷ [])) x d) e p)) (rw (ne_eqb (l % 2) 0 h))
