-- `boxes::possible`: the ranges rule the goal out. Assumes nothing.
use native.Mathlib.Numerals.{unary_clauses}
use Rattle.boxes.proofs.Ranged.{not_reached}
use Rattle.boxes.proofs.possible.Goals as goal

pub returns-clause-ruled_out : goal.returns-clause-ruled_out
returns-clause-ruled_out c = λ e. not_reached _ _ _ _ _ _ c.requires.marked c.fill.ensures (simp unary_clauses at c.goal_held.ensures) e
