-- Test 13 of one input. Assumes nothing.
use Rattle.std.specs.Prelude.{Bool, true, ℕ, ltb}
use Rattle.notation.specs.Notation.{if◌equals◌then◌else◌}
use Rattle.semantics.specs.declared.Input.{Input}
use Rattle.semantics.specs.Numbers.{free_truth}

-- 13, of one input: "a free truth given a number over 1" is not taken
unfoldable pub number_taken : Input → ℕ → Bool
number_taken x n = if x.kind equals free_truth then ltb n 2 else true
