-- Sixteen numbers for sixteen inputs, tested as pairs. Assumes nothing.
use Rattle.std.specs.Prelude.{◌≡◌, ℕ, true, ◌&&◌, List, [], ◌∷◌, ltb}
use Rattle.std.proofs.Common.{refl, ap}
use Rattle.std.specs.List.{zip, list_all}
use Rattle.notation.specs.Notation.{if◌equals◌then◌else◌}
use Rattle.semantics.specs.declared.Input.{Input}
use Rattle.semantics.specs.Numbers.{free_truth}
use Rattle.semantics.specs.Reading.{numbers_taken}
use Rattle.reading_tests.specs.Taken.{number_taken}

pub taken_pairs : (xs : List Input) (ns : List ℕ) → list_all (λ p. number_taken p.0 p.1) (zip xs ns) ≡ numbers_taken xs ns
unfolding numbers_taken number_taken
taken_pairs [] ns = refl
taken_pairs (x ∷ xs) [] = refl
taken_pairs (x ∷ xs) (n ∷ ns) = ap (λ b. (if x.kind equals free_truth then ltb n 2 else true) && b) (taken_pairs xs ns)
