-- Four slices that are zero. Assumes nothing.
use Rattle.std.specs.Prelude.{ℕ, Bool, ◌&&◌, List}
use Rattle.notation.specs.Notation.{every}
use Rattle.semantics.specs.Fits.{is_zero}

abbrev pub four_zero : List ℕ → List ℕ → List ℕ → List ℕ → Bool
four_zero x y z w = every is_zero x && (every is_zero y && (every is_zero z && every is_zero w))
