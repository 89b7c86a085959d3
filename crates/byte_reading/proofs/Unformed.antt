-- A result whose form is broken is refused by 14 in its turn: where session and table fit and 13 does not refuse. Assumes nothing.
use mathlib.Core.Path.{◌≡◌}
use mathlib.Core.Bool.{true, false}
use mathlib.Core.List.{List}
use Prim.Native.Nat.{ℕ}
use native.Mathlib.Omega.{arith}
use Rattle.notation.specs.Notation.{when◌then◌else◌, if◌equals◌then◌else◌, unless◌then◌else◌}
use Rattle.semantics.specs.declared.Session.{Session}
use Rattle.semantics.specs.declared.Outcome.TheVariants.{Refused}
use Rattle.semantics.specs.Numbers.{bad_result}
use Rattle.semantics.specs.Terms.{terms_in, sort_of, names_truth}
use Rattle.semantics.specs.Fits.{fits_of}
use Rattle.semantics.specs.Reading.{numbers_taken, result_taken, read_outcome, read_of}
use Rattle.terms.proofs.Tables.{at_high}
use Rattle.fitting.proofs.Few.{few_terms}
use Rattle.forms.specs.Forms.{result_formed, no_term, result_in}

module _ (x : Session) (s : List ℕ) (fits : fits_of x s ≡ true) where
  no_truth : names_truth (terms_in s x.count) no_term ≡ false
  unfolding names_truth sort_of if◌equals◌then◌else◌
  no_truth = let l = few_terms x s fits in rw (← at_high s x.count no_term (omega arith))

  pub unformed_refused : (numbers result work : List ℕ) → numbers_taken x.inputs numbers ≡ true → result_formed result ≡ false → (read_of x s numbers (result_in result) work).0 ≡ Refused bad_result
  unfolding read_of read_outcome result_taken result_in when◌then◌else◌ unless◌then◌else◌
  unformed_refused numbers result work taken broken = rw (fits, taken, broken, no_truth)
