-- A session and a table that fit have no more terms than a table can hold. Assumes nothing.
use mathlib.Core.Path.{◌≡◌, refl}
use mathlib.Core.Bool.{Bool, true, false, not}
use mathlib.Core.List.{List}
use Prim.Native.Nat.{ℕ, ◌≤◌}
use native.Mathlib.Omega.{arith}
use lib.Dec.{leb}
use lib.ListN.{length}
use borrow.Author.Tests.{leb-true}
use Rattle.notation.specs.Notation.{every}
use Rattle.semantics.specs.declared.Session.{Session}
use Rattle.semantics.specs.Numbers.{term_limit}
use Rattle.semantics.specs.Records.{records_in}
use Rattle.semantics.specs.Opening.{bad_table_size, input_taken, opening}
use Rattle.semantics.specs.Fits.{fits_of}
use Rattle.typing.proofs.Formed.{both, never}
use Rattle.opening.proofs.Opened.{sized}

pub few_terms : (x : Session) (s : List ℕ) → fits_of x s ≡ true → x.count ≤ term_limit
unfolding fits_of
few_terms x s fits =
    both (not (bad_table_size (length s))) _ fits λ z h. both (every input_taken x.inputs) _ h λ t h. both (leb (length (opening x.inputs).terms) x.count) _ h λ a h.
    both (leb x.count (records_in s)) _ h λ b h.
    let m = (sized (length s) (not_not _ z)).most in let n = leb-true x.count (records_in s) b in omega arith
  where
    not_not : (b : Bool) → not b ≡ true → b ≡ false
    not_not true e = never e
    not_not false e = refl
