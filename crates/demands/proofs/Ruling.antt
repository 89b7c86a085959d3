-- What the rules give of a call's session and table: it is what the call answers, it only adds terms, and the table has room for them. Assumes nothing.
use mathlib.Core.Path.{◌≡◌, refl, sym, ◌∙◌}
use mathlib.Core.Bool.{Bool, true, false, not}
use mathlib.Core.List.{List}
use Prim.Native.Nat.{ℕ, ◌*◌, ◌≤◌}
use native.Mathlib.Omega.{arith}
use lib.ListN.{length}
use lib.Dec.{leb}
use borrow.Author.Tests.{leb-true}
use Rattle.notation.specs.Notation.{pick, when◌then◌else◌, unless◌then◌else◌, every}
use Rattle.semantics.specs.declared.Term.{Term}
use Rattle.semantics.specs.declared.Result.{Result}
use Rattle.semantics.specs.declared.Session.{Session}
use Rattle.semantics.specs.declared.Evaluated.{Evaluated}
use Rattle.semantics.specs.Numbers.{misfit}
use Rattle.semantics.specs.Records.{records_in}
use Rattle.semantics.specs.Terms.{terms_in}
use Rattle.semantics.specs.Steps.{room_of, gave}
use Rattle.semantics.specs.Opening.{bad_table_size, input_taken, opening}
use Rattle.semantics.specs.Fits.{fits_of}
use Rattle.semantics.specs.Evaluate.{halted_again, left, evaluated, bad_depth, evaluate_of}
use Rattle.terms.proofs.Tables.{terms_length}
use Rattle.typing.proofs.Grown.{Grown}
use Rattle.typing.proofs.Formed.{never, both}
use Rattle.opening.proofs.Opened.{sized}
use Rattle.demands.specs.Demand1.{first_failed, ruling}
use Rattle.demands.proofs.Answers.{Answered, failed, again, goes, answered}
use Rattle.demands.proofs.Longer.{adds_grown, adds_within, eval_adds}

-- ---- a table that test 3 takes has room for its terms
fits_room : (x : Session) (s : List ℕ) → fits_of x s ≡ true → x.count ≤ room_of (length s)
unfolding fits_of
fits_room x s h =
    both (not (bad_table_size (length s))) _ h λ z h. both (every input_taken x.inputs) _ h λ t h. both (leb (length (opening x.inputs).terms) x.count) _ h λ a h.
    both (leb x.count (records_in s)) _ h λ b h.
    let m = (sized (length s) (not_not _ z)).most in let n = leb-true x.count (records_in s) b in omega arith
  where
    not_not : (b : Bool) → not b ≡ true → b ≡ false
    not_not true e = never e
    not_not false e = refl

-- where no test fails, the session and table fit
pub first_fits : (rule : List ℕ) (allowance : ℕ) (x : Session) (s : List ℕ) → first_failed rule allowance x s ≡ 0 → fits_of x s ≡ true
unfolding first_failed unless◌then◌else◌
first_fits rule allowance x s = go (fits_of x s) _
  where
    go : (f : Bool) (n : ℕ) → pick f n misfit ≡ 0 → f ≡ true
    go true n e = refl
    go false n e = absurd (omega arith)

-- the tests before the rules ask of an allowance only that 8 takes it
pub first_same : (rule : List ℕ) (x : Session) (s : List ℕ) (d e : ℕ) → bad_depth d ≡ false → bad_depth e ≡ false → first_failed rule d x s ≡ first_failed rule e x s
unfolding first_failed when◌then◌else◌
first_same rule x s d e p q = rw (p, q)

module _ (rule : List ℕ) (allowance : ℕ) (x : Session) (s : List ℕ) where
  pub evaluated_ruled : evaluated rule allowance x s ≡ left x s (ruling rule allowance x s)
  unfolding evaluated
  evaluated_ruled = refl

  module _ {us : List Term} {w : Result} {u : ℕ} (e : ruling rule allowance x s ≡ gave us w u) (f : fits_of x s ≡ true) where
    pub ruled_grown : Grown (terms_in s x.count) us
    ruled_grown = adds_grown (eval_adds rule x.accepted allowance 0 (opening x.inputs).environment x.state (room_of (length s)) (terms_in s x.count) e)

    pub ruled_room : length us * 8 ≤ length s
    ruled_room =
        let r = fits_room x s f in let n = terms_length s x.count in
        let a = adds_within (eval_adds rule x.accepted allowance 0 (opening x.inputs).environment x.state (room_of (length s)) (terms_in s x.count) e) (omega arith) in
        omega arith

-- ---- a call that the tests before the rules pass, on a halted session and on one that is not
module _ (rule : List ℕ) (x : Session) (s : List ℕ) where
  pub again_at : (d : ℕ) → first_failed rule d x s ≡ 0 → x.halted ≡ true → evaluate_of rule d x s ≡ halted_again x s
  again_at d z h = go _ _ z (answered rule d x s)
    where
      go : (n : ℕ) (o : Evaluated × List ℕ) → n ≡ 0 → Answered rule d x s n o → o ≡ halted_again x s
      go n o z (failed l q) = absurd (omega arith)
      go n o z (again i k q) = q
      go n o z (goes i k q) = never (sym k ∙ h)

  pub goes_at : (d : ℕ) → first_failed rule d x s ≡ 0 → x.halted ≡ false → evaluate_of rule d x s ≡ left x s (ruling rule d x s)
  goes_at d z h = go _ _ z (answered rule d x s)
    where
      go : (n : ℕ) (o : Evaluated × List ℕ) → n ≡ 0 → Answered rule d x s n o → o ≡ left x s (ruling rule d x s)
      go n o z (failed l q) = absurd (omega arith)
      go n o z (again i k q) = never (sym h ∙ k)
      go n o z (goes i k q) = q ∙ evaluated_ruled rule d x s
