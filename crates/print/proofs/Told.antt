-- An accepted rule leaves no more terms than a table has, so that the lines fit. Assumes nothing.
use mathlib.Core.Path.{◌≡◌, refl}
use mathlib.Core.Bool.{Bool, true, false}
use mathlib.Core.List.{List}
use Prim.Native.Nat.{ℕ, ◌≤◌}
use native.Mathlib.Omega.{arith}
use lib.Dec.{ltb, leb}
use lib.ListN.{length}
use borrow.Author.Tests.{ltb-false}
use Rattle.notation.specs.Notation.{pick, with, when◌then◌else◌, if◌below◌then◌else◌, unless◌then◌else◌}
use Rattle.semantics.specs.declared.Term.{Term}
use Rattle.semantics.specs.declared.Result.{Result}
use Rattle.semantics.specs.declared.Session.{Session}
use Rattle.semantics.specs.declared.Evaluated.{Evaluated}
use Rattle.semantics.specs.Numbers.{input_count, term_limit, misfit, bad_allowance, rules_spent, rule_limit}
use Rattle.semantics.specs.Rules.{rule_refusal_of}
use Rattle.semantics.specs.Terms.{terms_in}
use Rattle.semantics.specs.Steps.{Got}
use Rattle.semantics.specs.Opening.{opening}
use Rattle.semantics.specs.Fits.{fits_of}
use Rattle.semantics.specs.Answers.{answer_of}
use Rattle.semantics.specs.Evaluate.{refused_by, halted_again, left, evaluated, bad_depth, evaluate_of}
use Rattle.typing.proofs.Does.{Post, did, not_did}
use Rattle.soundness.proofs.Evaluation.{eval_does}
use Rattle.sessions.proofs.Facts.{fitting}
use Rattle.typing.proofs.Ruled.{ruled}
use Rattle.lines.specs.Room.{Told}

answer_told : (r : Result) (d n : ℕ) → n ≤ term_limit → Told (answer_of r d) n
unfolding when◌then◌else◌
answer_told r d n h = go r.halted refl
  where
    go : (b : Bool) → r.halted ≡ b → Told (answer_of r d) n
    go true e = rw e h
    go false e = rw e h

module _ (rule : List ℕ) (allowance : ℕ) (x : Session) (s : List ℕ) (n : length x.inputs ≡ input_count) where
  abbrev Fine : Evaluated × List ℕ → Type 0
  Fine e = Told e.0.answer e.0.session.count

  refused_fine : (k : ℕ) → Fine (refused_by k x s)
  unfolding refused_by
  refused_fine k = tt

  module _ (h : fits_of x s ≡ true) where
    halted_fine : Fine (halted_again x s)
    unfolding halted_again
    halted_fine = let q = fitting x s n h in let a = q.room in let b = q.size.most in omega arith

    evaluated_fine : rule_refusal_of rule ≡ 0 → Fine (evaluated rule allowance x s)
    unfolding evaluated
    evaluated_fine r =
        let q = fitting x s n h in
        go _ _ (eval_does (length s) x.accepted rule (ruled rule r) allowance (terms_in s x.count) 0 (opening x.inputs).environment x.state q.fit q.environment q.state).post
      where
        go : {K : List Term → Type 0} {m : ℕ} {ts : List Term} {Q : List Term → Result → Type 0} {N : ℕ → Type 0} (w y : Got Result) → Post K m ts Q N w y → Fine (left x s y)
        go w y (did {us = us} {a = a} {u = u} g q) = answer_told a u (length us) g.fit.short
        go w y (not_did _) = refused_fine _

    accepted_fine : (k : ℕ) → rule_refusal_of rule ≡ k → Fine ((if 0 below k then refused_by k else when bad_depth allowance then refused_by bad_allowance else
        when leb rule_limit x.accepted then refused_by rules_spent else when x.halted then halted_again else evaluated rule allowance) x s)
    unfolding if◌below◌then◌else◌ when◌then◌else◌
    accepted_fine k ek = go (ltb 0 k) (bad_depth allowance) (leb rule_limit x.accepted) x.halted refl
      where
        go : (a b c d : Bool) → ltb 0 k ≡ a → Fine (pick a (refused_by k) (pick b (refused_by bad_allowance) (pick c (refused_by rules_spent) (pick d halted_again (evaluated rule allowance)))) x s)
        go true b c d e = refused_fine k
        go false true c d e = refused_fine bad_allowance
        go false false true d e = refused_fine rules_spent
        go false false false true e = halted_fine
        go false false false false e = let z : k ≡ 0 = omega (arith, ltb-false 0 k e) in evaluated_fine (rw z at ek)

  all_fine : Fine (evaluate_of rule allowance x s)
  unfolding evaluate_of unless◌then◌else◌ with
  all_fine = go (fits_of x s) refl
    where
      go : (b : Bool) → fits_of x s ≡ b → Fine (evaluate_of rule allowance x s)
      go true e = rw e (accepted_fine e (rule_refusal_of rule) refl)
      go false e = rw e (refused_fine misfit)

  pub evaluation_told : {r : Evaluated} {y : List ℕ} → ◌≡◌ {A = Evaluated × List ℕ} (r, y) (evaluate_of rule allowance x s) → Told r.answer r.session.count
  evaluation_told e = rw (← e) at all_fine
