-- DEMAND 1, of every call. Assumes nothing.
use mathlib.Core.Path.{◌≡◌, refl, sym, ap, subst, ◌∙◌}
use mathlib.Core.Bool.{Bool, true, false}
use mathlib.Core.List.{List}
use Prim.Native.Nat.{ℕ, ◌<◌}
use native.Mathlib.Omega.{arith}
use lib.ListN.{length}
use Rattle.notation.specs.Notation.{pick, when◌then◌else◌}
use Rattle.semantics.specs.declared.Result.{Result}
use Rattle.semantics.specs.declared.Session.{Session}
use Rattle.semantics.specs.declared.Answer.{Answer}
use Rattle.semantics.specs.declared.Answer.TheVariants.{Out, Halt, Refused}
use Rattle.semantics.specs.declared.Evaluated.{Evaluated}
use Rattle.semantics.specs.Terms.{terms_in}
use Rattle.semantics.specs.Steps.{setting_of, Got, gave, refused}
use Rattle.semantics.specs.Opening.{opening}
use Rattle.semantics.specs.Answers.{answer_of}
use Rattle.semantics.specs.Evaluate.{refused_by, halted_again, left}
use Rattle.demands.specs.Demand1.{ruling, Ends, value, halt, again, too_wide, full, spent, Demand1}
use Rattle.demands.proofs.Refusals.{Known, result, eval_known, too_wide as known-wide, full as known-full, spent as known-spent}
use Rattle.demands.proofs.Answers.{Answered, failed, again as again-answered, goes, answered}
use Rattle.demands.proofs.Ruling.{evaluated_ruled}

-- ---- answers that differ
pub out_refused : {P : Type 0} (w : Result) (u n : ℕ) → answer_of w u ≡ Refused n → P
unfolding when◌then◌else◌
out_refused {P} w u n = go w.halted
  where
    go : (b : Bool) → pick b (Halt w.state u) (Out w.state w.value u) ≡ Refused n → P
    go true e = let z : ◌≡◌ {A = ℕ} 0 1 = cc in absurd (omega arith)
    go false e = let z : ◌≡◌ {A = ℕ} 0 1 = cc in absurd (omega arith)

pub refused_same : {n m : ℕ} → ◌≡◌ {A = Answer} (Refused n) (Refused m) → n ≡ m
refused_same e = cc

module _ (rule : List ℕ) (allowance : ℕ) (x : Session) (s : List ℕ) where
  -- ---- how a call ends that the tests pass
  result_ends : x.halted ≡ false → (g : Got Result) → ruling rule allowance x s ≡ g → Known g → Ends rule allowance x s (left x s g).0.answer
  unfolding refused_by when◌then◌else◌
  result_ends h (gave us w u) e result = go w.halted refl
    where
      go : (b : Bool) → w.halted ≡ b → Ends rule allowance x s (pick b (Halt w.state u) (Out w.state w.value u))
      go true q = halt h e q
      go false q = value h e q
  result_ends h (refused k) e known-wide = too_wide h e
  result_ends h (refused k) e known-full = full h e
  result_ends h (refused k) e known-spent = spent h e

  known : Known (ruling rule allowance x s)
  known = eval_known rule x.accepted allowance 0 (opening x.inputs).environment x.state (setting_of (length s)) (terms_in s x.count)

  again_ends : x.halted ≡ true → Ends rule allowance x s (halted_again x s).0.answer
  unfolding halted_again
  again_ends h = again h

  takes : (n : ℕ) (o : Evaluated × List ℕ) → n ≡ 0 → Answered rule allowance x s n o → Ends rule allowance x s o.0.answer
  takes n o z (failed l e) = absurd (omega arith)
  takes n o z (again-answered i h e) = subst (λ p. Ends rule allowance x s p.0.answer) (sym e) (again_ends h)
  takes n o z (goes i h e) = subst (λ p. Ends rule allowance x s p.0.answer) (sym (e ∙ evaluated_ruled rule allowance x s)) (result_ends h (ruling rule allowance x s) refl known)

  -- ---- what a test that fails answers
  refuses : (m : ℕ) (o : Evaluated × List ℕ) (n : ℕ) → m ≡ n → 0 < n → Answered rule allowance x s m o → o.0.answer ≡ Refused n
  unfolding refused_by
  refuses m o n e l (failed i q) = ap (λ p. p.0.answer) q ∙ ap Refused e
  refuses m o n e l (again-answered i h q) = absurd (omega arith)
  refuses m o n e l (goes i h q) = absurd (omega arith)

  -- ---- what a refusal leaves
  refused_left : (g : Got Result) (n : ℕ) → (left x s g).0.answer ≡ Refused n → left x s g ≡ refused_by n x s
  unfolding refused_by
  refused_left (gave us w u) n e = out_refused w u n e
  refused_left (refused k) n e = ap (λ m. refused_by m x s) (refused_same e)

  again_left : (n : ℕ) → (halted_again x s).0.answer ≡ Refused n → halted_again x s ≡ refused_by n x s
  unfolding halted_again
  again_left n e = let z : ◌≡◌ {A = ℕ} 0 1 = cc in absurd (omega arith)

  by_number : (k n : ℕ) → (refused_by k x s).0.answer ≡ Refused n → refused_by k x s ≡ refused_by n x s
  unfolding refused_by
  by_number k n e = ap (λ m. refused_by m x s) (refused_same e)

  leaves : (m : ℕ) (o : Evaluated × List ℕ) (n : ℕ) → Answered rule allowance x s m o → o.0.answer ≡ Refused n → o ≡ refused_by n x s
  leaves m o n (failed i q) e = q ∙ by_number m n (sym (ap (λ p. p.0.answer) q) ∙ e)
  leaves m o n (again-answered i h q) e = q ∙ again_left n (sym (ap (λ p. p.0.answer) q) ∙ e)
  leaves m o n (goes i h q) e =
      let w = q ∙ evaluated_ruled rule allowance x s in w ∙ refused_left (ruling rule allowance x s) n (sym (ap (λ p. p.0.answer) w) ∙ e)

  pub demand_1 : Demand1 rule allowance x s
  unfolding refused_by
  demand_1 =
      record {
        taken = λ z. takes _ _ z (answered rule allowance x s);
        refused_by_lem = λ n e l. refuses _ _ n e l (answered rule allowance x s);
        untouched = λ n e. leaves _ _ n (answered rule allowance x s) e;
      }
