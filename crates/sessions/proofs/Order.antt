-- The refusals of an evaluation in their order, and what comes after them. Assumes nothing.
use mathlib.Core.Path.{◌≡◌, sym}
use mathlib.Core.Bool.{Bool, true, false}
use mathlib.Core.List.{List}
use Prim.Native.Nat.{ℕ, ◌<◌, ◌≤◌}
use native.Mathlib.Omega.{arith}
use lib.Dec.{eqb}
use borrow.Author.Tests.{eqb-false, lt-ltb, le-ltb, le-leb, lt-leb}
use Rattle.notation.specs.Notation.{pick, with, when◌then◌else◌, if◌below◌then◌else◌, unless◌then◌else◌}
use Rattle.semantics.specs.declared.Session.{Session}
use Rattle.semantics.specs.declared.refusal.Refusal.{Refusal}
use Rattle.semantics.specs.Refusals.{number_of}
use Rattle.semantics.specs.declared.Answer.TheVariants.{Refused}
use Rattle.semantics.specs.declared.Evaluated.{Evaluated}
use Rattle.semantics.specs.Numbers.{misfit, bad_allowance, rules_spent, rule_limit}
use Rattle.semantics.specs.Rules.{rule_refusal_of}
use Rattle.semantics.specs.Fits.{fits_of}
use Rattle.typing.proofs.Formed.{never}
use Rattle.semantics.specs.Evaluate.{refused_by, halted_again, evaluated, bad_depth, evaluate_of}

-- no refusal has the number 0
pub number_above : (k : Refusal) → 0 < number_of k
number_above k = let e : eqb (number_of k) 0 ≡ false = grind arith in omega (arith, eqb-false _ _ e)

-- a refusal with its number
abbrev Refuses : ℕ → Session → List ℕ → List ℕ → ℕ → Type 0
Refuses k x s rule allowance = ◌≡◌ {A = Evaluated × List ℕ} (record { answer = Refused k; session = x }, s) (evaluate_of rule allowance x s)

module _ (x : Session) (s rule : List ℕ) (allowance : ℕ) {b : Bool} (eb : b ≡ fits_of x s) where
  pub refused_misfit : b ≡ false → Refuses misfit x s rule allowance
  unfolding evaluate_of refused_by unless◌then◌else◌
  refused_misfit h = rw (← eb, h)

  module _ (h : b ≡ true) {k : ℕ} (ek : k ≡ rule_refusal_of rule) where
    pub refused_rule : 0 < k → Refuses k x s rule allowance
    unfolding evaluate_of refused_by unless◌then◌else◌ with if◌below◌then◌else◌
    refused_rule l = rw (← eb, h, ← ek, lt-ltb _ _ l)

    module _ (l : k ≤ 0) {d : Bool} (ed : d ≡ bad_depth allowance) where
      pub refused_allowance : d ≡ true → Refuses bad_allowance x s rule allowance
      unfolding evaluate_of refused_by unless◌then◌else◌ with if◌below◌then◌else◌ when◌then◌else◌
      refused_allowance i = rw (← eb, h, ← ek, le-ltb _ _ l, ← ed, i)

      module _ (i : d ≡ false) where
        pub refused_spent : rule_limit ≤ x.accepted → Refuses rules_spent x s rule allowance
        unfolding evaluate_of refused_by unless◌then◌else◌ with if◌below◌then◌else◌ when◌then◌else◌
        refused_spent m = rw (← eb, h, ← ek, le-ltb _ _ l, ← ed, i, le-leb _ _ m)

        module _ (m : x.accepted < rule_limit) {v : Evaluated × List ℕ} where
          pub answered_halt : x.halted ≡ true → v ≡ halted_again x s → v ≡ evaluate_of rule allowance x s
          unfolding evaluate_of unless◌then◌else◌ with if◌below◌then◌else◌ when◌then◌else◌
          answered_halt j e = rw (← eb, h, ← ek, le-ltb _ _ l, ← ed, i, lt-leb _ _ m) (go x.halted j)
            where
              go : (a : Bool) → a ≡ true → v ≡ pick a halted_again (evaluated rule allowance) x s
              go true p = e
              go false p = never p

          pub answered : x.halted ≡ false → v ≡ evaluated rule allowance x s → v ≡ evaluate_of rule allowance x s
          unfolding evaluate_of unless◌then◌else◌ with if◌below◌then◌else◌ when◌then◌else◌
          answered j e = rw (← eb, h, ← ek, le-ltb _ _ l, ← ed, i, lt-leb _ _ m) (go x.halted j)
            where
              go : (a : Bool) → a ≡ false → v ≡ pick a halted_again (evaluated rule allowance) x s
              go true p = never (sym p)
              go false p = e
