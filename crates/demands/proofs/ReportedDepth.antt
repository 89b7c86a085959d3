-- The reported depth of every call: the smallest allowance with which it gives what it gives. Assumes nothing.
use mathlib.Core.Path.{◌≡◌, refl, sym, ap, subst, ◌∙◌}
use mathlib.Core.Bool.{Bool, true, false, ◌||◌}
use mathlib.Core.List.{List}
use Prim.Native.Nat.{ℕ, ◌-◌, ◌≤◌}
use native.Mathlib.Omega.{arith}
use lib.Dec.{eqb, ltb}
use lib.ListN.{length}
use borrow.Author.Tests.{ne_eqb, le-ltb, ltb-false, eqb-false}
use Rattle.notation.specs.Notation.{pick, when◌then◌else◌}
use Rattle.semantics.specs.declared.Term.{Term}
use Rattle.semantics.specs.declared.State.{State}
use Rattle.semantics.specs.declared.Result.{Result}
use Rattle.semantics.specs.declared.Session.{Session}
use Rattle.semantics.specs.declared.Answer.{Answer}
use Rattle.semantics.specs.declared.Answer.TheVariants.{Out, Halt, Refused}
use Rattle.semantics.specs.declared.Evaluated.{Evaluated}
use Rattle.semantics.specs.Numbers.{allowance_limit}
use Rattle.semantics.specs.Terms.{terms_in}
use Rattle.semantics.specs.Steps.{setting_of, Got, gave, refused}
use Rattle.semantics.specs.Opening.{opening}
use Rattle.semantics.specs.Evaluate.{refused_by, halted_again, left, bad_depth}
use Rattle.typing.proofs.Formed.{never}
use Rattle.depth.proofs.Depth.{depth_within, depth_enough, depth_least, depth_some}
use Rattle.demands.specs.Demand1.{first_failed, ruling}
use Rattle.demands.specs.ReportedDepth.{Reports, of_value, of_halt, Smallest, ReportedDepth}
use Rattle.demands.proofs.Answers.{Answered, failed, again, goes, answered, passed}
use Rattle.demands.proofs.Ruling.{evaluated_ruled, first_same, again_at, goes_at}

-- ---- an allowance below one that 8 takes
allowed : (a : ℕ) → bad_depth a ≡ false → (1 ≤ a) × (a ≤ allowance_limit)
unfolding bad_depth
allowed a = go (eqb a 0) (ltb allowance_limit a) refl refl
  where
    go : (b c : Bool) → eqb a 0 ≡ b → ltb allowance_limit a ≡ c → (b || c) ≡ false → (1 ≤ a) × (a ≤ allowance_limit)
    go true c p q e = never (sym e)
    go false true p q e = never (sym e)
    go false false p q e = let n = eqb-false a 0 p in (some n, omega (arith, ltb-false allowance_limit a q))
      where
        some : (a ≡ 0 → ⊥) → 1 ≤ a
        some n = omega (arith, n)

taken_below : (a d : ℕ) → bad_depth a ≡ false → 1 ≤ d → d ≤ a → bad_depth d ≡ false
unfolding bad_depth
taken_below a d h l m = let k = allowed a h in rw (ne_eqb d 0 (λ e. omega arith), le-ltb allowance_limit d (omega arith))

-- a refusal reports no depth
refused_none : {P : Type 0} {a : Answer} {n d : ℕ} → Reports a d → a ≡ Refused n → P
refused_none of_value e = let z : ◌≡◌ {A = ℕ} 0 1 = cc in absurd (omega arith)
refused_none of_halt e = let z : ◌≡◌ {A = ℕ} 0 1 = cc in absurd (omega arith)

-- the depth in an answer
value_reports : {a : Answer} {d : ℕ} (y : State) (v u : ℕ) → Reports a d → a ≡ Out y v u → u ≡ d
value_reports y v u of_value e = cc
value_reports y v u of_halt e = let z : ◌≡◌ {A = ℕ} 0 1 = cc in absurd (omega arith)

halt_reports : {a : Answer} {d : ℕ} (y : State) (u : ℕ) → Reports a d → a ≡ Halt y u → u ≡ d
halt_reports y u of_value e = let z : ◌≡◌ {A = ℕ} 0 1 = cc in absurd (omega arith)
halt_reports y u of_halt e = cc

-- ---- a call that is accepted
module _ (rule : List ℕ) (x : Session) (s : List ℕ) where
  module _ (a : ℕ) (z : first_failed rule a x s ≡ 0) where
    taken : bad_depth a ≡ false
    taken = (passed rule a x s z).allowed

    passes : (d : ℕ) → 1 ≤ d → d ≤ a → first_failed rule d x s ≡ 0
    passes d l m = first_same rule x s d a (taken_below a d taken l m) taken ∙ z

    -- a halted session reports 1
    again_smallest : x.halted ≡ true → (d : ℕ) → Reports (halted_again x s).0.answer d → Smallest rule a x s d
    unfolding halted_again
    again_smallest h d of_halt =
        let k = allowed a taken in
        record {
          some = omega arith;
          within = k.0;
          enough = again_at rule x s 1 (passes 1 (omega arith) k.0) h ∙ sym (again_at rule x s a z h);
          no_less = λ l. absurd (omega arith);
        }

    module _ (h : x.halted ≡ false) where
      -- a result reports the depth that the rules used
      ruled_smallest : {us : List Term} {w : Result} {u : ℕ} → ruling rule a x s ≡ gave us w u → Smallest rule a x s u
      unfolding refused_by
      ruled_smallest {us} {w} {u} e =
          let b = x.accepted in let v = (opening x.inputs).environment in let y = x.state in let t = setting_of (length s) in let ts = terms_in s x.count in
          let l = depth_some rule b 0 v y t ts a e in let m = depth_within rule b 0 v y t ts a e in
          record {
            some = l;
            within = m;
            enough = goes_at rule x s u (passes u l m) h ∙ (ap (left x s) (depth_enough rule b 0 v y t ts a e ∙ sym e) ∙ sym (goes_at rule x s a z h));
            no_less = λ k. goes_at rule x s (u - 1) (passes (u - 1) (omega arith) (omega arith)) h ∙ ap (left x s) (depth_least rule b 0 v y t ts a e (u - 1) (omega arith));
          }

      left_smallest : (g : Got Result) → ruling rule a x s ≡ g → (d : ℕ) → Reports (left x s g).0.answer d → Smallest rule a x s d
      unfolding refused_by when◌then◌else◌
      left_smallest (gave us w u) e d r = go w.halted r
        where
          go : (b : Bool) → Reports (pick b (Halt w.state u) (Out w.state w.value u)) d → Smallest rule a x s d
          go true q = subst (Smallest rule a x s) (halt_reports _ _ q refl) (ruled_smallest e)
          go false q = subst (Smallest rule a x s) (value_reports _ _ _ q refl) (ruled_smallest e)
      left_smallest (refused k) e d r = refused_none r refl

pub reported_depth : ReportedDepth
unfolding refused_by
reported_depth rule a x s d r = go _ _ refl (answered rule a x s) r
  where
    go : (n : ℕ) (o : Evaluated × List ℕ) → first_failed rule a x s ≡ n → Answered rule a x s n o → Reports o.0.answer d → Smallest rule a x s d
    go n o z (failed l q) k = refused_none k (ap (λ p. p.0.answer) q)
    go n o z (again i h q) k = again_smallest rule x s a (z ∙ i) h d (subst (λ p. Reports p.0.answer d) q k)
    go n o z (goes i h q) k = left_smallest rule x s a (z ∙ i) h (ruling rule a x s) refl d (subst (λ p. Reports p.0.answer d) (q ∙ evaluated_ruled rule a x s) k)
