-- What holds of every evaluation, whatever session and table it is given: it only appends to the table, older terms read the same in a longer one,
-- and a result is the same under any larger allowance and in any longer table. Assumes nothing.
use mathlib.Core.Path.{◌≡◌, refl, sym, ap, ◌∙◌}
use mathlib.Core.Bool.{true, false}
use mathlib.Core.List.{List}
use Prim.Native.Nat.{ℕ, ◌<◌, ◌≤◌}
use native.Mathlib.Omega.{arith}
use lib.ListN.{length}
use Rattle.notation.specs.Notation.{unless◌then◌else◌}
use Rattle.semantics.specs.declared.Term.{Term}
use Rattle.semantics.specs.declared.Result.{Result}
use Rattle.semantics.specs.declared.Session.{Session}
use Rattle.semantics.specs.declared.Answer.TheVariants.{Refused}
use Rattle.semantics.specs.declared.Evaluated.{Evaluated}
use Rattle.semantics.specs.Terms.{terms_in}
use Rattle.semantics.specs.Steps.{setting_of, room_of, Got, gave, refused}
use Rattle.semantics.specs.Opening.{opening}
use Rattle.semantics.specs.Fits.{fits_of}
use Rattle.semantics.specs.Evaluate.{refused_by, halted_again, left, evaluated, bad_depth, evaluate_of}
use Rattle.semantics.specs.Reading.{nothing, term_reading, nth, readings}
use Rattle.terms.proofs.Tables.{terms_length}
use Rattle.typing.proofs.Grown.{Grown, grown_length}
use Rattle.typing.proofs.Formed.{never}
use Rattle.typing.proofs.Folds.{fold_grown}
use Rattle.depth.proofs.Depth.{same_above}
use Rattle.demands.specs.Demand1.{first_failed, ruling}
use Rattle.demands.proofs.Longer.{same_longer}
use Rattle.demands.proofs.Ruling.{evaluated_ruled, first_fits, first_same, ruled_grown, ruled_room}
use Rattle.demands.proofs.Stored.{stored_terms, stored_older}
use Rattle.demands.proofs.Answers.{Answered, failed, again, goes, answered, passed}

-- ---- older terms read the same in a longer table
pub older_read : (ns : List ℕ) {ts us : List Term} → Grown ts us → (k : ℕ) → k < length ts → nth (readings ns us) k ≡ nth (readings ns ts) k
unfolding readings
older_read ns g k h = fold_grown (term_reading ns) nothing k g h

module _ (rule : List ℕ) (allowance : ℕ) (x : Session) (s : List ℕ) where
  record Appends (o : Evaluated × List ℕ) : Type 0 where
    grows : x.count ≤ o.0.session.count
    older : terms_in o.1 x.count ≡ terms_in s x.count

  appends : first_failed rule allowance x s ≡ 0 → (g : Got Result) → ruling rule allowance x s ≡ g → Appends (left x s g)
  unfolding refused_by
  appends z (gave us w u) e =
      let f = first_fits rule allowance x s z in let g = ruled_grown rule allowance x s e f in let l = grown_length g in let n = terms_length s x.count in
      record { grows = omega arith; older = rw n at (stored_older (length s) g (ruled_room rule allowance x s e f)) }
  appends z (refused k) e = record { grows = omega arith; older = refl }

  all_append : Appends (evaluate_of rule allowance x s)
  unfolding evaluated refused_by halted_again
  all_append = go _ _ refl (answered rule allowance x s)
    where
      go : (n : ℕ) (o : Evaluated × List ℕ) → first_failed rule allowance x s ≡ n → Answered rule allowance x s n o → Appends o
      go n o z (failed i q) = rw q (record { grows = omega arith; older = refl })
      go n o z (again i j q) = rw q (record { grows = omega arith; older = refl })
      go n o z (goes i j q) = rw q (appends (z ∙ i) (ruling rule allowance x s) refl)

  -- An evaluation only appends: the terms that there were stay, with their numbers.
  pub only_appends : terms_in (evaluate_of rule allowance x s).1 x.count ≡ terms_in s x.count
  only_appends = all_append.older

  pub count_grows : x.count ≤ (evaluate_of rule allowance x s).0.session.count
  count_grows = all_append.grows

-- ---- an answer that is no refusal
abbrev Accepts : Evaluated × List ℕ → Type 0
Accepts o = (n : ℕ) → o.0.answer ≡ Refused n → ⊥

refuses : {P : Type 0} (n : ℕ) (x : Session) (s : List ℕ) (o : Evaluated × List ℕ) → Accepts o → o ≡ refused_by n x s → P
unfolding refused_by
refuses n x s o h q = absurd (h n (ap (λ p. p.0.answer) q))

-- ---- the same result under any larger allowance
module _ (rule : List ℕ) (x : Session) (s : List ℕ) (d e : ℕ) (larger : d ≤ e) where
  larger_ruled : (g : Got Result) → ruling rule d x s ≡ g → Accepts (left x s g) → evaluated rule e x s ≡ left x s g
  unfolding evaluated refused_by
  larger_ruled (gave us w u) p h = rw (same_above rule x.accepted 0 (opening x.inputs).environment x.state (setting_of (length s)) (terms_in s x.count) d e larger p)
  larger_ruled (refused k) p h = absurd (h k refl)

  pub same_larger : bad_depth e ≡ false → Accepts (evaluate_of rule d x s) → evaluate_of rule e x s ≡ evaluate_of rule d x s
  same_larger b h = go _ _ _ _ refl refl h (answered rule d x s) (answered rule e x s)
    where
      go : (n m : ℕ) (o p : Evaluated × List ℕ) → first_failed rule d x s ≡ n → first_failed rule e x s ≡ m → Accepts o → Answered rule d x s n o → Answered rule e x s m p → p ≡ o
      go n m o p i j h (failed k q) r = refuses n x s o h q
      go n m o p i j h (again z c q) (failed k r) = let y = first_same rule x s d e (passed rule d x s (i ∙ z)).allowed b in absurd (omega arith)
      go n m o p i j h (again z c q) (again _ _ r) = r ∙ sym q
      go n m o p i j h (again z c q) (goes _ k r) = never (sym k ∙ c)
      go n m o p i j h (goes z c q) (failed k r) = let y = first_same rule x s d e (passed rule d x s (i ∙ z)).allowed b in absurd (omega arith)
      go n m o p i j h (goes z c q) (again _ k r) = never (sym c ∙ k)
      go n m o p i j h (goes z c q) (goes _ _ r) =
          r ∙ (larger_ruled (ruling rule d x s) refl (λ k v. h k (ap (λ t. t.0.answer) (q ∙ evaluated_ruled rule d x s) ∙ v)) ∙ sym (q ∙ evaluated_ruled rule d x s))

-- ---- the same result in any longer table that holds the same terms
module _ (rule : List ℕ) (allowance : ℕ) (x : Session) (s y : List ℕ) (longer : length s ≤ length y) (fits : fits_of x y ≡ true) (terms : terms_in y x.count ≡ terms_in s x.count) where
  -- the same answer and session, and the same terms in both tables
  pub record Alike (o p : Evaluated × List ℕ) : Type 0 where
    pub answers : p.0 ≡ o.0
    pub terms_then : terms_in p.1 o.0.session.count ≡ terms_in o.1 o.0.session.count

  longer_ruled : fits_of x s ≡ true → (g : Got Result) → ruling rule allowance x s ≡ g → Accepts (left x s g) → Alike (left x s g) (evaluated rule allowance x y)
  unfolding evaluated refused_by
  longer_ruled f (gave us w u) e h =
      let z : ruling rule allowance x y ≡ gave us w u = longer_same us w u e in
      let a = ruled_room rule allowance x s e f in
      let b = ruled_room rule allowance x y z fits in
      rw z (record { answers = refl; terms_then = stored_terms (length y) us b ∙ sym (stored_terms (length s) us a) })
    where
      longer_same : (us : List Term) (w : Result) (u : ℕ) → ruling rule allowance x s ≡ gave us w u → ruling rule allowance x y ≡ gave us w u
      longer_same us w u e =
          rw terms (same_longer rule x.accepted allowance 0 (opening x.inputs).environment x.state (room_of (length s)) (terms_in s x.count) e (room_of (length y)) (omega arith))
  longer_ruled f (refused k) e h = absurd (h k refl)

  again_alike : Alike (halted_again x s) (halted_again x y)
  unfolding halted_again
  again_alike = record { answers = refl; terms_then = terms }

  fits_both : fits_of x s ≡ true → first_failed rule allowance x s ≡ first_failed rule allowance x y
  unfolding first_failed unless◌then◌else◌
  fits_both f = rw (f, fits)

  pub same_in_longer : Accepts (evaluate_of rule allowance x s) → Alike (evaluate_of rule allowance x s) (evaluate_of rule allowance x y)
  same_in_longer h = go _ _ _ _ refl refl h (answered rule allowance x s) (answered rule allowance x y)
    where
      go : (n m : ℕ) (o p : Evaluated × List ℕ) → first_failed rule allowance x s ≡ n → first_failed rule allowance x y ≡ m → Accepts o
          → Answered rule allowance x s n o → Answered rule allowance x y m p → Alike o p
      go n m o p i j h (failed k q) r = refuses n x s o h q
      go n m o p i j h (again z c q) (failed k r) = let v = fits_both (first_fits rule allowance x s (i ∙ z)) in absurd (omega arith)
      go n m o p i j h (again z c q) (again _ _ r) = rw (q, r) again_alike
      go n m o p i j h (again z c q) (goes _ k r) = never (sym k ∙ c)
      go n m o p i j h (goes z c q) (failed k r) = let v = fits_both (first_fits rule allowance x s (i ∙ z)) in absurd (omega arith)
      go n m o p i j h (goes z c q) (again _ k r) = never (sym c ∙ k)
      go n m o p i j h (goes z c q) (goes _ _ r) =
          let w = q ∙ evaluated_ruled rule allowance x s in
          rw (w, r) (longer_ruled (first_fits rule allowance x s (i ∙ z)) (ruling rule allowance x s) refl (λ k v. h k (ap (λ t. t.0.answer) w ∙ v)))
