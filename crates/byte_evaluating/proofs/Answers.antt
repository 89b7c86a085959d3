-- Each way out of evaluating over byte forms, in the order of its tests. Assumes nothing.
use mathlib.Core.Path.{◌≡◌, refl, sym, ◌∙◌}
use mathlib.Core.Bool.{Bool, true, false}
use mathlib.Core.List.{List}
use Prim.Native.Nat.{ℕ}
use lib.ListN.{length}
use lib.Seq.{sets}
use lib.Dec.{eqb}
use native.Mathlib.Omega.{arith}
use borrow.Author.Tests.{eq-eqb, ne_eqb, eqb-true}
use Rattle.notation.proofs.Follow.{tests}
use Rattle.notation.specs.Notation.{pick, with, if◌equals◌then◌else◌, unless◌then◌else◌}
use Rattle.semantics.specs.declared.Session.{Session}
use Rattle.semantics.specs.declared.Evaluated.{Evaluated}
use Rattle.semantics.specs.declared.refusal.Refusal.{Refusal}
use Rattle.semantics.specs.Refusals.{number_of}
use Rattle.semantics.specs.Numbers.{misfit}
use Rattle.semantics.specs.Evaluate.{evaluate_of}
use Rattle.forms.specs.Forms.{session_length, wrong_length, session_in, pairs_of, session_bytes}
use Rattle.forms.specs.Answers.{answer_values, written_at}
use Rattle.forms.proofs.Lengths.{long_so, long_not}
use Rattle.forms.proofs.Written.{put_whole}
use Rattle.byte_evaluating.specs.Evaluate.{evaluated_form, evaluate_unformed, desk_evaluate}

-- no refusal is 0
number_some : (k : Refusal) → eqb (number_of k) 0 ≡ false
number_some k = grind arith

-- three tests, and what follows by their number
by_number : {A : Type 0} (a b c : Bool) (f : ℕ → A) (g : A)
    → (if (unless a then wrong_length else unless b then wrong_length else unless c then misfit else 0) equals 0 then g else f (unless a then wrong_length else unless b then wrong_length else unless c then misfit else 0))
    ≡ (unless a then f wrong_length else unless b then f wrong_length else unless c then f misfit else g)
unfolding if◌equals◌then◌else◌ unless◌then◌else◌
by_number false b c f g = refl
by_number true false c f g = refl
by_number true true false f g = refl
by_number true true true f g = refl

module _ (session table rule : List ℕ) (allowance : ℕ) (answer : List ℕ) {k : ℕ} (ek : k ≡ evaluate_unformed session (length answer)) where
  by_form : desk_evaluate session table rule allowance answer ≡ (if k equals 0 then evaluated_form (evaluate_of rule allowance (session_in session) table) session answer else (k, session, table, answer))
  unfolding desk_evaluate evaluate_unformed
  by_form = rw ek (sym (by_number _ _ _ (λ n. (n, session, table, answer)) _))

  pub unformed : (e : Refusal) → number_of e ≡ k → {n : ℕ} → n ≡ number_of e → (n, session, table, answer) ≡ desk_evaluate session table rule allowance answer
  unfolding if◌equals◌then◌else◌
  unformed e q en = rw (by_form, ← q, number_some e, en)

  -- where no form is refused, the session is as long as one
  formed_long : k ≡ 0 → length session ≡ session_length
  unfolding evaluate_unformed unless◌then◌else◌
  formed_long h = go (eqb (length session) session_length) refl _ (sym h ∙ ek)
    where
      go : (b : Bool) → eqb (length session) session_length ≡ b → (rest : ℕ) → 0 ≡ pick b rest wrong_length → length session ≡ session_length
      go true q rest z = eqb-true (length session) session_length q
      go false q rest z = absurd (omega arith)

  module _ (h : k ≡ 0) {x : Session} (ex : x ≡ session_in session) {e : Evaluated} {t : List ℕ} (ee : (e, t) ≡ evaluate_of rule allowance x table) where
    evaluate_on : desk_evaluate session table rule allowance answer ≡ evaluated_form (e, t) session answer
    unfolding if◌equals◌then◌else◌
    evaluate_on = rw (by_form, eq-eqb k 0 h, ← ex, ← ee)

    module _ {n : ℕ} {z : List ℕ} (en : (n, z) ≡ written_at pairs_of (answer_values e.answer) answer) where
      pub evaluate_refused : (n ≡ 0 → ⊥) → (n, session, t, z) ≡ desk_evaluate session table rule allowance answer
      unfolding evaluated_form with if◌equals◌then◌else◌
      evaluate_refused i = rw (evaluate_on, ← en, ne_eqb n 0 i)

      pub evaluate_accepted : n ≡ 0 → length (session_bytes e.session) ≡ session_length → {y : List ℕ} → y ≡ sets session 0 (session_bytes e.session)
          → (0, y, t, z) ≡ desk_evaluate session table rule allowance answer
      unfolding evaluated_form with if◌equals◌then◌else◌
      evaluate_accepted i j ey = rw (evaluate_on, ← en, i, put_whole session (session_bytes e.session) (formed_long h ∙ sym j) ey)

pub ruleset forms = (tests, long_so, long_not)
