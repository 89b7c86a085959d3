-- Each way out of clauses over byte forms. Assumes nothing.
use mathlib.Core.Path.{◌≡◌, refl, sym, ap, ◌∙◌}
use mathlib.Core.Bool.{Bool, true, false}
use mathlib.Core.List.{List, ◌++◌}
use Prim.Native.Nat.{ℕ}
use lib.ListN.{length, set, drop}
use lib.Dec.{eqb, ltb}
use native.Mathlib.Omega.{arith}
use borrow.Author.Tests.{eq-eqb, ne_eqb, eqb-true, eqb-false, ltb-true}
use Rattle.notation.proofs.Follow.{tests}
use Rattle.notation.specs.Notation.{pick, with, if◌equals◌then◌else◌, if◌below◌then◌else◌, unless◌then◌else◌}
use Rattle.semantics.specs.declared.Result.{Result}
use Rattle.semantics.specs.declared.Session.{Session}
use Rattle.semantics.specs.declared.Goal.{Goal}
use Rattle.semantics.specs.Numbers.{misfit, bad_result, text_long}
use Rattle.semantics.specs.Terms.{terms_in}
use Rattle.semantics.specs.Fits.{fits_of}
use Rattle.semantics.specs.Reading.{result_taken}
use Rattle.semantics.specs.declared.refusal.Refusal.{Refusal}
use Rattle.semantics.specs.Refusals.{number_of}
use Rattle.dimacs.specs.Written.{Written}
use Rattle.dimacs.specs.Write.{written_of, text_of_call, write_of}
use Rattle.forms.specs.Forms.{session_length, result_length, reading_length, wrong_length, session_in, result_in}
use Rattle.forms.proofs.Lengths.{long_so, long_not}
use Rattle.goal_forms.specs.Goals.{goal_in}
use Rattle.byte_clauses.specs.Clauses.{clauses_unformed, length_said, desk_clauses}

-- where no form is refused, the list has one number
pub formed_one : (session result goal : List ℕ) (l : ℕ) {k : ℕ} → k ≡ clauses_unformed session result goal l → k ≡ 0 → l ≡ 1
unfolding clauses_unformed unless◌then◌else◌
formed_one session result goal l e z = go (eqb (length session) session_length) (eqb (length result) result_length) (eqb (length goal) reading_length) (eqb l 1) refl _ (sym z ∙ e)
  where
    go : (a b c d : Bool) → eqb l 1 ≡ d → (rest : ℕ) → 0 ≡ pick a (pick b (pick c (pick d rest wrong_length) wrong_length) wrong_length) wrong_length → l ≡ 1
    go true true true true q rest h = eqb-true l 1 q
    go true true true false q rest h = absurd (omega arith)
    go true true false d q rest h = absurd (omega arith)
    go true false c d q rest h = absurd (omega arith)
    go false b c d q rest h = absurd (omega arith)

-- no refusal is 0
number_some : (k : Refusal) → eqb (number_of k) 0 ≡ false
number_some k = grind arith

-- the writing refuses without a length by 3 and by 14 alone
module _ (x : Session) (s : List ℕ) (r : Result) (g : Goal) (text : List ℕ) where
  refused_by : {n : ℕ} {y : List ℕ} → ◌≡◌ {A = Written × List ℕ} (written_of n 0, y) (write_of x s r g text) → (n ≡ 0 → ⊥) → (n ≡ misfit → ⊥) → n ≡ bad_result
  unfolding write_of unless◌then◌else◌ if◌below◌then◌else◌ with
  refused_by {n} {y} e z m = go (fits_of x s) (result_taken (terms_in s x.count) r) (ltb (length text) (length t)) refl e
    where
      t : List ℕ
      t = text_of_call x s r g

      go : (a b c : Bool) → ltb (length text) (length t) ≡ c
          → ◌≡◌ {A = Written × List ℕ} (written_of n 0, y) (pick a (pick b (pick c (written_of text_long (length t), text) (written_of 0 (length t), t ++ drop (length t) text)) (written_of bad_result 0, text)) (written_of misfit 0, text))
          → n ≡ bad_result
      go false b c q e = absurd (m (ap (λ (o : Written × List ℕ). o.0.refusal) e))
      go true false c q e = ap (λ (o : Written × List ℕ). o.0.refusal) e
      go true true true q e = let l = ltb-true (length text) (length t) q in let k : 0 ≡ length t = ap (λ (o : Written × List ℕ). o.0.length) e in absurd (omega arith)
      go true true false q e = absurd (z (ap (λ (o : Written × List ℕ). o.0.refusal) e))

module _ (session table result goal text list : List ℕ) {k : ℕ} (ek : k ≡ clauses_unformed session result goal (length list)) where
  pub unformed : (e : Refusal) → number_of e ≡ k → {n : ℕ} → n ≡ number_of e → (n, text, list) ≡ desk_clauses session table result goal text list
  unfolding desk_clauses with if◌equals◌then◌else◌
  unformed e q en = rw (← ek, ← q, number_some e, en)

  module _ (h : k ≡ 0) {x : Session} (ex : x ≡ session_in session) {r : Result} (er : r ≡ result_in result) {g : Goal} (eg : g ≡ goal_in goal) {w : Written} {y : List ℕ}
      (ew : ◌≡◌ {A = Written × List ℕ} (w, y) (write_of x table r g text)) {n m : ℕ} (is : w ≡ written_of n m) where
    e : ◌≡◌ {A = Written × List ℕ} (written_of n m, y) (write_of x table r g text)
    e = ap (λ v. (v, y)) (sym is) ∙ ew

    said : length_said (written_of n m, y) list ≡ desk_clauses session table result goal text list
    unfolding desk_clauses with if◌equals◌then◌else◌
    said = rw (← ek, eq-eqb k 0 h, ← ex, ← er, ← eg, ← e)

    pub with_none : (q : Refusal) → n ≡ number_of q → m ≡ 0 → (a : ℕ) → a ≡ n → (a, y, list) ≡ desk_clauses session table result goal text list
    unfolding if◌equals◌then◌else◌
    with_none q en em a ea = go (eqb n misfit) refl
      where
        go : (b : Bool) → eqb n misfit ≡ b → (a, y, list) ≡ desk_clauses session table result goal text list
        go true t = sym (rw (t, ea)) ∙ said
        go false t =
            let some = eqb-false n 0 (rw (en, number_some q)) in
            let same : n ≡ bad_result = refused_by x table r g text (rw em at e) some (eqb-false n misfit t) in
            sym (rw (ne_eqb n misfit (eqb-false n misfit t), eq-eqb n bad_result same, ea)) ∙ said

    pub with_length : (n ≡ misfit → ⊥) → (n ≡ bad_result → ⊥) → {a : ℕ} → a ≡ n → {z : List ℕ} → z ≡ set list 0 m → (a, y, z) ≡ desk_clauses session table result goal text list
    unfolding if◌equals◌then◌else◌
    with_length p q ea ez = sym (rw (ne_eqb n misfit p, ne_eqb n bad_result q, ea, ez)) ∙ said

pub ruleset forms = (tests, long_so, long_not)
