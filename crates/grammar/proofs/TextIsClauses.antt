-- TEXT IS CLAUSES: what the grammar of DIMACS reads from the bytes that were written is the clauses, and nothing else. Assumes nothing.
use mathlib.Core.Path.{◌≡◌, refl, sym, ap, ◌∙◌}
use mathlib.Core.Bool.{Bool, true, false}
use mathlib.Core.List.{List, [], ◌∷◌, ◌++◌}
use mathlib.Core.Option.{some}
use Prim.Native.Nat.{ℕ}
use native.Mathlib.Omega.{arith}
use lib.Dec.{ltb}
use lib.ListN.{length, take, drop}
use borrow.Author.Tests.{eq-eqb}
use Rattle.notation.specs.Notation.{pick, with, when◌then◌else◌, if◌below◌then◌else◌, unless◌then◌else◌}
use Rattle.text.specs.Text.{ascii, decimal_of}
use Rattle.circuits.specs.Gates.{Literal}
use Rattle.semantics.specs.declared.Session.{Session}
use Rattle.semantics.specs.declared.Result.{Result}
use Rattle.semantics.specs.declared.Goal.{Goal}
use Rattle.semantics.specs.Numbers.{text_long}
use Rattle.semantics.specs.Terms.{terms_in}
use Rattle.semantics.specs.Fits.{fits_of}
use Rattle.semantics.specs.Reading.{result_taken}
use Rattle.certainty.proofs.Free.{fitting}
use Rattle.clauses.specs.Clauses.{variable_count, clauses_of_call}
use Rattle.models.proofs.Exist.{sorted}
use Rattle.terms.proofs.Tables.{terms_length}
use Rattle.models.proofs.Theorems.{named_result}
use Rattle.dimacs.specs.Written.{Written}
use Rattle.dimacs.specs.Text.{clauses_text, header_text, text_for}
use Rattle.dimacs.specs.Write.{written_of, text_of_call, write_of}
use Rattle.grammar.specs.Dimacs.{as_said, clauses_from, dimacs_from, dimacs_in, words_in, pieces, is_line_feed}
use Rattle.grammar.specs.Read.{TextIsClauses}
use Rattle.grammar.proofs.Decimal.{natural_is}
use Rattle.grammar.proofs.Words.{clauses_words, clauses_read, header_words}
use Rattle.grammar.proofs.Ranges.{Clauses, clauses_proper, clauses_up_to, all_within}

-- ---- a text of clauses whose variables are from 1 to v
module _ (v : ℕ) (cs : List (List (Literal ℕ))) (h : Clauses v cs) where
  said : as_said (some v) (some (length cs)) (some cs) ≡ some (record { variables = v; clauses = cs })
  unfolding when◌then◌else◌
  said = rw (eq-eqb (length cs) (length cs) refl, clauses_up_to v cs h)

  words_read : (ws : List (List ℕ)) → clauses_from ws ≡ some cs → dimacs_from (ascii "p" ∷ ascii "cnf" ∷ decimal_of v ∷ decimal_of (length cs) ∷ ws) ≡ some (record { variables = v; clauses = cs })
  unfolding dimacs_from when◌then◌else◌
  words_read ws e = rw (natural_is v, natural_is (length cs), e) said

  text_read : dimacs_in (header_text v (length cs) ++ clauses_text cs) ≡ some (record { variables = v; clauses = cs })
  unfolding dimacs_in
  text_read =
      ap dimacs_from (header_words v (length cs) (clauses_text cs)) ∙ words_read (words_in (pieces is_line_feed (clauses_text cs))) (ap clauses_from (clauses_words cs) ∙ clauses_read cs (clauses_proper v cs h))

-- ---- what was written
module _ (x : Session) (s : List ℕ) (r : Result) (g : Goal) (buffer : List ℕ) where
  written : fits_of x s ≡ true → result_taken (terms_in s x.count) r ≡ true → (left : List ℕ) (n : ℕ) → write_of x s r g buffer ≡ (written_of 0 n, left)
      → (n ≡ length (text_of_call x s r g)) × (left ≡ text_of_call x s r g ++ drop (length (text_of_call x s r g)) buffer)
  unfolding write_of unless◌then◌else◌ if◌below◌then◌else◌ with
  written f t left n e = go (ltb (length buffer) (length (text_of_call x s r g))) (rw (f, t) at e)
    where
      go : (b : Bool)
          → ◌≡◌ {A = Written × List ℕ} (pick b (written_of text_long (length (text_of_call x s r g)), buffer) (written_of 0 (length (text_of_call x s r g)), text_of_call x s r g ++ drop (length (text_of_call x s r g)) buffer)) (written_of 0 n, left)
          → (n ≡ length (text_of_call x s r g)) × (left ≡ text_of_call x s r g ++ drop (length (text_of_call x s r g)) buffer)
      go true e = let z : ◌≡◌ {A = ℕ} 18 0 = ap (λ (o : Written × List ℕ). o.0.refusal) e in absurd (omega arith)
      go false e = (sym (ap (λ (o : Written × List ℕ). o.0.length) e), sym (ap (λ (o : Written × List ℕ). o.1) e))

take_text : (t u : List ℕ) → take (length t) (t ++ u) ≡ t
take_text [] u = refl
take_text (b ∷ t) u = ap (λ l. b ∷ l) (take_text t u)

-- The theorem.
pub text_is_clauses : TextIsClauses
unfolding text_for
text_is_clauses x s r g t buffer left n e =
    let ts = terms_in s x.count in
    let f = fitting x s t.inputs t.fits in
    let m = named_result ts r t.result in
    let l = terms_length s x.count in
    let w = written x s r g buffer t.fits t.result left n e in
    let range : Clauses (variable_count x.count ts) (clauses_of_call x s r g) =
    all_within [] x.accepted x.count ts l f.formed (sorted [] x.accepted f.base f.formed) r g (let a = m.assumed.low in omega arith) (let a = m.asserted.low in omega arith) (λ q. let a = m.value q in omega arith) in
    rw (w.0, w.1, take_text (text_of_call x s r g) (drop (length (text_of_call x s r g)) buffer)) (text_read (variable_count x.count ts) (clauses_of_call x s r g) range)
