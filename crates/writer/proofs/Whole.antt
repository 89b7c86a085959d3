-- The header and the whole text, and that it is short; and the operation, each way out of it. Assumes nothing.
use mathlib.Core.Path.{◌≡◌, sym, ap, ap₂, ◌∙◌}
use mathlib.Core.Bool.{Bool, true, false}
use mathlib.Core.List.{List, [], ◌∷◌, ◌++◌, append_assoc}
use Prim.Native.Nat.{ℕ, ◌+◌, ◌*◌, ◌<◌, ◌≤◌}
use native.Mathlib.Omega.{arith}
use lib.ListN.{length, length-append}
use borrow.Author.Tests.{lt-ltb, le-ltb}
use Rattle.notation.specs.Notation.{with, if◌below◌then◌else◌, unless◌then◌else◌}
use Rattle.text.specs.Text.{ascii, space, line_feed, decimal_of}
use Rattle.text.proofs.Decimals.{decimal_short}
use Rattle.semantics.specs.declared.Term.{Term}
use Rattle.semantics.specs.declared.Result.{Result}
use Rattle.semantics.specs.declared.Session.{Session}
use Rattle.semantics.specs.declared.Goal.{Goal}
use Rattle.semantics.specs.Numbers.{misfit, bad_result, text_long}
use Rattle.semantics.specs.Terms.{terms_in}
use Rattle.semantics.specs.Fits.{fits_of}
use Rattle.semantics.specs.Reading.{result_taken}
use Rattle.clauses.specs.Clauses.{owned, variable_count, table_clauses, goal_clauses, clauses_for}
use Rattle.cursor.specs.Sink.{most_text, Fills}
use Rattle.cursor.proofs.Fit.{stored}
use Rattle.dimacs.specs.Written.{Written}
use Rattle.dimacs.specs.Text.{clauses_text, header_text, text_for}
use Rattle.dimacs.specs.Write.{written_of, write_of}
use Rattle.dimacs.proofs.Texts.{clauses_append}
use Rattle.table_clauses.specs.Totals.{TotalsOf}

-- ---- the whole
pub header_text_lem : (v n : ℕ) → ascii "p cnf " ++ ((decimal_of v ++ (space ∷ [])) ++ (decimal_of n ++ (line_feed ∷ []))) ≡ header_text v n
unfolding header_text
header_text_lem v n = ap (λ x. ascii "p cnf " ++ x) (append_assoc (decimal_of v) (space ∷ []) (decimal_of n ++ (line_feed ∷ [])))

pub whole_text : (c : ℕ) (ts : List Term) (r : Result) (g : Goal) {v m h k q : ℕ} → TotalsOf ts c h k → q ≡ length (goal_clauses r g) → v ≡ owned * c + h → m ≡ k + q
    → header_text v m ++ (clauses_text (table_clauses c ts) ++ clauses_text (goal_clauses r g)) ≡ text_for c ts r g
unfolding text_for clauses_for
whole_text c ts r g {v} {m} {h} {k} {q} t e a b =
    ap₂ ◌++◌ (ap₂ header_text (a ∙ ap (λ x. owned * c + x) t.helpers_are) (b ∙ (ap₂ ◌+◌ t.clauses_are e ∙ sym (length-append (table_clauses c ts) (goal_clauses r g))))) (sym (clauses_append (table_clauses c ts) (goal_clauses r g)))

-- its length
pub text_short : (c : ℕ) (ts : List Term) (r : Result) (g : Goal) {h k q : ℕ} → c < 65536 → TotalsOf ts c h k → k < 4294967296 → q ≡ length (goal_clauses r g) → q < 256
    → length (clauses_text (goal_clauses r g)) ≤ 2048 → length (text_for c ts r g) ≤ most_text
unfolding text_for clauses_for header_text
text_short c ts r g {h} {k} {q} lc t lk e lq l =
    let v = variable_count c ts in
    let n = length (table_clauses c ts ++ goal_clauses r g) in
    let a = t.helpers_are in
    let b = t.few_helpers in
    let f = t.clauses_are in
    let d : n ≡ k + q = length-append (table_clauses c ts) (goal_clauses r g) ∙ (ap₂ ◌+◌ (sym t.clauses_are) (sym e)) in
    let dv = decimal_of v in
    let dn = decimal_of n in
    let end = line_feed ∷ [] in
    let body = clauses_text (table_clauses c ts ++ goal_clauses r g) in
    omega (
      arith,
      l,
      t.short,
      decimal_short 12 v (omega arith),
      decimal_short 12 n (omega arith),
      length-append (ascii "p cnf " ++ (dv ++ (space ∷ (dn ++ end)))) body,
      length-append (ascii "p cnf ") (dv ++ (space ∷ (dn ++ end))),
      length-append dv (space ∷ (dn ++ end)),
      length-append dn end,
      ap length (clauses_append (table_clauses c ts) (goal_clauses r g)),
      length-append (clauses_text (table_clauses c ts)) (clauses_text (goal_clauses r g)),
    )

-- ---- the operation
module _ (x : Session) (s : List ℕ) (r : Result) (g : Goal) (buffer : List ℕ) where
  abbrev text : List ℕ
  text = text_for x.count (terms_in s x.count) r g

  pub refused_misfit : {b : Bool} → b ≡ fits_of x s → b ≡ false → ◌≡◌ {A = Written × List ℕ} (written_of misfit 0, buffer) (write_of x s r g buffer)
  unfolding write_of unless◌then◌else◌
  refused_misfit p q = rw (sym p ∙ q)

  module _ {b : Bool} (p : b ≡ fits_of x s) (q : b ≡ true) {d : Bool} (u : d ≡ result_taken (terms_in s x.count) r) where
    pub refused_result : d ≡ false → ◌≡◌ {A = Written × List ℕ} (written_of bad_result 0, buffer) (write_of x s r g buffer)
    unfolding write_of unless◌then◌else◌
    refused_result v = rw (sym p ∙ q, sym u ∙ v)

    module _ (v : d ≡ true) {n : ℕ} (e : n ≡ length text) where
      pub refused_long : length buffer < n → ◌≡◌ {A = Written × List ℕ} (written_of text_long n, buffer) (write_of x s r g buffer)
      unfolding write_of unless◌then◌else◌ if◌below◌then◌else◌ with
      refused_long l = rw (sym p ∙ q, sym u ∙ v, lt-ltb (length buffer) (length text) (omega arith), e)

      pub written : n ≤ length buffer → n ≤ most_text → {z : List ℕ} {m : ℕ} → Fills text buffer z m → ◌≡◌ {A = Written × List ℕ} (written_of 0 n, z) (write_of x s r g buffer)
      unfolding write_of unless◌then◌else◌ if◌below◌then◌else◌ with
      written l h w = rw (sym p ∙ q, sym u ∙ v, le-ltb (length buffer) (length text) (omega arith), e, stored w (omega arith) (omega arith))
