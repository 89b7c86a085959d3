-- The lines that are put: a first line by its word, and a line for each term. Assumes nothing.
use mathlib.Core.Path.{◌≡◌, refl, sym, ◌∙◌}
use mathlib.Core.List.{List, [], ◌∷◌, ◌++◌, append_assoc, append-nil}
use Prim.Native.Nat.{ℕ, suc, ◌+◌, ◌-◌, ◌*◌, ◌<◌, ◌≤◌}
use native.Mathlib.Numerals.{add-one}
use native.Mathlib.Omega.{arith}
use lib.ListN.{length, take}
use Rattle.semantics.specs.declared.Term.{Term}
use Rattle.semantics.specs.declared.State.{State}
use Rattle.semantics.specs.declared.Answer.{Answer}
use Rattle.semantics.specs.declared.Answer.TheVariants.{Out, Halt, Refused}
use Rattle.semantics.specs.Numbers.{term_limit}
use Rattle.semantics.specs.Terms.{term_at}
use Rattle.semantics.specs.Print.{Line, refusal, term_line, term_lines, answer_lines}
use Rattle.text.specs.Text.{ascii, joined, numbers_text}
use Rattle.lines.specs.Lines.{line_text, lines_text}
use Rattle.text.specs.Appends.{Appends, Writes}
use Rattle.lines.specs.Room.{line_bytes, Told}
use Rattle.text.proofs.Adding.{both_added, written}

-- ---- lines of terms

-- The lines of the terms before i stand in y up to e, so that only the others' are missing.
pub record Shown (s : List ℕ) (at : ℕ) (t : List ℕ) (from to : ℕ) (y : List ℕ) (e i : ℕ) : Type 0 where
  pub is : take e y ++ lines_text (term_lines t i (to - i)) ≡ take at s ++ lines_text (term_lines t from (to - from))
  pub low : at ≤ e
  pub high : e ≤ at + line_bytes * (i - from)
  pub above : from ≤ i
  pub below : i - from ≤ to - from

module _ {s : List ℕ} {at : ℕ} {t : List ℕ} {from to : ℕ} where
  pub none_shown : Shown s at t from to s at from
  none_shown = record { is = refl; low = omega arith; high = omega arith; above = omega arith; below = omega arith }

  module _ {y : List ℕ} {e i : ℕ} (h : Shown s at t from to y e i) where
    left : i < to → lines_text (term_lines t i (to - i)) ≡ line_text (term_line i (term_at t i)) ++ lines_text (term_lines t (i + 1) (to - (i + 1)))
    unfolding lines_text term_lines
    left l = let k : to - i ≡ suc (to - (i + 1)) = omega arith in rw (k, add-one)

    pub one_shown : i < to → {x : Term} → x ≡ term_at t i → {z : List ℕ} {r : ℕ} → Appends line_bytes (line_text (term_line i x)) y e z r → Shown s at t from to z r (i + 1)
    one_shown l ex p =
        let a = h.low in let b = h.high in let c = p.low in let d = p.high in let f = h.above in
        record { is = rw (p.is, ex, append_assoc, ← left l) h.is; low = omega arith; high = omega arith; above = omega arith; below = omega arith }

    pub all_shown : to ≤ i → Appends (line_bytes * (to - from)) (lines_text (term_lines t from (to - from))) s at y e
    unfolding lines_text term_lines
    all_shown l =
        let b = h.high in let f = h.below in
        let k : to - i ≡ 0 = omega arith in
        record { is = sym (append-nil (take e y)) ∙ rw k at h.is; low = h.low; high = omega arith }

-- ---- a first line

-- a refusal's only line
pub refused_line : (k : ℕ) {s y : List ℕ} {r : ℕ} → 14 ≤ length y → Appends 14 (ascii "refused " ++ numbers_text (k ∷ [])) s 0 y r → Writes (line_text (refusal k)) y r
unfolding line_text numbers_text joined
refused_line k h p = written h p

-- a line for each term of the largest table, and the first line
abbrev output_bytes : ℕ
output_bytes = line_bytes * (term_limit + 1)

-- by how the evaluation ended, with the terms' lines after the first
module _ (a : Answer) (n : ℕ) (h : Told a n) where
  pub told_out : {x : State} {v d : ℕ} → a ≡ Out x v d → n ≤ term_limit
  told_out e = rw e at h

  pub told_halt : {x : State} {d : ℕ} → a ≡ Halt x d → n ≤ term_limit
  told_halt e = rw e at h

  module _ (m : ℕ) (ls : List Line) {s y z : List ℕ} {e r : ℕ} (room : length z ≡ output_bytes) (q : Appends (line_bytes * (n - m)) (lines_text ls) y e z r) where
    both_lines : n ≤ term_limit → {w : List ℕ} {k : ℕ} → k ≤ line_bytes → Appends k w s 0 y e → Writes (w ++ lines_text ls) z r
    both_lines l j p = written (omega arith) (both_added p q)

    pub answered_out : {x : State} {v d : ℕ} → a ≡ Out x v d → Appends 28 (ascii "out " ++ numbers_text (x.assumed ∷ x.asserted ∷ v ∷ n ∷ [])) s 0 y e
        → Writes (lines_text (answer_lines a n ls)) z r
    unfolding answer_lines lines_text line_text numbers_text joined
    answered_out ea p = rw ea (both_lines (told_out ea) (omega arith) p)

    pub answered_halt : {x : State} {d : ℕ} → a ≡ Halt x d → Appends 23 (ascii "halt " ++ numbers_text (x.assumed ∷ x.asserted ∷ n ∷ [])) s 0 y e
        → Writes (lines_text (answer_lines a n ls)) z r
    unfolding answer_lines lines_text line_text numbers_text joined
    answered_halt ea p = rw ea (both_lines (told_halt ea) (omega arith) p)

pub answered_refused : (a : Answer) {k : ℕ} (n : ℕ) (ls : List Line) {y : List ℕ} {r : ℕ} → a ≡ Refused k → Writes (line_text (refusal k)) y r
    → Writes (lines_text (answer_lines a n ls)) y r
unfolding answer_lines lines_text
answered_refused a n ls ea p = rw (ea, append-nil) p
