-- What is written, by what is read: each way through `printed`. Assumes nothing.
use mathlib.Core.Path.{◌≡◌, refl, ap, ◌∙◌}
use mathlib.Core.Bool.{Bool, true, false}
use mathlib.Core.List.{List, append-nil}
use Prim.Native.Nat.{ℕ, ◌-◌}
use native.Mathlib.Omega.{arith}
use lib.ListN.{length, take, drop, replicate, length-drop}
use lib.Seq.{take_all}
use lib.Dec.{eqb}
use Rattle.std.specs.declared.result.Result.TheVariants.{Ok, Err}
use Rattle.notation.specs.Notation.{with, every, when◌then◌else◌, unless◌then◌else◌, if◌equals◌then◌else◌}
use Rattle.semantics.specs.declared.Input.{Input}
use Rattle.semantics.specs.declared.Opened.{Opened}
use Rattle.semantics.specs.declared.Session.{Session}
use Rattle.semantics.specs.declared.refusal.Refusal.{Refusal}
use Rattle.semantics.specs.Refusals.{number_of}
use Rattle.semantics.specs.declared.Evaluated.{Evaluated}
use Rattle.semantics.specs.Numbers.{input_count, most_table, bad_input}
use Rattle.semantics.specs.Opening.{bad_table_size, input_taken, open_of}
use Rattle.semantics.specs.Evaluate.{evaluate_of}
use Rattle.semantics.specs.Print.{input_bytes, refusal, term_lines, answer_lines, print_allowance, inputs_from, inputs_whole, evaluation_lines, opening_lines, printed_of}
use Rattle.opening.specs.Openings.{opened_of}
use Rattle.lines.specs.Lines.{line_text, lines_text}
use Rattle.print.specs.Written.{written_of}
use Rattle.text.specs.Appends.{Writes}
use Rattle.print.proofs.Taken.{inputs_length_lem}

-- an opening keeps its inputs
open_inputs : (xs : List Input) (z : List ℕ) → (open_of xs z).0.session.inputs ≡ xs
unfolding open_of when◌then◌else◌ unless◌then◌else◌ with
open_inputs xs z = go (bad_table_size (length z)) (every input_taken xs) refl refl
  where
    go : (a b : Bool) → bad_table_size (length z) ≡ a → every input_taken xs ≡ b → (open_of xs z).0.session.inputs ≡ xs
    go true b e f = rw e
    go false false e f = rw (e, f)
    go false true e f = rw (e, f)

-- so the session has sixteen
pub sixteen_inputs : (s : List ℕ) {xs : List Input} → xs ≡ inputs_from s 0 input_count → {x : Opened} {t : List ℕ} (z : List ℕ) → ◌≡◌ {A = Opened × List ℕ} (x, t) (open_of xs z)
    → length x.session.inputs ≡ input_count
sixteen_inputs s {xs} ex z eo = ap (λ (p : Opened × List ℕ). length p.0.session.inputs) eo ∙ (ap length (open_inputs xs z ∙ ex) ∙ inputs_length_lem s 0 input_count)

above_zero : (k : Refusal) → eqb (number_of k) 0 ≡ false
above_zero k = grind arith

module _ (s : List ℕ) {y : List ℕ} {r : ℕ} {w : Bool} (ew : w ≡ inputs_whole s) where
  pub written_cut : w ≡ false → Writes (line_text (refusal bad_input)) y r → Writes (written_of s) y r
  unfolding written_of printed_of with when◌then◌else◌ lines_text
  written_cut h p = rw (← ew, h, append-nil) p

  module _ (h : w ≡ true) {xs : List Input} (ex : xs ≡ inputs_from s 0 input_count) {t : List ℕ} where
    pub written_refused : (e : Refusal) → ◌≡◌ {A = Opened × List ℕ} (opened_of xs (Err e), t) (open_of xs (replicate most_table 0)) → {k : ℕ} → k ≡ number_of e
        → Writes (line_text (refusal k)) y r → Writes (written_of s) y r
    unfolding written_of printed_of opening_lines with when◌then◌else◌ if◌equals◌then◌else◌ lines_text
    written_refused e eo ek p = rw (← ew, h, ← ex, ← eo, above_zero e, append-nil) (rw ek at p)

    pub written_evaluated : {v : Session} → ◌≡◌ {A = Opened × List ℕ} (opened_of xs (Ok v), t) (open_of xs (replicate most_table 0))
        → Writes (lines_text (evaluation_lines (take (length s - input_bytes) (drop input_bytes s)) v t)) y r → Writes (written_of s) y r
    unfolding written_of printed_of opening_lines with when◌then◌else◌ if◌equals◌then◌else◌
    written_evaluated eo p = rw (← ew, h, ← ex, ← eo) (rw (take_all (length s - input_bytes) (drop input_bytes s) (rw (length-drop input_bytes s) (omega arith))) at p)

-- a rule evaluated, and its lines
pub evaluated_lines : (rule : List ℕ) (x : Session) (s : List ℕ) {v : Evaluated} {y : List ℕ} → ◌≡◌ {A = Evaluated × List ℕ} (v, y) (evaluate_of rule print_allowance x s)
    → {z : List ℕ} {r : ℕ} → Writes (lines_text (answer_lines v.answer v.session.count (term_lines y x.count (v.session.count - x.count)))) z r
    → Writes (lines_text (evaluation_lines rule x s)) z r
unfolding evaluation_lines
evaluated_lines rule x s e p = rw (← e) p
