-- What stands past one byte more than the inputs and the longest rule makes no difference, so that the program need not read it: a rule that
-- is cut there is still too long. Assumes nothing.
use mathlib.Core.Path.{◌≡◌, refl, ap, ap₂, ◌∙◌}
use mathlib.Core.Bool.{Bool, true, false}
use mathlib.Core.List.{List}
use Prim.Native.Nat.{ℕ, zero, suc, ◌+◌, ◌*◌, ◌<◌, ◌≤◌}
use native.Mathlib.Omega.{arith}
use lib.Dec.{leb, eqb}
use lib.ListN.{length, take, drop, get_or, replicate, length-drop}
use lib.Seq.{take_all, length-take-le, get_or-take}
use borrow.Author.Tests.{leb-true, leb-false, le-leb, lt-ltb}
use Rattle.words.specs.Words.{word_bytes, join_of}
use Rattle.notation.specs.Notation.{with, when◌then◌else◌, if◌equals◌then◌else◌, if◌below◌then◌else◌, unless◌then◌else◌}
use Rattle.notation.proofs.Every.{up_same}
use Rattle.semantics.specs.declared.Session.{Session}
use Rattle.semantics.specs.declared.Opened.{Opened}
use Rattle.semantics.specs.Numbers.{input_count, rule_bytes, most_table, misfit, rule_size}
use Rattle.semantics.specs.Records.{pair_at, word_at}
use Rattle.semantics.specs.Rules.{bad_rule_size, rule_refusal_of}
use Rattle.semantics.specs.Opening.{open_of}
use Rattle.semantics.specs.Fits.{fits_of}
use Rattle.semantics.specs.Evaluate.{refused_by, evaluate_of}
use Rattle.semantics.specs.Print.{print_allowance, input_size, input_bytes, inputs_from, input_zeroed, inputs_whole, evaluation_lines, opening_lines, printed_of}
use Rattle.lines.specs.Lines.{lines_text}
use Rattle.print.specs.Written.{written_of}
use Rattle.print.specs.Read.{Read}

-- ---- a rule that is too long is refused, whatever its bytes

too_long : (rule : List ℕ) → rule_bytes < length rule → rule_refusal_of rule ≡ rule_size
unfolding rule_refusal_of when◌then◌else◌ bad_rule_size
too_long rule h = go (eqb (length rule) 0) refl
  where
    go : (b : Bool) → eqb (length rule) 0 ≡ b → rule_refusal_of rule ≡ rule_size
    go true e = rw e
    go false e = rw (e, lt-ltb _ _ h)

-- test 3 comes before, and does not look at the rule
long_refused : (rule : List ℕ) → rule_bytes < length rule → (x : Session) (t : List ℕ)
    → evaluate_of rule print_allowance x t ≡ (unless fits_of x t then refused_by misfit else refused_by rule_size) x t
unfolding evaluate_of unless◌then◌else◌ with if◌below◌then◌else◌
long_refused rule h x t = rw (too_long rule h)

-- so that two such rules have the same lines
same_lines : (a b : List ℕ) → rule_bytes < length a → rule_bytes < length b → (x : Session) (t : List ℕ) → evaluation_lines a x t ≡ evaluation_lines b x t
unfolding evaluation_lines
same_lines a b h k x t = rw (long_refused a h x t, long_refused b k x t)

-- ---- the inputs stand before what is cut off

-- an input s, and its first n bytes, which are fewer
module _ (n : ℕ) (s : List ℕ) (enough : input_bytes + rule_bytes < n) (long : n < length s) where
  abbrev cut : List ℕ
  cut = take n s

  cut_at : (i : ℕ) → i < input_bytes → get_or cut i 0 ≡ get_or s i 0
  cut_at i h = get_or-take n s i 0 (omega arith)

  -- a word that the inputs hold whole
  word_cut : (i : ℕ) → i + word_bytes ≤ input_bytes → word_at cut i ≡ word_at s i
  word_cut i h = ap₂ join_of (pair_cut i (omega arith)) (pair_cut (i + 2) (omega arith))
    where
      pair_cut : (j : ℕ) → j + 1 < n → pair_at cut j ≡ pair_at s j
      pair_cut j l = rw (get_or-take n s j 0 (omega arith), get_or-take n s (j + 1) 0 l)

  cut_length : length cut ≡ n
  cut_length = length-take-le n s (omega arith)

  -- both have all inputs, and the same second bytes
  same_whole : inputs_whole cut ≡ inputs_whole s
  unfolding inputs_whole
  same_whole =
      let l = cut_length in
      let a : input_bytes ≤ length cut = omega arith in
      let b : input_bytes ≤ length s = omega arith in
      rw (le-leb _ _ a, le-leb _ _ b)
      (up_same input_count (input_zeroed cut) (input_zeroed s) λ i h. rw (cut_at (input_size * i + 1) (omega arith)))

  -- k inputs from number i on
  same_inputs : (i k : ℕ) → input_size * (i + k) ≤ input_bytes → inputs_from cut i k ≡ inputs_from s i k
  unfolding inputs_from
  same_inputs i zero h = refl
  same_inputs i (suc k) h =
      rw (cut_at (input_size * i) (omega arith), word_cut (input_size * i + word_bytes) (omega arith), same_inputs (suc i) k (omega arith))

  -- what follows an opening
  same_opening : (o : Opened × List ℕ) → opening_lines cut o ≡ opening_lines s o
  unfolding opening_lines with if◌equals◌then◌else◌
  same_opening o = go (eqb o.0.refusal 0) refl
    where
      rest : (l : List ℕ) → input_bytes + rule_bytes < length l → rule_bytes < length (drop input_bytes l)
      rest l h = rw (length-drop input_bytes l) (omega arith)

      go : (b : Bool) → eqb o.0.refusal 0 ≡ b → opening_lines cut o ≡ opening_lines s o
      go true e = rw e (same_lines (drop input_bytes cut) (drop input_bytes s) (rest cut (omega (arith, cut_length))) (rest s (omega arith)) o.0.session o.1)
      go false e = rw e

  -- all lines
  same_printed : printed_of cut ≡ printed_of s
  unfolding printed_of with when◌then◌else◌
  same_printed = go (inputs_whole s) refl
    where
      go : (b : Bool) → inputs_whole s ≡ b → printed_of cut ≡ printed_of s
      go true e = rw (same_whole, e, same_inputs 0 input_count (omega arith)) (same_opening (open_of (inputs_from s 0 input_count) (replicate most_table 0)))
      go false e = rw (same_whole, e)

-- the first n bytes of an input decide what is written for it: one that is no longer is not cut
pub longer : (n : ℕ) → input_bytes + rule_bytes < n → (s : List ℕ) → written_of (take n s) ≡ written_of s
unfolding written_of
longer n h s = go (leb (length s) n) refl
  where
    go : (b : Bool) → leb (length s) n ≡ b → lines_text (printed_of (take n s)) ≡ lines_text (printed_of s)
    go true e = ap (λ (l : List ℕ). lines_text (printed_of l)) (take_all n s (leb-true _ _ e))
    go false e = ap lines_text (same_printed n s h (leb-false _ _ e))

-- ---- what is written for what was read is what is written for the whole input

module _ {buffer : List ℕ} {n : ℕ} {input : List ℕ} (read : Read buffer n input) (enough : input_bytes + rule_bytes < length buffer) {text : List ℕ} where
  pub whole_written : text ≡ written_of (take n buffer) → text ≡ written_of input
  whole_written e = e ∙ ap written_of read.is ∙ longer (length buffer) enough input

  -- of a buffer that is full
  pub full_written : length buffer ≤ n → text ≡ written_of buffer → text ≡ written_of input
  full_written full e = whole_written (rw (take_all n buffer full) e)
