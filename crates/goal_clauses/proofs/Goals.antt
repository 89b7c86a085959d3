-- A goal's clauses as text, goal by goal: which, how many, and that they are short. Assumes nothing.
use mathlib.Core.Path.{◌≡◌, refl, sym, ap}
use mathlib.Core.Bool.{Bool, true, false}
use mathlib.Core.List.{List, [], ◌∷◌, ◌++◌, map, append-nil}
use Prim.Native.Nat.{ℕ, ◌+◌, ◌*◌, ◌/◌, ◌%◌, ◌^◌, ◌<◌, ◌≤◌}
use native.Mathlib.Omega.{arith}
use lib.ListN.{length, length-append}
use Rattle.notation.specs.Notation.{pick, when◌then◌else◌, if◌equals◌then◌else◌}
use Rattle.text.specs.Text.{line_feed, digit}
use Rattle.words.specs.Words.{word_limit, low_of, high_of}
use Rattle.circuits.specs.Gates.{Literal, pos, neg, wire, clauses}
use Rattle.semantics.specs.declared.Term.{Term}
use Rattle.semantics.specs.declared.Result.{Result}
use Rattle.semantics.specs.declared.Goal.TheVariants.{Errs, Aborts, Gives}
use Rattle.semantics.specs.Terms.{blank, word_term_of}
use Rattle.clauses.specs.Clauses.{digits, term_gates, term_clauses, truth_variable, goal_clauses}
use Rattle.gate_tables.specs.Packed.{packed}
use Rattle.dimacs.specs.Text.{clause_text, clauses_text}
use Rattle.dimacs.proofs.Texts.{clauses_append}
use Rattle.gates.specs.Slots.{as_literal, gates_text}
use Rattle.gate_texts.proofs.Short.{brief_unit, brief_two}
use Rattle.term_gates.proofs.Tiny.{places_of, term_text}
use Rattle.table_clauses.proofs.Terms.{term_short}

-- ---- literals
lit_pos : {n v : ℕ} → n ≡ 2 * v → as_literal n ≡ pos v
unfolding as_literal if◌equals◌then◌else◌
lit_pos {n} {v} e = let p : n % 2 ≡ 0 = omega arith in let q : n / 2 ≡ v = omega arith in rw (p, q)

lit_neg : {n v : ℕ} → n ≡ 2 * v → as_literal (n + 1) ≡ neg v
unfolding as_literal if◌equals◌then◌else◌
lit_neg {n} {v} e = let p : (n + 1) % 2 ≡ 1 = omega arith in let q : (n + 1) / 2 ≡ v = omega arith in rw (p, q)

-- ---- two clauses
pub units_text : (c d : List (Literal ℕ)) → clause_text c ++ clause_text d ≡ clauses_text (c ∷ d ∷ [])
unfolding clauses_text
units_text c d = ap (λ x. clause_text c ++ x) (sym (append-nil (clause_text d)))

-- ---- the goal
module _ (r : Result) {s t : ℕ} where
  pub errs_halted : r.halted ≡ true → s ≡ 2 * truth_variable r.state.assumed → t ≡ 2 * truth_variable r.state.asserted
      → clause_text (as_literal s ∷ as_literal (t + 1) ∷ []) ≡ clauses_text (goal_clauses r Errs)
  unfolding goal_clauses clauses_text when◌then◌else◌
  errs_halted h p q = rw (h, lit_pos p, lit_neg q) (sym (append-nil _))

  pub aborts_given : s ≡ 2 * truth_variable r.state.assumed → t ≡ 2 * truth_variable r.state.asserted
      → clauses_text ((as_literal (s + 1) ∷ []) ∷ (as_literal t ∷ []) ∷ []) ≡ clauses_text (goal_clauses r Aborts)
  unfolding goal_clauses
  aborts_given p q = rw (lit_neg p, lit_pos q)

  pub gives_word : (w : ℕ) → r.halted ≡ false → {u : Term} → u ≡ word_term_of w → s ≡ 2 * truth_variable r.state.assumed → t ≡ 2 * truth_variable r.state.asserted
      → clauses_text ((as_literal s ∷ []) ∷ (as_literal t ∷ []) ∷ []) ++ gates_text (places_of 0 r.value u) (map packed (term_gates u blank)) ≡ clauses_text (goal_clauses r (Gives w))
  unfolding goal_clauses when◌then◌else◌
  gives_word w h e p q =
      rw (h, lit_pos p, lit_pos q, e, term_text 0 r.value (word_term_of w) blank)
      (sym (clauses_append ((pos (truth_variable r.state.assumed) ∷ []) ∷ (pos (truth_variable r.state.asserted) ∷ []) ∷ []) (term_clauses 0 r.value (word_term_of w) blank)))

module _ (r : Result) where
  pub errs_given : {t : ℕ} → r.halted ≡ false → t ≡ 2 * truth_variable r.state.asserted → clause_text (as_literal (t + 1) ∷ []) ≡ clauses_text (goal_clauses r Errs)
  unfolding goal_clauses clauses_text when◌then◌else◌
  errs_given h q = rw (h, lit_neg q) (sym (append-nil _))

  pub gives_halted : (w : ℕ) → r.halted ≡ true → digit 0 ∷ line_feed ∷ [] ≡ clauses_text (goal_clauses r (Gives w))
  unfolding goal_clauses clauses_text clause_text when◌then◌else◌
  gives_halted w h = rw h

  pub errs_count : 1 ≡ length (goal_clauses r Errs)
  unfolding goal_clauses when◌then◌else◌
  errs_count = go r.halted
    where
      go : (b : Bool) → 1 ≡ length (pick b ((pos (truth_variable r.state.assumed) ∷ neg (truth_variable r.state.asserted) ∷ []) ∷ []) ((neg (truth_variable r.state.asserted) ∷ []) ∷ []))
      go true = refl
      go false = refl

  pub aborts_count : 2 ≡ length (goal_clauses r Aborts)
  unfolding goal_clauses
  aborts_count = refl

  pub gives_none : (w : ℕ) → r.halted ≡ true → 1 ≡ length (goal_clauses r (Gives w))
  unfolding goal_clauses when◌then◌else◌
  gives_none w h = rw h

  pub gives_count : (w : ℕ) → r.halted ≡ false → 20 ≡ length (goal_clauses r (Gives w))
  unfolding goal_clauses when◌then◌else◌ term_clauses term_gates if◌equals◌then◌else◌ digits
  gives_count w h = rw h

-- ---- the text of the goal's clauses is short
truth_below : (n : ℕ) → n < 65536 → truth_variable n < 10 ^ 13
truth_below n l = omega arith

fields_small : (w : ℕ) → w < word_limit → (low_of w < 65536) × (high_of w < 65536)
unfolding low_of high_of
fields_small w l = (omega arith, omega arith)

none_short : length (clauses_text ([] ∷ [])) ≤ 2048
unfolding clauses_text clause_text
none_short = omega arith

word_count : (w : ℕ) → length (clauses (term_gates (word_term_of w) blank)) ≡ 18
unfolding term_gates if◌equals◌then◌else◌ digits
word_count w = refl

module _ (r : Result) (ls : r.state.assumed < 65536) (lt : r.state.asserted < 65536) where
  assumed_short : (n : ℕ → Literal ℕ) → wire (n (truth_variable r.state.assumed)) ≡ truth_variable r.state.assumed → length (clause_text (n (truth_variable r.state.assumed) ∷ [])) ≤ 64
  assumed_short n e = brief_unit (n (truth_variable r.state.assumed)) (rw e (truth_below r.state.assumed ls))

  asserted_short : (n : ℕ → Literal ℕ) → wire (n (truth_variable r.state.asserted)) ≡ truth_variable r.state.asserted → length (clause_text (n (truth_variable r.state.asserted) ∷ [])) ≤ 64
  asserted_short n e = brief_unit (n (truth_variable r.state.asserted)) (rw e (truth_below r.state.asserted lt))

  pub errs_short : length (clauses_text (goal_clauses r Errs)) ≤ 2048
  unfolding goal_clauses clauses_text when◌then◌else◌
  errs_short = go r.halted
    where
      go : (b : Bool) → length (clauses_text (pick b ((pos (truth_variable r.state.assumed) ∷ neg (truth_variable r.state.asserted) ∷ []) ∷ []) ((neg (truth_variable r.state.asserted) ∷ []) ∷ []))) ≤ 2048
      go true =
          omega (
            arith,
            brief_two (pos (truth_variable r.state.assumed)) (neg (truth_variable r.state.asserted)) (truth_below r.state.assumed ls) (truth_below r.state.asserted lt),
            length-append (clause_text (pos (truth_variable r.state.assumed) ∷ neg (truth_variable r.state.asserted) ∷ [])) [],
          )
      go false = omega (arith, asserted_short neg refl, length-append (clause_text (neg (truth_variable r.state.asserted) ∷ [])) [])

  pub aborts_short : length (clauses_text (goal_clauses r Aborts)) ≤ 2048
  unfolding goal_clauses clauses_text
  aborts_short =
      let s = clause_text (neg (truth_variable r.state.assumed) ∷ []) in
      let t = clause_text (pos (truth_variable r.state.asserted) ∷ []) in
      omega (arith, assumed_short neg refl, asserted_short pos refl, length-append s (t ++ []), length-append t [])

  both_first : length (clauses_text ((pos (truth_variable r.state.assumed) ∷ []) ∷ (pos (truth_variable r.state.asserted) ∷ []) ∷ [])) ≤ 128
  unfolding clauses_text
  both_first =
      let s = clause_text (pos (truth_variable r.state.assumed) ∷ []) in
      let t = clause_text (pos (truth_variable r.state.asserted) ∷ []) in
      omega (arith, assumed_short pos refl, asserted_short pos refl, length-append s (t ++ []), length-append t [])

  word_short : r.value < 65536 → (w : ℕ) → w < word_limit → length (clauses_text (term_clauses 0 r.value (word_term_of w) blank)) ≤ 1152
  word_short lv w lw =
      let f = fields_small w lw in
      omega (arith, term_short 0 r.value (word_term_of w) blank (omega arith) lv f.0 f.1 (omega arith), word_count w)

  pub gives_short : r.value < 65536 → (w : ℕ) → w < word_limit → length (clauses_text (goal_clauses r (Gives w))) ≤ 2048
  unfolding goal_clauses when◌then◌else◌
  gives_short lv w lw = go r.halted
    where
      go : (b : Bool)
          → length (clauses_text (pick b ([] ∷ []) ((pos (truth_variable r.state.assumed) ∷ []) ∷ (pos (truth_variable r.state.asserted) ∷ []) ∷ term_clauses 0 r.value (word_term_of w) blank))) ≤ 2048
      go true = none_short
      go false =
          let units = (pos (truth_variable r.state.assumed) ∷ []) ∷ (pos (truth_variable r.state.asserted) ∷ []) ∷ [] in
          let word = term_clauses 0 r.value (word_term_of w) blank in
          omega (arith, both_first, word_short lv w lw, ap length (clauses_append units word), length-append (clauses_text units) (clauses_text word))
