-- What each term of a well-formed table reads as lies in its report, where the words of its word constants are words and each free input's number
-- lies between its ends. Assumes nothing.
use mathlib.Core.Path.{◌≡◌, refl, sym, subst}
use mathlib.Core.Bool.{Bool, true, false, ◌&&◌}
use mathlib.Core.List.{List}
use Prim.Native.Nat.{ℕ, ◌<◌, ◌≤◌}
use native.Mathlib.Omega.{arith}
use lib.Dec.{eqb, ltb}
use lib.ListN.{get_or}
use borrow.Author.Tests.{eqb-true, ne_eqb, ltb-true, lt-ltb}
use Rattle.notation.specs.Notation.{pick, with, when◌then◌else◌, if◌equals◌then◌else◌, if◌below◌then◌else◌}
use Rattle.words.specs.Words.{word_limit}
use Rattle.operators.specs.Operators.{row_of, gives_truth_of}
use Rattle.semantics.specs.declared.Term.{Term}
use Rattle.semantics.specs.declared.Reading.{Reading}
use Rattle.semantics.specs.declared.Report.{Report}
use Rattle.semantics.specs.Numbers.{free_truth_term, free_word_term, procedure_term, add_code, subtract_code, less_code, not_code, is_word_code, is_procedure_code, negation_code, conjunction_code, disjunction_code, truth_code, record_limit}
use Rattle.semantics.specs.Terms.{term_word, names_binding, operands_laid_out, laid_out, well_formed}
use Rattle.semantics.specs.Reading.{reading_of, nothing, truth_reading, is_word, passes, operation_reading, operator_reading, term_reading, nth, readings}
use Rattle.semantics.specs.Spans.{open_report, both_truths, sum_report, difference_report, less_report, other_report, operator_report, term_report, report_at, reports}
use Rattle.semantics.proofs.Fold.{each_both, fold_related}
use Rattle.depth.proofs.Built.{Worded}
use Rattle.typing.proofs.Formed.{never, both, by_test}
use Rattle.typing.proofs.Folds.{formed_each}
use Rattle.soundness.proofs.Link.{constant_small, operator_laid}
use Rattle.soundness.proofs.Inputs.{All}
use Rattle.certainty.proofs.Worded.{IsWord}
use Rattle.certainty.proofs.Covers.{Covers, open_kind, a_truth, a_word, number_small, any_truth, two}
use Rattle.certainty.proofs.Operations.{other_covers, sum_covers, difference_covers, less_covers}
use Rattle.certainty.proofs.Truths.{not_covers, and_covers, or_covers, choice_covers}

-- ---- operator terms, by their code

-- 35 truth, of anything
passes_covers : (v : Reading) → Covers (if v.sort equals 0 then truth_reading false else truth_reading (passes v)) both_truths
unfolding if◌equals◌then◌else◌
passes_covers v = go (eqb v.sort 0)
  where
    go : (b : Bool) → Covers (pick b (truth_reading false) (truth_reading (passes v))) both_truths
    go true = any_truth false
    go false = any_truth (passes v)

module _ {v w : Reading} {x y : Report} (c : Covers v x) (d : Covers w y) where
  abbrev Covered : ℕ → Type 0
  Covered op = Covers (operator_reading op v w) (operator_report op x y)

  -- 1 to 12
  operation_covers : (op : ℕ) → op < not_code → Covered op
  unfolding operator_reading operator_report if◌equals◌then◌else◌ if◌below◌then◌else◌
  operation_covers op l =
      rw (lt-ltb op not_code l, ne_eqb op negation_code (λ e. omega arith), ne_eqb op conjunction_code (λ e. omega arith), ne_eqb op disjunction_code (λ e. omega arith))
      (go (eqb op add_code) (eqb op subtract_code) (eqb op less_code) refl refl refl)
    where
      go : (a s t : Bool) → eqb op add_code ≡ a → eqb op subtract_code ≡ s → eqb op less_code ≡ t
          → Covers (operation_reading op v w) (pick a (sum_report x y) (pick s (difference_report x y) (pick t (less_report x y) (other_report op))))
      go true s t i j k = rw (eqb-true op add_code i) (sum_covers (two c d))
      go false true t i j k = rw (eqb-true op subtract_code j) (difference_covers (two c d))
      go false false true i j k = rw (eqb-true op less_code k) (less_covers (two c d))
      go false false false i j k = other_covers op v w (number_small c) (number_small d)

  is_word_covers : Covered is_word_code
  unfolding operator_reading operator_report other_report gives_truth_of row_of with when◌then◌else◌ if◌equals◌then◌else◌ if◌below◌then◌else◌
  is_word_covers = any_truth (is_word v)

  is_procedure_covers : Covered is_procedure_code
  unfolding operator_reading operator_report other_report gives_truth_of row_of with when◌then◌else◌ if◌equals◌then◌else◌ if◌below◌then◌else◌
  is_procedure_covers = any_truth (eqb v.sort procedure_term)

  negation_covers : Covered negation_code
  unfolding operator_reading operator_report if◌equals◌then◌else◌ if◌below◌then◌else◌
  negation_covers = not_covers c

  conjunction_covers : Covered conjunction_code
  unfolding operator_reading operator_report if◌equals◌then◌else◌ if◌below◌then◌else◌
  conjunction_covers = and_covers (two c d)

  disjunction_covers : Covered disjunction_code
  unfolding operator_reading operator_report if◌equals◌then◌else◌ if◌below◌then◌else◌
  disjunction_covers = or_covers (two c d)

  truth_code_covers : Covered truth_code
  unfolding operator_reading operator_report other_report gives_truth_of row_of with when◌then◌else◌ if◌equals◌then◌else◌ if◌below◌then◌else◌
  truth_code_covers = passes_covers v

  -- "Code 13 makes no term of its own", and there is no other in a table that is laid out
  pub operator_covers : (ts : List Term) (op a b : ℕ) → operands_laid_out ts op a b ≡ true → Covered op
  unfolding operands_laid_out if◌equals◌then◌else◌ if◌below◌then◌else◌
  operator_covers ts op a b h =
      by_test (eqb op 0) _ _ h (λ i e. never e) λ i h.
      by_test (ltb op not_code) _ _ h (λ i e. operation_covers op (ltb-true op not_code i)) λ i h.
      by_test (eqb op is_word_code) _ _ h (λ i e. subst (λ k. Covered k) (sym (eqb-true op is_word_code i)) is_word_covers) λ i h.
      by_test (eqb op is_procedure_code) _ _ h (λ i e. subst (λ k. Covered k) (sym (eqb-true op is_procedure_code i)) is_procedure_covers) λ i h.
      by_test (eqb op negation_code) _ _ h (λ i e. subst (λ k. Covered k) (sym (eqb-true op negation_code i)) negation_covers) λ i h.
      by_test (eqb op conjunction_code) _ _ h (λ i e. subst (λ k. Covered k) (sym (eqb-true op conjunction_code i)) conjunction_covers) λ i h.
      by_test (eqb op disjunction_code) _ _ h (λ i e. subst (λ k. Covered k) (sym (eqb-true op disjunction_code i)) disjunction_covers) λ i h.
      by_test (eqb op truth_code) _ _ h (λ i e. subst (λ k. Covered k) (sym (eqb-true op truth_code i)) truth_code_covers) λ i e. never e

-- ---- terms

-- two definitions by the same test
eq_covers : {v w : Reading} {x y : Report} (i j : ℕ) → (i ≡ j → Covers v x) → Covers w y → Covers (if i equals j then v else w) (if i equals j then x else y)
unfolding if◌equals◌then◌else◌
eq_covers {v} {w} {x} {y} i j f g = go (eqb i j) refl
  where
    go : (b : Bool) → eqb i j ≡ b → Covers (pick b v w) (pick b x y)
    go true e = f (eqb-true i j e)
    go false e = g

-- the number of input i lies between its ends, which are below a limit
pub record Between (limit : ℕ) (lows highs ns : List ℕ) (i : ℕ) : Type 0 where
  pub from_low : get_or lows i 0 ≤ get_or ns i 0
  pub to_high : get_or ns i 0 ≤ get_or highs i 0
  pub small : get_or highs i 0 < limit

-- what the reports ask of a term
pub record Sure (lows highs ns : List ℕ) (t : Term) : Type 0 where
  pub constant : Worded IsWord t
  pub truth : t.kind ≡ free_truth_term → Between 2 lows highs ns t.a
  pub word : t.kind ≡ free_word_term → Between word_limit lows highs ns t.a

module _ (n : ℕ) (us : List Term) (t : Term) (h : laid_out n us t ≡ true) where
  -- a procedure's record is a word
  procedure_small : t.kind ≡ procedure_term → t.a < record_limit
  unfolding laid_out if◌equals◌then◌else◌
  procedure_small k =
      by_test (eqb t.op 0) (ltb t.a record_limit && (names_binding us t.b && ltb t.c n)) false (rw k at h)
      (λ i e. both (ltb t.a record_limit) (names_binding us t.b && ltb t.c n) e λ p q. ltb-true t.a record_limit p) (λ i e. never e)

  -- a procedure, a binding
  open_covers : Covers (if t.kind equals procedure_term then reading_of procedure_term t.a else nothing) open_report
  unfolding if◌equals◌then◌else◌
  open_covers = go (eqb t.kind procedure_term) refl
    where
      go : (b : Bool) → eqb t.kind procedure_term ≡ b → Covers (pick b (reading_of procedure_term t.a) nothing) open_report
      go true e = let l = procedure_small (eqb-true t.kind procedure_term e) in open_kind {v = reading_of procedure_term t.a} {l = 0} {h = 0} (omega arith)
      go false e = open_kind {v = nothing} {l = 0} {h = 0} (omega arith)

  module _ (lows highs ns : List ℕ) (w : Sure lows highs ns t) (x y z : Reading) (u v q : Report) (c : Covers x u) (d : Covers y v) (e : Covers z q) where
    -- a term, of those that it names
    pub term_covers : Covers (term_reading ns t x y z) (term_report lows highs t u v q)
    unfolding term_reading term_report with
    term_covers =
        eq_covers _ _ (λ k. a_truth {n = t.a} {l = t.a} {h = t.a} (omega arith) (omega arith) (constant_small n us t h k))
        (eq_covers _ _ (λ k. a_word {n = term_word t} {l = term_word t} {h = term_word t} (omega arith) (omega arith) (w.constant k))
        (eq_covers _ _ (λ k. let b = w.truth k in a_truth b.from_low b.to_high b.small)
        (eq_covers _ _ (λ k. let b = w.word k in a_word b.from_low b.to_high b.small)
        (eq_covers _ _ (λ k. operator_covers c d us t.op t.a t.b (operator_laid n us t h k))
        (eq_covers _ _ (λ k. choice_covers c d e)
        open_covers)))))

-- Every term's reading lies in its report.
pub reports_cover : (lows highs ns : List ℕ) (n : ℕ) (ts : List Term) → well_formed n ts ≡ true → All (Sure lows highs ns) ts
    → (k : ℕ) → Covers (nth (readings ns ts) k) (report_at (reports lows highs ts) k)
unfolding readings reports
reports_cover lows highs ns n ts h w =
    fold_related Covers (term_reading ns) (term_report lows highs) (open_kind {v = nothing} {l = 0} {h = 0} (omega arith)) (λ us t. laid_out n us t ≡ true × Sure lows highs ns t)
    (λ us t p x y z u v q c d e. term_covers n us t p.0 lows highs ns p.1 x y z u v q c d e)
    ts (each_both _ _ ts (formed_each n ts h) w)
