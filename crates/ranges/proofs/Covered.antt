-- WHAT A TERM READS AS LIES IN ITS RANGE, where what those read as that it names lies in theirs. Assumes nothing.
use mathlib.Core.Path.{◌≡◌, refl}
use mathlib.Core.Bool.{Bool, true, false}
use mathlib.Core.List.{List}
use Prim.Native.Nat.{ℕ, ◌<◌}
use lib.Dec.{eqb, ltb}
use borrow.Author.Tests.{eqb-true, ltb-true, lt-ltb}
use Rattle.notation.specs.Notation.{pick, with, when◌then◌else◌, if◌equals◌then◌else◌, if◌below◌then◌else◌}
use Rattle.operators.specs.Operators.{operate_of}
use Rattle.semantics.specs.declared.Term.{Term}
use Rattle.semantics.specs.declared.Reading.{Reading}
use Rattle.semantics.specs.declared.Report.{Report}
use Rattle.semantics.specs.Numbers.{operator_term, ones_code, zeros_code, equal_code, not_code, is_word_code, is_procedure_code, truth_code}
use Rattle.semantics.specs.Terms.{operands_laid_out, laid_out}
use Rattle.semantics.specs.Reading.{operation_reading, operator_reading, term_reading}
use Rattle.semantics.specs.Spans.{operator_report, term_report}
use Rattle.soundness.proofs.Link.{operator_laid}
use Rattle.certainty.proofs.Covers.{Covers, two}
use Rattle.certainty.proofs.Reports.{operator_covers, Sure, term_covers}
use Rattle.ranges.specs.Ranges.{one_word_each, worked_out, ones_range, zeros_range, equal_range, operation_range, is_word_range, is_procedure_range, truth_range, operator_range, term_range}
use Rattle.ranges.proofs.Worked.{one_covers}
use Rattle.ranges.proofs.Codes.{ones_covers, zeros_covers, equal_covers, is_word_covers, is_procedure_covers, truth_code_covers}

module _ {v w : Reading} {x y : Report} (c : Covers v x) (d : Covers w y) (ts : List Term) (op a b : ℕ) (h : operands_laid_out ts op a b ≡ true) where
  -- request Two's report
  reported : Covers (operator_reading op v w) (operator_report op x y)
  reported = operator_covers c d ts op a b h

  -- the codes 1 to 12
  operation_reported : op < not_code → Covers (operation_reading op v w) (operator_report op x y)
  unfolding operator_reading if◌below◌then◌else◌
  operation_reported l = rw (lt-ltb op not_code l) at reported

  operation_covers : op < not_code → Covers (operation_reading op v w) (operation_range op x y)
  unfolding operation_range with when◌then◌else◌ if◌equals◌then◌else◌
  operation_covers l = go (one_word_each op x y) (eqb op ones_code) (eqb op zeros_code) (eqb op equal_code) refl refl refl refl
    where
      go : (e i j k : Bool) → one_word_each op x y ≡ e → eqb op ones_code ≡ i → eqb op zeros_code ≡ j → eqb op equal_code ≡ k
          → Covers (operation_reading op v w)
          (pick e (worked_out op (operate_of op x.low y.low)) (pick i (ones_range x) (pick j (zeros_range x) (pick k (equal_range x y) (operator_report op x y)))))
      go true i j k p q r s = one_covers op l c d p
      go false true j k p q r s = rw (eqb-true op ones_code q) (ones_covers w c)
      go false false true k p q r s = rw (eqb-true op zeros_code r) (zeros_covers w c)
      go false false false true p q r s = rw (eqb-true op equal_code s) (equal_covers (two c d))
      go false false false false p q r s = operation_reported l

  -- all codes
  abbrev Read : Report → Type 0
  Read r = Covers (operator_reading op v w) r

  read_operation : op < not_code → Read (operation_range op x y)
  unfolding operator_reading if◌below◌then◌else◌
  read_operation l = rw (lt-ltb op not_code l) (operation_covers l)

  read_is_word : op ≡ is_word_code → Read (is_word_range x)
  unfolding operator_reading if◌equals◌then◌else◌ if◌below◌then◌else◌
  read_is_word e = rw e (is_word_covers c)

  read_is_procedure : op ≡ is_procedure_code → Read (is_procedure_range x)
  unfolding operator_reading if◌equals◌then◌else◌ if◌below◌then◌else◌
  read_is_procedure e = rw e (is_procedure_covers c)

  read_truth : op ≡ truth_code → Read (truth_range x)
  unfolding operator_reading if◌equals◌then◌else◌ if◌below◌then◌else◌
  read_truth e = rw e (truth_code_covers c)

  operator_ranged : Read (operator_range op x y)
  unfolding operator_range if◌equals◌then◌else◌ if◌below◌then◌else◌
  operator_ranged = go (ltb op not_code) (eqb op is_word_code) (eqb op is_procedure_code) (eqb op truth_code) refl refl refl refl
    where
      go : (e i j k : Bool) → ltb op not_code ≡ e → eqb op is_word_code ≡ i → eqb op is_procedure_code ≡ j → eqb op truth_code ≡ k
          → Read (pick e (operation_range op x y) (pick i (is_word_range x) (pick j (is_procedure_range x) (pick k (truth_range x) (operator_report op x y)))))
      go true i j k p q r s = read_operation (ltb-true op not_code p)
      go false true j k p q r s = read_is_word (eqb-true op is_word_code q)
      go false false true k p q r s = read_is_procedure (eqb-true op is_procedure_code r)
      go false false false true p q r s = read_truth (eqb-true op truth_code s)
      go false false false false p q r s = reported

-- a term that is laid out over the terms us, whose constant is a word and whose input lies between its ends
module _ (n : ℕ) (us : List Term) (t : Term) (h : laid_out n us t ≡ true) (lows highs ns : List ℕ) (w : Sure lows highs ns t)
    (x y z : Reading) (u v q : Report) (c : Covers x u) (d : Covers y v) (e : Covers z q) where
  operator : t.kind ≡ operator_term → Covers (term_reading ns t x y z) (operator_range t.op u v)
  unfolding term_reading if◌equals◌then◌else◌
  operator k = rw k (operator_ranged c d us t.op t.a t.b (operator_laid n us t h k))

  pub range_covers : Covers (term_reading ns t x y z) (term_range lows highs t u v q)
  unfolding term_range if◌equals◌then◌else◌
  range_covers = go (eqb t.kind operator_term) refl
    where
      go : (b : Bool) → eqb t.kind operator_term ≡ b → Covers (term_reading ns t x y z) (pick b (operator_range t.op u v) (term_report lows highs t u v q))
      go true k = operator (eqb-true t.kind operator_term k)
      go false k = term_covers n us t h lows highs ns w x y z u v q c d e
