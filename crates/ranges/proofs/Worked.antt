-- What an operator on one word each is worked out to is what is read. Assumes nothing.
use mathlib.Core.Path.{◌≡◌, refl, sym, ap, subst}
use mathlib.Core.Bool.{Bool, true, false}
use Prim.Native.Nat.{ℕ, ◌<◌}
use native.Mathlib.Omega.{arith}
use lib.Dec.{eqb}
use borrow.Author.Tests.{eqb-true}
use Rattle.notation.specs.Notation.{pick, with, when◌then◌else◌, if◌equals◌then◌else◌}
use Rattle.words.specs.Words.{word_limit}
use Rattle.operators.specs.Operators.{operands_of, gives_truth_of, operate_of}
use Rattle.semantics.specs.declared.Reading.{Reading}
use Rattle.semantics.specs.declared.Report.{Report}
use Rattle.semantics.specs.Numbers.{truth_term, word_term, not_code}
use Rattle.semantics.specs.Reading.{reading_of, is_word, result_reading, operands_are_words, operation_reading}
use Rattle.semantics.specs.Spans.{truth_report, word_report}
use Rattle.semantics.proofs.Operands.{one_operand}
use Rattle.typing.proofs.Formed.{never}
use Rattle.soundness.proofs.Link.{operate_small}
use Rattle.certainty.proofs.Operate.{operate_word}
use Rattle.certainty.proofs.Covers.{Covers, open_kind, a_truth, a_word, number_small}
use Rattle.ranges.specs.Ranges.{one_word, one_word_each, worked_out}

-- one word
one_is : {v : Reading} {x : Report} → Covers v x → one_word x ≡ true → v ≡ reading_of word_term x.low
unfolding one_word if◌equals◌then◌else◌
one_is (open_kind p) e = never e
one_is (a_truth p q r) e = never e
one_is (a_word {n = n} {l = l} {h = h} p q r) e = let i = eqb-true l h e in let j : n ≡ l = omega arith in ap (reading_of word_term) j

one_small : {v : Reading} {x : Report} → Covers v x → one_word x ≡ true → x.low < word_limit
one_small c e = subst (λ (z : Reading). z.number < word_limit) (one_is c e) (number_small c)

-- a number as the operator gives it
worked_covers : (op w : ℕ) → w < word_limit → (gives_truth_of op ≡ true → w < 2) → Covers (result_reading op w) (worked_out op w)
unfolding result_reading worked_out with when◌then◌else◌
worked_covers op w l b = go (gives_truth_of op) refl
  where
    go : (c : Bool) → gives_truth_of op ≡ c → Covers (pick c (reading_of truth_term w) (reading_of word_term w)) (pick c (truth_report w w) (word_report w w))
    go true h = a_truth {n = w} {l = w} {h = w} (omega arith) (omega arith) (b h)
    go false h = a_word {n = w} {l = w} {h = w} (omega arith) (omega arith) l

module _ (op : ℕ) {v w : Reading} {x y : Report} (l : op < not_code) (c : Covers v x) (d : Covers w y) where
  operation_one : one_word_each op x y ≡ true → (operation_reading op v w ≡ result_reading op (operate_of op x.low y.low)) × (operate_of op x.low y.low < word_limit)
  unfolding one_word_each operation_reading operands_are_words is_word with when◌then◌else◌ if◌equals◌then◌else◌
  operation_one h = go (one_word x) (eqb (operands_of op) 1) (one_word y) refl refl refl h
    where
      go : (a b e : Bool) → one_word x ≡ a → eqb (operands_of op) 1 ≡ b → one_word y ≡ e → pick a (pick b true e) false ≡ true
          → (pick (pick (eqb v.sort word_term) (pick (eqb (operands_of op) 1) true (eqb w.sort word_term)) false) (result_reading op (operate_of op v.number w.number)) (result_reading op 0)
          ≡ result_reading op (operate_of op x.low y.low))
          × (operate_of op x.low y.low < word_limit)
      go true true e p q r k =
          let one = eqb-true (operands_of op) 1 q in (
            rw (one_is c p, q) (ap (result_reading op) (one_operand op x.low w.number y.low l one)),
            rw (one_operand op x.low y.low 0 l one) (operate_word op x.low 0 (one_small c p) (omega arith)),
          )
      go true false true p q r k = (rw (one_is c p, q, one_is d r), operate_word op x.low y.low (one_small c p) (one_small d r))
      go true false false p q r k = never k
      go false b e p q r k = never k

  pub one_covers : one_word_each op x y ≡ true → Covers (operation_reading op v w) (worked_out op (operate_of op x.low y.low))
  one_covers h =
      let z = operation_one h in
      subst (λ r. Covers r (worked_out op (operate_of op x.low y.low))) (sym z.0) (worked_covers op (operate_of op x.low y.low) z.1 (operate_small op x.low y.low))
