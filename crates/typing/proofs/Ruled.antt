-- What the tests 4 to 7 say of a rule that passes them, and what evaluation needs of it: a datum's op, an operator's code, and that a procedure's
-- record is one of 4,096. Assumes nothing.
use mathlib.Core.Path.{◌≡◌, refl}
use mathlib.Core.Bool.{Bool, true, false, not, ◌||◌}
use mathlib.Core.List.{List}
use Prim.Native.Nat.{ℕ, ◌*◌, ◌%◌, ◌<◌, ◌≤◌}
use native.Mathlib.Omega.{arith}
use lib.ListN.{length, get_or-eq_default}
use lib.Dec.{eqb, ltb}
use borrow.Author.Tests.{eqb-true, eqb-false, ltb-true, ltb-false, ne_eqb, le-ltb}
use Rattle.notation.specs.Notation.{pick, with, when◌then◌else◌, if◌equals◌then◌else◌, if◌below◌then◌else◌, unless◌then◌else◌, up_to}
use Rattle.notation.proofs.Every.{up_all}
use Rattle.operators.specs.Operators.{row_of, operands_of}
use Rattle.semantics.specs.declared.Record.{Record}
use Rattle.semantics.specs.Numbers.{datum_record, procedure_record, operator_record, word_datum, record_limit, rule_bytes, rule_size, bad_record, bad_tree, bad_place}
use Rattle.semantics.specs.Records.{record_at, records_in}
use Rattle.semantics.specs.Rules.{bad_rule_size, uses_of, shaped_of, linked_of, scoped_of, tests_of, rule_refusal_of}
use Rattle.typing.proofs.Formed.{never, by_test}

-- past the last record every field is zero
past_kind : (s : List ℕ) (i : ℕ) → length s ≤ 8 * i → (record_at s i).kind ≡ 0
unfolding record_at
past_kind s i h = get_or-eq_default s 0 h

-- ---- what each of the tests 4 to 7 says of a rule that passes them
pub record Tested (s : List ℕ) : Type 0 where
  pub some : 0 < records_in s
  pub few : length s ≤ rule_bytes
  pub whole : length s % 8 ≡ 0
  pub shaped : up_to (records_in s) (λ i. shaped_of (record_at s i)) ≡ true
  pub linked : up_to (records_in s) (linked_of s (records_in s)) ≡ true
  pub scoped : up_to (records_in s) (scoped_of s) ≡ true

module _ (s : List ℕ) (h : rule_refusal_of s ≡ 0) where
  pub tested : Tested s
  unfolding rule_refusal_of when◌then◌else◌ tests_of unless◌then◌else◌ bad_rule_size
  tested =
      go (eqb (length s) 0) (ltb rule_bytes (length s)) (eqb (length s % 8) 0) (up_to (records_in s) (λ i. shaped_of (record_at s i))) (up_to (records_in s) (linked_of s (records_in s)))
      (up_to (records_in s) (scoped_of s)) refl refl refl refl refl refl h
    where
      go : (a b c p q r : Bool) → eqb (length s) 0 ≡ a → ltb rule_bytes (length s) ≡ b → eqb (length s % 8) 0 ≡ c → up_to (records_in s) (λ i. shaped_of (record_at s i)) ≡ p
          → up_to (records_in s) (linked_of s (records_in s)) ≡ q → up_to (records_in s) (scoped_of s) ≡ r
          → pick (a || (b || not c)) rule_size (pick p (pick q (pick r 0 bad_place) bad_tree) bad_record) ≡ 0 → Tested s
      go true b c p q r _ _ _ _ _ _ e = absurd (omega arith)
      go false true c p q r _ _ _ _ _ _ e = absurd (omega arith)
      go false false false p q r _ _ _ _ _ _ e = absurd (omega arith)
      go false false true false q r _ _ _ _ _ _ e = absurd (omega arith)
      go false false true true false r _ _ _ _ _ _ e = absurd (omega arith)
      go false false true true true false _ _ _ _ _ _ e = absurd (omega arith)
      go false false true true true true i j k x y z e =
          let m = eqb-true (length s % 8) 0 k in
          record { some = omega (arith, eqb-false (length s) 0 i); few = omega (arith, ltb-false rule_bytes (length s) j); whole = m; shaped = x; linked = y; scoped = z }

  -- a record with a kind stands in the rule
  inside : (i k : ℕ) → (record_at s i).kind ≡ k → eqb k 0 ≡ false → i < records_in s
  inside i k e o = go (ltb i (records_in s)) refl
    where
      go : (b : Bool) → ltb i (records_in s) ≡ b → i < records_in s
      go true p = omega (arith, ltb-true i (records_in s) p)
      go false p =
          let j : records_in s ≤ i = omega (arith, ltb-false i (records_in s) p) in
          let m = tested.whole in
          let z : (record_at s i).kind ≡ 0 = past_kind s i (omega arith) in
          absurd (omega (arith, eqb-false k 0 o))

  shape : (i k : ℕ) → (record_at s i).kind ≡ k → eqb k 0 ≡ false → shaped_of (record_at s i) ≡ true
  shape i k e o = up_all (λ j. shaped_of (record_at s j)) (records_in s) tested.shaped i (inside i k e o)

-- a record that is shaped uses some of its fields
uses_some : (x : Record) → shaped_of x ≡ true → uses_of x ≡ 4 → ⊥
unfolding shaped_of with if◌equals◌then◌else◌
uses_some x h e = never (rw (e) at h)

datum_none : (x : Record) → x.kind ≡ datum_record → word_datum < x.op → uses_of x ≡ 4
unfolding uses_of if◌equals◌then◌else◌ if◌below◌then◌else◌
datum_none x k l =
    let a : word_datum ≤ x.op = omega arith in
    let b : x.op ≡ word_datum → ⊥ = λ e. omega arith in
    rw (k, le-ltb _ _ a, ne_eqb _ _ b)

datum_op : (x : Record) → shaped_of x ≡ true → x.kind ≡ datum_record → x.op ≤ word_datum
datum_op x h k = go (ltb word_datum x.op) refl
  where
    go : (b : Bool) → ltb word_datum x.op ≡ b → x.op ≤ word_datum
    go true e = absurd (uses_some x h (datum_none x k (omega (arith, ltb-true word_datum x.op e))))
    go false e = omega (arith, ltb-false word_datum x.op e)

operator_some : (x : Record) → shaped_of x ≡ true → x.kind ≡ operator_record → x.op ≡ 0 → ⊥
unfolding uses_of if◌equals◌then◌else◌ if◌below◌then◌else◌ with operands_of row_of
operator_some x h k o = uses_some x h (rw (k, o))

-- ---- what evaluation needs of a rule
pub record Ruled (rule : List ℕ) : Type 0 where
  pub datum : (i : ℕ) → (record_at rule i).kind ≡ datum_record → (record_at rule i).op ≤ word_datum
  pub operator : (i : ℕ) → (record_at rule i).kind ≡ operator_record → (record_at rule i).op ≡ 0 → ⊥
  pub procedure : (i : ℕ) → (record_at rule i).kind ≡ procedure_record → i < record_limit

pub ruled : (s : List ℕ) → rule_refusal_of s ≡ 0 → Ruled s
ruled s h =
    record {
      datum = λ i k. datum_op (record_at s i) (shape s h i datum_record k refl) k;
      operator = λ i k. operator_some (record_at s i) (shape s h i operator_record k refl) k;
      procedure = λ i k. let l = inside s h i procedure_record k refl in let m = (tested s h).few in omega arith;
    }
