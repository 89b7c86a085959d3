-- What is a rule: the refusals 4 to 7 (document 01, "Rule records" and "Evaluate"). Each test goes over all records before the next begins.
-- Assumes nothing.
use Rattle.std.specs.Prelude.{ℕ, zero, suc, ◌+◌, ◌%◌, Bool, true, false, not, ◌&&◌, ◌||◌, List, [], ◌∷◌, eqb, ltb, length}
use Rattle.notation.specs.Notation.{with, when◌then◌else◌, if◌equals◌then◌else◌, if◌below◌then◌else◌, unless◌then◌else◌, up_to, every}
use Rattle.words.specs.Words.{word_fields}
use Rattle.operators.specs.Operators.{operands_of}
use Rattle.semantics.specs.declared.Record.{Record}
use Rattle.semantics.specs.Numbers.{datum_record, variable_record, procedure_record, call_record, operator_record, let_record, if_record, abort_record, error_record, word_datum, is_procedure_code, input_count, rule_bytes, rule_size, bad_record, bad_tree, bad_place}
use Rattle.semantics.specs.Records.{record_at, field_of, records_in}

-- ---- 4: "rule bytes none, above 32,768 or not a multiple of 8"
unfoldable pub bad_rule_size : ℕ → Bool
bad_rule_size l = eqb l 0 || (ltb rule_bytes l || not (eqb (l % 8) 0))

-- ---- 5: "a kind, op or unused field not as above"

-- how many of p, q and r, in this order, a record of its kind and op uses; 4 where there is no such kind or op
unfoldable pub uses_of : Record → ℕ
uses_of x =
    if x.kind equals datum_record then (if x.op below word_datum then 0 else if x.op equals word_datum then word_fields else 4) else
    if x.kind equals operator_record then (if is_procedure_code below x.op then 4 else with (operands_of x.op) λ n. if n equals 0 then 4 else n) else
    if x.op equals 0 then (
    if x.kind equals variable_record then 1 else
    if x.kind equals procedure_record then 1 else
    if x.kind equals call_record then 2 else
    if x.kind equals let_record then 2 else
    if x.kind equals if_record then 3 else
    if x.kind equals abort_record then 0 else
    if x.kind equals error_record then 0 else 4) else
    4

-- "Unused fields are zero"
unfoldable pub shaped_of : Record → Bool
shaped_of x = with (uses_of x) λ u. if u equals 4 then false else (field_of u 0 x.p && (field_of u 1 x.q && field_of u 2 x.r))

-- ---- 6: "the tree, or a child past the last record"

-- A child, and how many bindings it has more than its parent.
pub record Part : Type 0 where
  pub child : ℕ
  pub more : ℕ

abbrev pub part : ℕ → ℕ → Part
part c m = record { child = c; more = m }

-- "3 procedure: p is its body"; "6 let: p is evaluated, q is evaluated with one more binding"; "7 if: then q, else r"
unfoldable pub parts_of : Record → List Part
parts_of x =
    if x.kind equals procedure_record then part x.p 1 ∷ [] else
    if x.kind equals let_record then part x.p 0 ∷ part x.q 1 ∷ [] else
    if x.kind equals if_record then part x.q 0 ∷ part x.r 0 ∷ [] else
    []

-- "Each child's number is greater than its parent's", here i, and below the count, n
unfoldable pub inside_of : ℕ → ℕ → Part → Bool
inside_of i n c = ltb i c.child && ltb c.child n

-- how often j is among the children
unfoldable pub times_in : ℕ → List Part → ℕ
times_in j [] = 0
times_in j (c ∷ cs) = (if j equals c.child then 1 else 0) + times_in j cs

-- how often j is a child of the first n records
unfoldable pub times_below : List ℕ → ℕ → ℕ → ℕ
times_below s zero j = 0
times_below s (suc n) j = times_below s n j + times_in j (parts_of (record_at s n))

-- "each record but 0 is a child once"
unfoldable pub once_of : ℕ → ℕ → Bool
once_of i times = if i equals 0 then true else eqb times 1

-- record i of n stands in the tree
unfoldable pub linked_of : List ℕ → ℕ → ℕ → Bool
linked_of s n i = every (inside_of i n) (parts_of (record_at s i)) && once_of i (times_below s n i)

-- ---- 7: "a place out of scope"

-- "2 variable: p is a place"; "4 call: place p applied to place q"; "5 operator op on places p and q (p only for one operand)"; "7 if: place p tested"
unfoldable pub places_of : Record → List ℕ
places_of x =
    if x.kind equals variable_record then x.p ∷ [] else
    if x.kind equals call_record then x.p ∷ x.q ∷ [] else
    if x.kind equals operator_record then (with (operands_of x.op) λ n. if n equals 1 then x.p ∷ [] else x.p ∷ x.q ∷ []) else
    if x.kind equals if_record then x.p ∷ [] else
    []

-- how many bindings record c has more than its parent, whose parts are given
unfoldable pub more_in : ℕ → List Part → ℕ
more_in c [] = 0
more_in c (p ∷ ps) = if c equals p.child then p.more else more_in c ps

-- the parent of record c, among the first n records: the one that has it for a child; 0 where none has
unfoldable pub parent_below : List ℕ → ℕ → ℕ → ℕ
parent_below s zero c = 0
parent_below s (suc n) c = if times_in c (parts_of (record_at s n)) equals 0 then parent_below s n c else n

-- the bindings that are entered along the way from record 0 down to record c, through at most h parts: one for each procedure's body and each
-- let's second part
unfoldable pub entered_of : List ℕ → ℕ → ℕ → ℕ
entered_of s zero c = 0
entered_of s (suc h) c = if c equals 0 then 0 else with (parent_below s c c) λ p. entered_of s h p + more_in c (parts_of (record_at s p))

-- the bindings in scope at record c. A parent stands before its children, so the way to record c has at most c parts.
unfoldable pub in_scope_at : List ℕ → ℕ → ℕ
in_scope_at s c = entered_of s c c

-- "under d bindings input i is place d + i, for 16 inputs": the places of record i are in scope
unfoldable pub scoped_of : List ℕ → ℕ → Bool
scoped_of s i = with (in_scope_at s i) λ d. every (λ p. ltb p (d + input_count)) (places_of (record_at s i))

-- ---- the first of 4 to 7 that refuses a rule; 0 where none does
unfoldable pub tests_of : List ℕ → ℕ → ℕ
tests_of s n =
    unless up_to n (λ i. shaped_of (record_at s i)) then bad_record else
    unless up_to n (linked_of s n) then bad_tree else
    unless up_to n (scoped_of s) then bad_place else
    0

unfoldable pub rule_refusal_of : List ℕ → ℕ
rule_refusal_of s = when bad_rule_size (length s) then rule_size else tests_of s (records_in s)
