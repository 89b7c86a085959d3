-- The bindings in scope at the records of a rule (document 02, Three): "Keep the count of bindings with each record as the check goes down, proved
-- to be that of the bindings in scope there". Assumes nothing.
use Rattle.std.specs.Prelude.{ℕ, ◌+◌, ◌<◌, ◌≤◌, ◌≡◌, true, false, List, get_or, length}
use Rattle.notation.specs.Notation.{up_to, In}
use Rattle.semantics.specs.Numbers.{input_count, bad_place}
use Rattle.semantics.specs.Records.{record_at, records_in}
use Rattle.semantics.specs.Rules.{part, parts_of, bad_rule_size, shaped_of, linked_of, places_of, in_scope_at, rule_refusal_of}

-- a list keeps with each of n records the bindings in scope there, if the records are a tree
pub record KeptInScope (s : List ℕ) (n : ℕ) (kept : List ℕ) : Type 0 where
  pub is : up_to n (linked_of s n) ≡ true → (i : ℕ) → i < n → get_or kept i 0 ≡ in_scope_at s i

-- a way from record 0 down to a record, and how many bindings are entered along it
pub data Way (s : List ℕ) : ℕ → ℕ → Type 0 where
  start : Way s 0 0
  enter : {i d c m : ℕ} → Way s i d → In (part c m) (parts_of (record_at s i)) → Way s c (d + m)

-- a record with a place at or past the bindings in scope and the sixteen inputs
pub record OutOfScope (s : List ℕ) : Type 0 where
  pub at : ℕ
  pub low : at < records_in s
  pub place : ℕ
  pub used : In place (places_of (record_at s at))
  pub past : in_scope_at s at + input_count ≤ place

-- a rule that 4 to 6 take
pub record ATree (s : List ℕ) : Type 0 where
  pub sized : bad_rule_size (length s) ≡ false
  pub shaped : up_to (records_in s) (λ i. shaped_of (record_at s i)) ≡ true
  pub linked : up_to (records_in s) (linked_of s (records_in s)) ≡ true

-- what holds of its scopes
pub record ScopesHold (s : List ℕ) : Type 0 where
  -- there is a way down to each record, and each way down to it enters the bindings in scope there
  pub way : (i : ℕ) → i < records_in s → Way s i (in_scope_at s i)
  pub only : (i d : ℕ) → Way s i d → d ≡ in_scope_at s i
  -- it is refused by 7 exactly when a place is out of scope, and by no other number
  pub seven : rule_refusal_of s ≡ bad_place → OutOfScope s
  pub refused : OutOfScope s → rule_refusal_of s ≡ bad_place
  pub taken : (OutOfScope s → ⊥) → rule_refusal_of s ≡ 0
