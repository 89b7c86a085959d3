-- The bindings in scope and test 7 on a small rule that has every kind of part, by computation: a definition that counts otherwise is refused
-- beside the definitions. Assumes nothing.
use Prim.Native.Nat.{ℕ}
use mathlib.Core.Path.{◌≡◌, refl}
use mathlib.Core.List.{List, [], ◌∷◌}
use Rattle.semantics.specs.Numbers.{datum_record, variable_record, procedure_record, let_record, if_record, false_datum, bad_place}
use Rattle.semantics.specs.Rules as Rules
use Rattle.semantics.proofs.Computing.{computing}

-- the 8 bytes of a record, each field below 256
abbrev bytes : ℕ → ℕ → ℕ → ℕ → List ℕ → List ℕ
bytes k p q r rest = k ∷ false_datum ∷ p ∷ 0 ∷ q ∷ 0 ∷ r ∷ 0 ∷ rest

-- A let of an if and of a procedure. The if has a datum and a let, of places a and b; the procedure has a let, of place c and of a procedure whose
-- body is place d.
abbrev nested : ℕ → ℕ → ℕ → ℕ → List ℕ
nested a b c d =
    bytes let_record 1 2 0 (bytes if_record 0 3 4 (bytes procedure_record 5 0 0 (bytes datum_record 0 0 0 (bytes let_record 6 7 0 (bytes let_record 8 9 0 (
    bytes variable_record a 0 0 (bytes variable_record b 0 0 (bytes variable_record c 0 0 (bytes procedure_record 10 0 0 (bytes variable_record d 0 0 []))))))))))

-- the bindings in scope at some records
abbrev counts : List ℕ → List ℕ → List ℕ
counts s [] = []
counts s (i ∷ is) = Rules.in_scope_at s i ∷ counts s is

pub record ScopeInstances : Type 0 where
  -- one binding for each procedure's body and each let's second part on the way
  pub in_scope : counts (nested 15 16 17 19) (0 ∷ 1 ∷ 2 ∷ 3 ∷ 4 ∷ 5 ∷ 6 ∷ 7 ∷ 8 ∷ 9 ∷ 10 ∷ []) ≡ 0 ∷ 0 ∷ 1 ∷ 0 ∷ 0 ∷ 2 ∷ 0 ∷ 1 ∷ 2 ∷ 3 ∷ 4 ∷ []
  -- "under d bindings input i is place d + i, for 16 inputs"
  pub last_input : Rules.rule_refusal_of (nested 15 16 17 19) ≡ 0
  pub past_in_a_first_part : Rules.rule_refusal_of (nested 16 16 17 19) ≡ bad_place
  pub past_in_a_second_part : Rules.rule_refusal_of (nested 15 17 17 19) ≡ bad_place
  pub past_in_a_body : Rules.rule_refusal_of (nested 15 16 18 19) ≡ bad_place
  pub past_under_all : Rules.rule_refusal_of (nested 15 16 17 20) ≡ bad_place

pub scope_instances : ScopeInstances
unfolding computing
scope_instances =
    record {
      in_scope = refl;
      last_input = refl;
      past_in_a_first_part = refl;
      past_in_a_second_part = refl;
      past_in_a_body = refl;
      past_under_all = refl;
    }
