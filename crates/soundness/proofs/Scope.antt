-- The run with false at places past the end is the concrete run, for a rule whose places are in scope, and it gives values alone. Assumes nothing.
use mathlib.Core.Path.{◌≡◌, refl, sym, ap, subst, ◌∙◌}
use mathlib.Core.Bool.{Bool, true, false}
use mathlib.Core.List.{List, [], ◌∷◌}
use Prim.Native.Nat.{ℕ, zero, suc, ◌+◌, ◌<◌, ◌≤◌}
use native.Mathlib.Omega.{arith}
use lib.Dec.{eqb, ltb}
use borrow.Author.Tests.{eqb-true, ne_eqb, ltb-true, ltb-false}
use Rattle.notation.specs.Notation.{pick, with, when◌then◌else◌, if◌equals◌then◌else◌, if◌below◌then◌else◌, In, here, there}
use Rattle.operators.specs.Operators.{operands_of, gives_truth_of, operate_of}
use Rattle.semantics.specs.Numbers.{variable_record, procedure_record, call_record, operator_record, let_record, if_record, word_datum, true_datum, not_code, is_word_code, input_count}
use Rattle.semantics.specs.declared.Record.{Record}
use Rattle.semantics.specs.Records.{record_at}
use Rattle.semantics.specs.Rules.{part, parts_of, places_of}
use Rattle.semantics.specs.Run.{Value, truth, word, procedure, binding, none, Ended, gives, aborts, errs, spends, Running, after, placed_or, placed, is_false, is_aword, is_aprocedure, word_in, operation_value, words_run, operator_run, datum_value, call_run, expression_run, run_by, run_of}
use Rattle.soundness.proofs.Means.{is_proper}
use Rattle.soundness.proofs.Cases.{operated_is, test_run}
use Rattle.soundness.proofs.Sim.{look_of, total_of}

-- how many bindings there are
abbrev pub bound : Value → ℕ
bound (truth b) = 0
bound (word w) = 0
bound (procedure i e) = 0
bound (binding v e) = suc (bound e)
bound none = 0

-- ---- parts and places by a record's kind
module _ (x : Record) where
  body_in : x.kind ≡ procedure_record → In (part x.p 1) (parts_of x)
  unfolding parts_of if◌equals◌then◌else◌
  body_in k = rw k here

  given_in : x.kind ≡ let_record → In (part x.p 0) (parts_of x)
  unfolding parts_of if◌equals◌then◌else◌
  given_in k = rw k here

  inner_in : x.kind ≡ let_record → In (part x.q 1) (parts_of x)
  unfolding parts_of if◌equals◌then◌else◌
  inner_in k = rw k (there here)

  yes_in : x.kind ≡ if_record → In (part x.q 0) (parts_of x)
  unfolding parts_of if◌equals◌then◌else◌
  yes_in k = rw k here

  no_in : x.kind ≡ if_record → In (part x.r 0) (parts_of x)
  unfolding parts_of if◌equals◌then◌else◌
  no_in k = rw k (there here)

  variable_in : x.kind ≡ variable_record → In x.p (places_of x)
  unfolding places_of if◌equals◌then◌else◌
  variable_in k = rw k here

  called_in : x.kind ≡ call_record → In x.p (places_of x)
  unfolding places_of if◌equals◌then◌else◌
  called_in k = rw k here

  argument_in : x.kind ≡ call_record → In x.q (places_of x)
  unfolding places_of if◌equals◌then◌else◌
  argument_in k = rw k (there here)

  first_in : x.kind ≡ operator_record → In x.p (places_of x)
  unfolding places_of if◌equals◌then◌else◌ with
  first_in k = rw k (go (eqb (operands_of x.op) 1))
    where
      go : (b : Bool) → In x.p (pick b (x.p ∷ []) (x.p ∷ x.q ∷ []))
      go true = here
      go false = here

  second_in : x.kind ≡ operator_record → (operands_of x.op ≡ 1 → ⊥) → In x.q (places_of x)
  unfolding places_of if◌equals◌then◌else◌ with
  second_in k d = rw (k, ne_eqb _ _ d) (there here)

  tested_in : x.kind ≡ if_record → In x.p (places_of x)
  unfolding places_of if◌equals◌then◌else◌
  tested_in k = rw k here

-- ---- places
pub look_placed : (p : ℕ) (e : Value) → p < bound e → look_of p e ≡ placed p e
unfolding placed_or
look_placed p (truth b) h = absurd (omega arith)
look_placed p (word w) h = absurd (omega arith)
look_placed p (procedure i e) h = absurd (omega arith)
look_placed zero (binding v e) h = refl
look_placed (suc p) (binding v e) h = look_placed p e (omega arith)
look_placed p none h = absurd (omega arith)

-- ---- a rule of n records, of which record i stands under `need i` bindings
pub record Under (n : ℕ) (need : ℕ → ℕ) (c m : ℕ) : Type 0 where
  pub low : c < n
  pub is : need c ≡ m

-- its places are in scope, and its parts stand under the bindings that they are told
pub record Scoped (rule : List ℕ) (n : ℕ) (need : ℕ → ℕ) : Type 0 where
  pub places : {p : ℕ} (i : ℕ) → i < n → In p (places_of (record_at rule i)) → p < need i + input_count
  pub parts : {c m : ℕ} (i : ℕ) → i < n → In (part c m) (parts_of (record_at rule i)) → Under n need c (need i + m)

module _ (rule : List ℕ) (n : ℕ) (need : ℕ → ℕ) where
  -- every procedure in it has a body, and bindings enough for it; what is bound is a value
  abbrev pub Good : Value → Type 0
  Good (truth b) = Unit {0}
  Good (word w) = Unit {0}
  Good (procedure i e) = (need (record_at rule i).p + input_count ≤ suc (bound e)) × ((record_at rule i).p < n) × Good e
  Good (binding v e) = (is_proper v ≡ true) × Good v × Good e
  Good none = Unit {0}

  -- a value, which is no binding and not missing
  pub record GoodValue (v : Value) : Type 0 where
    pub proper : is_proper v ≡ true
    pub good : Good v

  abbrev pub GoodEnd : Ended → Type 0
  GoodEnd (gives v) = GoodValue v
  GoodEnd aborts = Unit {0}
  GoodEnd errs = Unit {0}
  GoodEnd spends = Unit {0}

  pub record Agree (o p : Ended) : Type 0 where
    pub same : o ≡ p
    pub good : GoodEnd p

  placed_good : (p : ℕ) (e : Value) → p < bound e → Good e → GoodValue (placed p e)
  unfolding placed_or
  placed_good p (truth b) h g = absurd (omega arith)
  placed_good p (word w) h g = absurd (omega arith)
  placed_good p (procedure i e) h g = absurd (omega arith)
  placed_good zero (binding v e) h g = record { proper = g.0; good = g.1 }
  placed_good (suc p) (binding v e) h g = placed_good p e (omega arith) g.2
  placed_good p none h g = absurd (omega arith)

  -- ---- operators give truths and words
  operation_good : (op x y : ℕ) → GoodValue (operation_value op x y)
  unfolding operation_value when◌then◌else◌
  operation_good op x y = go (gives_truth_of op)
    where
      go : (b : Bool) → GoodValue (pick b (truth (eqb (operate_of op x y) 1)) (word (operate_of op x y)))
      go true = record { proper = refl; good = tt }
      go false = record { proper = refl; good = tt }

  operator_good : (op : ℕ) (x y : Value) → GoodEnd (operator_run op x y)
  unfolding operator_run when◌then◌else◌ if◌equals◌then◌else◌ if◌below◌then◌else◌
  operator_good op x y = go (ltb op not_code) (words_run op x y) (eqb op not_code) (eqb op is_word_code)
    where
      go : (a b c d : Bool) → GoodEnd (pick a (pick b (gives (operation_value op (word_in x) (word_in y))) errs) (pick c (gives (truth (is_false x))) (pick d (gives (truth (is_aword x))) (gives (truth (is_aprocedure x))))))
      go true true c d = operation_good op (word_in x) (word_in y)
      go true false c d = tt
      go false b true d = record { proper = refl; good = tt }
      go false b false true = record { proper = refl; good = tt }
      go false b false false = record { proper = refl; good = tt }

  -- a second operand that there is none of does not matter
  operator_second : (op : ℕ) (x y z : Value) → ((operands_of op ≡ 1 → ⊥) → y ≡ z) → operator_run op x y ≡ operator_run op x z
  operator_second op x y z q = go (ltb op not_code) refl
    where
      go : (b : Bool) → ltb op not_code ≡ b → operator_run op x y ≡ operator_run op x z
      go true e = let l : op < not_code = omega (arith, ltb-true op not_code e) in sym (operated_is op x y y l (λ _. refl)) ∙ operated_is op x y z l q
      go false e = let l : not_code ≤ op = omega (arith, ltb-false op not_code e) in sym (test_run op x y l) ∙ test_run op x z l

  datum_good : (op w : ℕ) → GoodValue (datum_value op w)
  unfolding datum_value if◌equals◌then◌else◌
  datum_good op w = go (eqb op word_datum)
    where
      go : (b : Bool) → GoodValue (pick b (word w) (truth (eqb op true_datum)))
      go true = record { proper = refl; good = tt }
      go false = record { proper = refl; good = tt }

  -- ---- runs that agree, after a test and after another run
  record AgreeAt (E : Value) (f g : Running) : Type 0 where
    is : Agree (f E) (g E)

  agree_eq : {E : Value} {f g h k : Running} (i j : ℕ) → (i ≡ j → AgreeAt E f g) → AgreeAt E h k → AgreeAt E (if i equals j then f else h) (if i equals j then g else k)
  unfolding if◌equals◌then◌else◌
  agree_eq {E} {f} {g} {h} {k} i j a b = go (eqb i j) refl
    where
      go : (c : Bool) → eqb i j ≡ c → AgreeAt E (pick c f h) (pick c g k)
      go true e = a (eqb-true i j e)
      go false e = b

  agree_if : {E : Value} {f g h k : Running} (b : Bool) → AgreeAt E f g → AgreeAt E h k → AgreeAt E (when b then f else h) (when b then g else k)
  unfolding when◌then◌else◌
  agree_if true a b = a
  agree_if false a b = b

  agree_after : {o p : Ended} (K L : Value → Ended) → Agree o p → ((v : Value) → GoodValue v → Agree (K v) (L v)) → Agree (after o K) (after p L)
  unfolding after
  agree_after {o} {p} K L a k = subst (λ u. Agree (after u K) (after p L)) (sym a.same) (go p a.good)
    where
      go : (p : Ended) → GoodEnd p → Agree (after p K) (after p L)
      go (gives v) g = k v g
      go aborts g = record { same = refl; good = tt }
      go errs g = record { same = refl; good = tt }
      go spends g = record { same = refl; good = tt }

  -- ---- runs that agree on bindings enough
  abbrev pub Agrees : (ℕ → Running) → (ℕ → Running) → Type 0
  Agrees f g = (i : ℕ) (E : Value) → i < n → need i + input_count ≤ bound E → Good E → Agree (f i E) (g i E)

  module _ (scoped : Scoped rule n need) (f g : ℕ → Running) (ih : Agrees f g) where
    call_agrees : (v u : Value) → Good v → GoodValue u → Agree (call_run f rule v u) (call_run g rule v u)
    unfolding call_run
    call_agrees (truth b) u h k = record { same = refl; good = tt }
    call_agrees (word w) u h k = record { same = refl; good = tt }
    call_agrees (procedure i e) u h k = ih (record_at rule i).p (binding u e) h.1 h.0 (k.proper, k.good, h.2)
    call_agrees (binding v e) u h k = record { same = refl; good = tt }
    call_agrees none u h k = record { same = refl; good = tt }

    module _ (i : ℕ) (E : Value) (l : i < n) (h : need i + input_count ≤ bound E) (k : Good E) where
      place_same : {p : ℕ} → In p (places_of (record_at rule i)) → look_of p E ≡ placed p E
      place_same {p} q = let s = scoped.places i l q in look_placed p E (omega arith)

      place_good : {p : ℕ} → In p (places_of (record_at rule i)) → GoodValue (placed p E)
      place_good {p} q = let s = scoped.places i l q in placed_good p E (omega arith) k

      level : {c : ℕ} → In (part c 0) (parts_of (record_at rule i)) → Agree (f c E) (g c E)
      level {c} q = let u = scoped.parts i l q in let e = u.is in ih c E u.low (omega arith) k

      under : {c : ℕ} (v : Value) → GoodValue v → In (part c 1) (parts_of (record_at rule i)) → Agree (f c (binding v E)) (g c (binding v E))
      under {c} v w q = let u = scoped.parts i l q in let e = u.is in ih c (binding v E) u.low (omega arith) (w.proper, w.good, k)

      procedure_at : (record_at rule i).kind ≡ procedure_record → GoodValue (procedure i E)
      procedure_at q = let u = scoped.parts i l (body_in (record_at rule i) q) in let e = u.is in record { proper = refl; good = (omega arith, u.low, k) }

      call_at : (record_at rule i).kind ≡ call_record
          → Agree (call_run f rule (look_of (record_at rule i).p E) (look_of (record_at rule i).q E)) (call_run g rule (placed (record_at rule i).p E) (placed (record_at rule i).q E))
      call_at q =
          let a = called_in (record_at rule i) q in let b = argument_in (record_at rule i) q in
          rw (place_same a, place_same b) (call_agrees _ _ (place_good a).good (place_good b))

      operator_at : (record_at rule i).kind ≡ operator_record
          → operator_run (record_at rule i).op (look_of (record_at rule i).p E) (look_of (record_at rule i).q E)
          ≡ operator_run (record_at rule i).op (placed (record_at rule i).p E) (placed (record_at rule i).q E)
      operator_at q =
          ap (λ v. operator_run (record_at rule i).op v (look_of (record_at rule i).q E)) (place_same (first_in (record_at rule i) q)) ∙
          operator_second (record_at rule i).op _ _ _ (λ d. place_same (second_in (record_at rule i) q d))

      if_at : (record_at rule i).kind ≡ if_record
          → Agree ((when is_false (look_of (record_at rule i).p E) then f (record_at rule i).r else f (record_at rule i).q) E)
          ((when is_false (placed (record_at rule i).p E) then g (record_at rule i).r else g (record_at rule i).q) E)
      if_at q =
          rw (place_same (tested_in (record_at rule i) q))
          (agree_if _ (record { is = level (no_in (record_at rule i) q) }) (record { is = level (yes_in (record_at rule i) q) })).is

      expression_at : AgreeAt E (expression_run look_of rule f (record_at rule i) i) (expression_run placed rule g (record_at rule i) i)
      unfolding expression_run
      expression_at =
          agree_eq _ _ (λ q. record { is = record { same = refl; good = datum_good _ _ } }) (
          agree_eq _ _ (λ q. let v = variable_in (record_at rule i) q in record { is = record { same = ap gives (place_same v); good = place_good v } }) (
          agree_eq _ _ (λ q. record { is = record { same = refl; good = procedure_at q } }) (
          agree_eq _ _ (λ q. record { is = call_at q }) (
          agree_eq _ _ (λ q. record { is = record { same = operator_at q; good = operator_good _ _ _ } }) (
          agree_eq _ _ (λ q. record {
            is = agree_after _ _ (level (given_in (record_at rule i) q)) (λ v w. under v w (inner_in (record_at rule i) q));
          }) (
          agree_eq _ _ (λ q. record { is = if_at q }) (
          agree_eq _ _ (λ q. record { is = record { same = refl; good = tt } }) (record { is = record { same = refl; good = tt } }))))))))

  pub run_agrees : Scoped rule n need → (d : ℕ) → Agrees (total_of rule d) (run_of rule d)
  unfolding run_by
  run_agrees scoped zero i E l h k = record { same = refl; good = tt }
  run_agrees scoped (suc d) i E l h k = (expression_at scoped (total_of rule d) (run_of rule d) (run_agrees scoped d) i E l h k).is
