-- The terms under a result: with each, those that it is read from are under it too. So whatever else stands in a table, or is held for it, the
-- result reads the same. Assumes nothing.
use mathlib.Core.Path.{◌≡◌, refl, sym, ap, ◌∙◌}
use mathlib.Core.Bool.{Bool, true, false, not, ◌&&◌, ◌||◌, false≢true}
use mathlib.Core.List.{List, [], ◌∷◌}
use Prim.Native.Nat.{ℕ, ◌<◌, ◌≤◌}
use native.Mathlib.Omega.{arith}
use lib.Dec.{eqb, ltb}
use lib.ListN.{length}
use borrow.Author.Tests.{eqb-true, eqb-false, eq-eqb, ne_eqb, ltb-true, ltb-false, lt-ltb, le-ltb}
use Rattle.notation.specs.Notation.{pick, with, when◌then◌else◌, if◌equals◌then◌else◌, if◌below◌then◌else◌}
use Rattle.operators.specs.Operators.{operands_of, row_of}
use Rattle.semantics.specs.declared.Term.{Term}
use Rattle.semantics.specs.declared.Result.{Result}
use Rattle.semantics.specs.declared.Reading.{Reading}
use Rattle.semantics.specs.Numbers.{operator_term, choice_term, not_code, conjunction_code, disjunction_code}
use Rattle.semantics.specs.Terms.{at}
use Rattle.semantics.specs.Fold.{FromLower, fold_at}
use Rattle.semantics.specs.Reading.{nothing, is_true, operands_are_words, operation_reading, operator_reading, term_reading, readings, result_outcome, read_in}
use Rattle.semantics.specs.Under.{from_first, from_second, from_third, with_term, with_lower, down_from, named_by, under_of, ReadFrom, Closed}
use Rattle.semantics.proofs.Fold.{fold_newest, fold_lower, fold_past}
use Rattle.semantics.proofs.Operands.{differs, one_operand}

-- ---- a term is read from those alone

-- an operator with one operand does not look at the second
module _ (op : ℕ) (x y z : Reading) (one : operands_of op ≡ 1) where
  words_one : operands_are_words op x y ≡ operands_are_words op x z
  unfolding operands_are_words if◌equals◌then◌else◌ with
  words_one = rw one

  operation_one : op < not_code → operation_reading op x y ≡ operation_reading op x z
  unfolding operation_reading with
  operation_one l = rw (words_one, one_operand op x.number y.number z.number l one)

  no_pair : (k : ℕ) → operands_of k ≡ 2 → eqb op k ≡ true → ⊥
  no_pair k e q = differs op k 2 one e (λ i. omega arith) (eqb-true op k q)

  operator_one : operator_reading op x y ≡ operator_reading op x z
  unfolding operator_reading if◌below◌then◌else◌ if◌equals◌then◌else◌ operands_of row_of
  operator_one = go (ltb op not_code) (eqb op conjunction_code) (eqb op disjunction_code) refl refl refl
    where
      go : (b c d : Bool) → ltb op not_code ≡ b → eqb op conjunction_code ≡ c → eqb op disjunction_code ≡ d → operator_reading op x y ≡ operator_reading op x z
      go true c d eb ec ed = rw (eb) (operation_one (ltb-true op not_code eb))
      go false true d eb ec ed = absurd (no_pair conjunction_code refl ec)
      go false false true eb ec ed = absurd (no_pair disjunction_code refl ed)
      go false false false eb ec ed = rw (eb, ec, ed)

module _ (numbers : List ℕ) (t : Term) (x y z u v w : Reading) where
  -- what a term reads as hangs on those that it is read from
  pub reads_from : (from_first t ≡ true → x ≡ u) → (from_second t ≡ true → y ≡ v) → (from_third t ≡ true → z ≡ w) → term_reading numbers t x y z ≡ term_reading numbers t u v w
  unfolding term_reading from_first from_second from_third if◌equals◌then◌else◌ when◌then◌else◌
  reads_from ex ey ez = go (eqb t.kind operator_term) (eqb t.kind choice_term) refl refl
    where
      second : (b : Bool) → eqb (operands_of t.op) 1 ≡ b → (not b ≡ true → y ≡ v) → operator_reading t.op u y ≡ operator_reading t.op u v
      second true e h = operator_one t.op u y v (eqb-true _ 1 e)
      second false e h = ap (operator_reading t.op u) (h refl)

      chosen : x ≡ u → y ≡ v → z ≡ w → pick (is_true x) y z ≡ pick (is_true u) v w
      chosen p q r = ap (λ a. pick (is_true a) y z) p ∙ (ap (λ a. pick (is_true u) a z) q ∙ ap (pick (is_true u) v) r)

      go : (b c : Bool) → eqb t.kind operator_term ≡ b → eqb t.kind choice_term ≡ c → term_reading numbers t x y z ≡ term_reading numbers t u v w
      go true c eb ec = rw (eqb-true t.kind operator_term eb) (ap (λ a. operator_reading t.op a y) (rw eb at ex refl) ∙ second (eqb (operands_of t.op) 1) refl (rw eb at ey))
      go false true eb ec = rw (eqb-true t.kind choice_term ec) (chosen (rw (eb, ec) at ex refl) (rw (eb, ec) at ey refl) (rw ec at ez refl))
      go false false eb ec = rw (eb, ec)

-- ---- marks of one more term, and of those that a term is read from
module _ (n : ℕ) where
  -- none of them is at n or past it
  term_high : (b : Bool) (x : ℕ) (m : ℕ → Bool) (k : ℕ) → n ≤ k → with_term b n x m k ≡ m k
  unfolding with_term
  term_high b x m k h = rw (le-ltb k n h) (go b (eqb k x))
    where
      go : (b c : Bool) → ((b && (c && false)) || m k) ≡ m k
      go true true = refl
      go true false = refl
      go false c = refl

  term_more : (b : Bool) (x : ℕ) (m : ℕ → Bool) (k : ℕ) → m k ≡ true → with_term b n x m k ≡ true
  unfolding with_term
  term_more b x m k h = rw h (go (b && (eqb k x && ltb k n)))
    where
      go : (c : Bool) → (c || true) ≡ true
      go true = refl
      go false = refl

  term_there : (x : ℕ) (m : ℕ → Bool) {b : Bool} → b ≡ true → x < n → with_term b n x m x ≡ true
  unfolding with_term
  term_there x m e h = rw (e, eq-eqb x x refl, lt-ltb x n h)

  module _ (t : Term) (m : ℕ → Bool) where
    lower_high : (k : ℕ) → n ≤ k → with_lower n t m k ≡ m k
    unfolding with_lower
    lower_high k h = term_high (from_third t) t.c _ k h ∙ (term_high (from_second t) t.b _ k h ∙ term_high (from_first t) t.a m k h)

    lower_more : (k : ℕ) → m k ≡ true → with_lower n t m k ≡ true
    unfolding with_lower
    lower_more k h = term_more (from_third t) t.c _ k (term_more (from_second t) t.b _ k (term_more (from_first t) t.a m k h))

    lower_first : from_first t ≡ true → t.a < n → with_lower n t m t.a ≡ true
    unfolding with_lower
    lower_first e h = term_more (from_third t) t.c _ t.a (term_more (from_second t) t.b _ t.a (term_there t.a m e h))

    lower_second : from_second t ≡ true → t.b < n → with_lower n t m t.b ≡ true
    unfolding with_lower
    lower_second e h = term_more (from_third t) t.c _ t.b (term_there t.b _ e h)

    lower_third : from_third t ≡ true → t.c < n → with_lower n t m t.c ≡ true
    unfolding with_lower
    lower_third e h = term_there t.c _ e h

    -- those that a term marks among no others, it marks among any
    lower_among : (k : ℕ) → with_lower n t (λ j. false) k ≡ true → with_lower n t m k ≡ true
    unfolding with_lower with_term
    lower_among k h = go (from_third t && (eqb k t.c && ltb k n)) (from_second t && (eqb k t.b && ltb k n)) (from_first t && (eqb k t.a && ltb k n)) h
      where
        go : (p q r : Bool) → (p || (q || (r || false))) ≡ true → (p || (q || (r || m k))) ≡ true
        go true q r e = refl
        go false true r e = refl
        go false false true e = refl
        go false false false e = absurd (false≢true e)

-- ---- a step at a term of which only those are known that it is read from

module _ (numbers : List ℕ) (n : ℕ) (t : Term) (g h : ℕ → Reading) (past : (k : ℕ) → n ≤ k → g k ≡ h k) (known : (k : ℕ) → ReadFrom n t k → g k ≡ h k) where
  agree : (k : ℕ) → (k < n → ReadFrom n t k) → g k ≡ h k
  agree k there = go (ltb k n) refl
    where
      go : (b : Bool) → ltb k n ≡ b → g k ≡ h k
      go true e = known k (there (ltb-true k n e))
      go false e = past k (ltb-false k n e)

  pub same_step : term_reading numbers t (g t.a) (g t.b) (g t.c) ≡ term_reading numbers t (h t.a) (h t.b) (h t.c)
  same_step =
      reads_from numbers t _ _ _ _ _ _ (λ e. agree t.a (lower_first n t _ e)) (λ e. agree t.b (lower_second n t _ e)) (λ e. agree t.c (lower_third n t _ e))

-- ---- from the newest term down

-- a marked term stays marked
pub down_more : (ts : List Term) (m : ℕ → Bool) (k : ℕ) → m k ≡ true → down_from ts m k ≡ true
unfolding down_from when◌then◌else◌
down_more [] m k h = h
down_more (t ∷ ts) m k h = down_more ts _ k (go (m (length ts)))
  where
    go : (b : Bool) → pick b (with_lower (length ts) t m) m k ≡ true
    go true = lower_more (length ts) t m k h
    go false = h

-- at the newest term or past it nothing is marked anew
down_high : (ts : List Term) (m : ℕ → Bool) (k : ℕ) → length ts ≤ k → down_from ts m k ≡ m k
unfolding down_from when◌then◌else◌
down_high [] m k h = refl
down_high (t ∷ ts) m k h = down_high ts _ k (omega arith) ∙ go (m (length ts))
  where
    go : (b : Bool) → pick b (with_lower (length ts) t m) m k ≡ m k
    go true = lower_high (length ts) t m k (omega arith)
    go false = refl

-- the same marks come of the same ones
pub down_same : (ts : List Term) (m n : ℕ → Bool) → ((k : ℕ) → m k ≡ n k) → (k : ℕ) → down_from ts m k ≡ down_from ts n k
unfolding down_from when◌then◌else◌ with_lower with_term
down_same [] m n e k = e k
down_same (t ∷ ts) m n e k = down_same ts _ _ (λ j. rw (e (length ts)) (go j (n (length ts)))) k
  where
    go : (j : ℕ) (b : Bool) → pick b (with_lower (length ts) t m) m j ≡ pick b (with_lower (length ts) t n) n j
    go j true = rw (e j)
    go j false = e j

-- what a marked term is read from is marked
pub down_closed : (ts : List Term) (m : ℕ → Bool) → Closed ts (down_from ts m)
unfolding down_from when◌then◌else◌ at
down_closed [] m j k h d l = absurd (omega arith)
down_closed (t ∷ ts) m j k h d l = go (eqb j (length ts)) refl (down_closed ts (pick (m (length ts)) (with_lower (length ts) t m) m) j k)
  where
    newest : (b : Bool) → m (length ts) ≡ b → down_from ts (pick b (with_lower (length ts) t m) m) (length ts) ≡ true → ReadFrom (length ts) t k
        → down_from ts (pick b (with_lower (length ts) t m) m) k ≡ true
    newest true e d l = down_more ts _ k (lower_among (length ts) t m k l)
    newest false e d l = absurd (false≢true (sym e ∙ (sym (down_high ts m (length ts) (omega arith)) ∙ d)))

    go : (b : Bool) → eqb j (length ts) ≡ b
        → (j < length ts → down_from ts (pick (m (length ts)) (with_lower (length ts) t m) m) j ≡ true → ReadFrom j (at ts j) k → down_from ts (pick (m (length ts)) (with_lower (length ts) t m) m) k ≡ true)
        → down_from ts (pick (m (length ts)) (with_lower (length ts) t m) m) k ≡ true
    go true e r = newest (m (length ts)) refl (rw (eqb-true j (length ts) e) at d) (rw (e, eqb-true j (length ts) e) at l)
    go false e r = r (omega (arith, eqb-false j (length ts) e)) d (rw e at l)

-- ---- under a result
module _ (ts : List Term) (r : Result) where
  pub under_closed : Closed ts (under_of ts r)
  unfolding under_of
  under_closed = down_closed ts (named_by (length ts) r)

  pub under_assumed : r.state.assumed < length ts → under_of ts r r.state.assumed ≡ true
  unfolding under_of named_by
  under_assumed h = down_more ts _ _ (term_more (length ts) _ _ _ _ (term_more (length ts) _ _ _ _ (term_there (length ts) _ _ refl h)))

  pub under_asserted : r.state.asserted < length ts → under_of ts r r.state.asserted ≡ true
  unfolding under_of named_by
  under_asserted h = down_more ts _ _ (term_more (length ts) _ _ _ _ (term_there (length ts) _ _ refl h))

  pub under_value : r.halted ≡ false → r.value < length ts → under_of ts r r.value ≡ true
  unfolding under_of named_by
  under_value e h = down_more ts _ _ (term_there (length ts) _ _ (rw e) h)

  -- The result reads as it does in any list that has, at the terms under it, what these read as; nothing is read past the last term.
  pub read_under : (vs ws : ℕ → Reading) → ((k : ℕ) → length ts ≤ k → vs k ≡ ws k) → ((k : ℕ) → under_of ts r k ≡ true → vs k ≡ ws k)
      → result_outcome (is_true (vs r.state.assumed)) (is_true (vs r.state.asserted)) r.halted (vs r.value) ≡ result_outcome (is_true (ws r.state.assumed)) (is_true (ws r.state.asserted)) r.halted (ws r.value)
  unfolding result_outcome when◌then◌else◌
  read_under vs ws past known = rw (named r.state.assumed under_assumed, named r.state.asserted under_asserted) (go r.halted refl)
    where
      named : (k : ℕ) → (k < length ts → under_of ts r k ≡ true) → vs k ≡ ws k
      named k there = at_either (ltb k (length ts)) refl
        where
          at_either : (b : Bool) → ltb k (length ts) ≡ b → vs k ≡ ws k
          at_either true e = known k (there (ltb-true k (length ts) e))
          at_either false e = past k (ltb-false k (length ts) e)

      go : (b : Bool) → r.halted ≡ b → result_outcome (is_true (ws r.state.assumed)) (is_true (ws r.state.asserted)) r.halted (vs r.value) ≡ result_outcome (is_true (ws r.state.assumed)) (is_true (ws r.state.asserted)) r.halted (ws r.value)
      go true e = rw e
      go false e = rw (named r.value (under_value e))

-- ---- "the others do not matter": whatever stands in their places, the result reads the same
module _ (numbers : List ℕ) where
  fold_under : (ts us : List Term) (m : ℕ → Bool) → length ts ≡ length us → Closed ts m → ((k : ℕ) → k < length ts → m k ≡ true → at ts k ≡ at us k)
      → (k : ℕ) → m k ≡ true → fold_at (term_reading numbers) nothing ts k ≡ fold_at (term_reading numbers) nothing us k
  unfolding at
  fold_under [] [] m e c s k h = refl
  fold_under [] (u ∷ us) m e c s k h = absurd (omega arith)
  fold_under (t ∷ ts) [] m e c s k h = absurd (omega arith)
  fold_under (t ∷ ts) (u ∷ us) m e c s k h = go (eqb k (length ts)) refl (fold_under ts us m long closed same)
    where
      f : FromLower Reading
      f = term_reading numbers

      long : length ts ≡ length us
      long = omega arith

      closed : Closed ts m
      closed i j l p q = c i j (omega arith) p (rw (ne_eqb i (length ts) (λ g. omega arith)) q)

      same : (j : ℕ) → j < length ts → m j ≡ true → at ts j ≡ at us j
      same j l p = rw (ne_eqb j (length ts) (λ g. omega arith), ne_eqb j (length us) (λ g. omega arith)) at (s j (omega arith) p)

      go : (b : Bool) → eqb k (length ts) ≡ b → ((j : ℕ) → m j ≡ true → fold_at f nothing ts j ≡ fold_at f nothing us j) → fold_at f nothing (t ∷ ts) k ≡ fold_at f nothing (u ∷ us) k
      go true q r =
          let n : k ≡ length ts = eqb-true k (length ts) q in
          let t_is_u : t ≡ u = rw (eq-eqb k (length ts) n, eq-eqb k (length us) (n ∙ long)) at (s k (omega arith) h) in
          let past : (j : ℕ) → length ts ≤ j → fold_at f nothing ts j ≡ fold_at f nothing us j = λ j l. fold_past f nothing ts j l ∙ sym (fold_past f nothing us j (omega arith)) in
          let lower : (j : ℕ) → ReadFrom (length ts) t j → fold_at f nothing ts j ≡ fold_at f nothing us j = λ j p. r j (c k j (omega arith) h (rw (q, n) p)) in
          ap (fold_at f nothing (t ∷ ts)) n ∙ (fold_newest f nothing t ts ∙ (same_step numbers (length ts) t _ _ past lower ∙ (ap (λ v. f v (fold_at f nothing us v.a) (fold_at f nothing us v.b) (fold_at f nothing us v.c)) t_is_u ∙ (sym (fold_newest f nothing u us) ∙ ap (fold_at f nothing (u ∷ us)) (sym (n ∙ long))))))
      go false q r =
          let d = eqb-false k (length ts) q in
          fold_lower f nothing t ts k d ∙ (r k h ∙ sym (fold_lower f nothing u us k (λ g. d (g ∙ sym long))))

  -- Two tables that agree on S, T, the value and the terms under them read the same.
  pub others_do_not_matter : (ts us : List Term) (r : Result) → length ts ≡ length us → ((k : ℕ) → under_of ts r k ≡ true → at ts k ≡ at us k) → read_in (readings numbers ts) r ≡ read_in (readings numbers us) r
  unfolding read_in readings
  others_do_not_matter ts us r e s =
      read_under ts r (fold_at (term_reading numbers) nothing ts) (fold_at (term_reading numbers) nothing us)
      (λ k l. fold_past (term_reading numbers) nothing ts k l ∙ sym (fold_past (term_reading numbers) nothing us k (omega arith)))
      (fold_under ts us (under_of ts r) e (under_closed ts r) (λ k l. s k))
