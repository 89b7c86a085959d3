-- A well-formed table: what the terms in it name, that a term names only lower ones, and so that the code's search finds what document 01's
-- finds. Assumes nothing.
use mathlib.Core.Path.{◌≡◌, refl, sym, ap, ◌∙◌}
use mathlib.Core.Bool.{Bool, true, false, not, ◌&&◌, ◌||◌}
use mathlib.Core.List.{List, [], ◌∷◌}
use Prim.Native.Nat.{ℕ, ◌+◌, ◌<◌, ◌≤◌, max}
use native.Mathlib.Omega.{arith}
use lib.ListN.{length}
use lib.Dec.{eqb, ltb}
use borrow.Author.Tests.{eqb-true, eqb-false, ltb-true}
use Rattle.notation.specs.Notation.{pick, with, if◌equals◌then◌else◌, if◌below◌then◌else◌}
use Rattle.notation.proofs.Every.{and_both}
use Rattle.operators.specs.Operators.{operands_of}
use Rattle.semantics.specs.declared.Term.{Term}
use Rattle.semantics.specs.Numbers.{truth_term, choice_term, procedure_term, binding_term, operator_term, no_binding, record_limit, not_code, is_word_code, is_procedure_code, negation_code, conjunction_code, disjunction_code, truth_code}
use Rattle.semantics.specs.Terms.{at, same_of, find_of, names_truth, names_choice, names_binding, names_value, operands_laid_out, laid_out, well_formed}
use Rattle.terms.specs.Search.{floor_of, missing, find_from, find_above}
use Rattle.typing.proofs.Grown.{Grown, still, more, at_lower, at_newest, Sort, Value, value_at, truth_at, choice_at, binding_at}

-- ---- tests that hold
pub never : {P : Type 0} → ◌≡◌ {A = Bool} false true → P
never e = let w : ◌≡◌ {A = ℕ} 0 1 = cc in absurd (omega arith)

pub both : {P : Type 0} (a b : Bool) → (a && b) ≡ true → (a ≡ true → b ≡ true → P) → P
both a b h f = let x = and_both a b h in f x.0 x.1

pub either : {P : Type 0} (a b : Bool) → (a || b) ≡ true → (a ≡ true → P) → (b ≡ true → P) → P
either true b h f g = f refl
either false b h f g = g h

-- a condition that holds, by what was tested
pub by_test : {P : Type 0} (b x y : Bool) → pick b x y ≡ true → (b ≡ true → x ≡ true → P) → (b ≡ false → y ≡ true → P) → P
by_test true x y h f g = f refl h
by_test false x y h f g = g refl h

-- ---- what a laid out term names, over the terms below it
module _ (n : ℕ) (ts : List Term) (t : Term) (h : laid_out n ts t ≡ true) where
  -- an unused op is zero
  op_zero : {P : Type 0} (y : Bool) → pick (eqb t.op 0) y false ≡ true → (y ≡ true → P) → P
  op_zero y e f = by_test (eqb t.op 0) y false e (λ i j. f j) (λ i j. never j)

  pub choice_names : t.kind ≡ choice_term → Sort truth_term ts t.a × Value ts t.b × Value ts t.c
  unfolding laid_out if◌equals◌then◌else◌
  choice_names k =
      op_zero (names_truth ts t.a && (names_value ts t.b && names_value ts t.c)) (rw k at h) λ e.
      both (names_truth ts t.a) (names_value ts t.b && names_value ts t.c) e λ p q.
      both (names_value ts t.b) (names_value ts t.c) q λ u v. (truth_at ts t.a p, value_at ts t.b u, value_at ts t.c v)

  pub procedure_names : t.kind ≡ procedure_term → Sort binding_term ts t.b
  unfolding laid_out if◌equals◌then◌else◌
  procedure_names k =
      op_zero (ltb t.a record_limit && (names_binding ts t.b && ltb t.c n)) (rw k at h) λ e.
      both (ltb t.a record_limit) (names_binding ts t.b && ltb t.c n) e λ p q.
      both (names_binding ts t.b) (ltb t.c n) q λ u v. binding_at ts t.b u

  pub binding_value : t.kind ≡ binding_term → Value ts t.a
  unfolding laid_out if◌equals◌then◌else◌
  binding_value k =
      op_zero (names_value ts t.a && ((eqb t.b no_binding || names_binding ts t.b) && eqb t.c 0)) (rw k at h) λ e.
      both (names_value ts t.a) ((eqb t.b no_binding || names_binding ts t.b) && eqb t.c 0) e λ p q. value_at ts t.a p

  pub binding_next : {P : Type 0} → t.kind ≡ binding_term → (t.b ≡ no_binding → P) → (Sort binding_term ts t.b → P) → P
  unfolding laid_out if◌equals◌then◌else◌
  binding_next k f g =
      op_zero (names_value ts t.a && ((eqb t.b no_binding || names_binding ts t.b) && eqb t.c 0)) (rw k at h) λ e.
      both (names_value ts t.a) ((eqb t.b no_binding || names_binding ts t.b) && eqb t.c 0) e λ p q.
      both (eqb t.b no_binding || names_binding ts t.b) (eqb t.c 0) q λ u v.
      either (eqb t.b no_binding) (names_binding ts t.b) u (λ i. f (eqb-true _ _ i)) (λ i. g (binding_at ts t.b i))

-- an operator's operands are lower, or there is no second one
pub record Lower (ts : List Term) (a b : ℕ) : Type 0 where
  pub first : a < length ts
  pub second : b < length ts

module _ (ts : List Term) (a b : ℕ) where
  two_truths : (names_truth ts a && names_truth ts b) ≡ true → Lower ts a b
  two_truths e = both (names_truth ts a) (names_truth ts b) e λ p q. record { first = (truth_at ts a p).low; second = (truth_at ts b q).low }

  -- one operand: the other field is zero
  alone : a < length ts → eqb b 0 ≡ true → Lower ts a b
  alone l e = record { first = l; second = omega (arith, eqb-true b 0 e) }

  one_choice : (names_choice ts a && eqb b 0) ≡ true → Lower ts a b
  one_choice e = both (names_choice ts a) (eqb b 0) e λ p q. alone (choice_at ts a p).low q

  one_truth : (names_truth ts a && eqb b 0) ≡ true → Lower ts a b
  one_truth e = both (names_truth ts a) (eqb b 0) e λ p q. alone (truth_at ts a p).low q

  -- the codes 1 to 12
  values : (c : Bool) → (names_value ts a && pick c (eqb b 0) (names_value ts b)) ≡ true → Lower ts a b
  values c e =
      both (names_value ts a) (pick c (eqb b 0) (names_value ts b)) e λ p q.
      by_test c (eqb b 0) (names_value ts b) q (λ i j. alone (value_at ts a p).low j)
      (λ i j. record { first = (value_at ts a p).low; second = (value_at ts b j).low })

  pub operands_lower : (op : ℕ) → operands_laid_out ts op a b ≡ true → Lower ts a b
  unfolding operands_laid_out if◌equals◌then◌else◌ if◌below◌then◌else◌
  operands_lower op h =
      by_test (eqb op 0) _ _ h (λ i e. never e) λ i h.
      by_test (ltb op not_code) _ _ h (λ i e. values (eqb (operands_of op) 1) e) λ i h.
      by_test (eqb op is_word_code) _ _ h (λ i e. one_choice e) λ i h.
      by_test (eqb op is_procedure_code) _ _ h (λ i e. one_choice e) λ i h.
      by_test (eqb op negation_code) _ _ h (λ i e. one_truth e) λ i h.
      by_test (eqb op conjunction_code) _ _ h (λ i e. two_truths e) λ i h.
      by_test (eqb op disjunction_code) _ _ h (λ i e. two_truths e) λ i h.
      by_test (eqb op truth_code) _ _ h (λ i e. one_choice e) λ i e. never e

-- ---- a term names only lower terms
module _ (n : ℕ) (ts : List Term) (t : Term) (h : laid_out n ts t ≡ true) where
  -- the operand of a not is a truth
  pub not_names : t.kind ≡ operator_term → t.op ≡ negation_code → Sort truth_term ts t.a
  unfolding laid_out operands_laid_out if◌equals◌then◌else◌ if◌below◌then◌else◌
  not_names k o =
      both (operands_laid_out ts t.op t.a t.b) (eqb t.c 0) (rw k at h) λ p q.
      both (names_truth ts t.a) (eqb t.b 0) (rw o at p) λ u v. truth_at ts t.a u

  operator_lower : t.kind ≡ operator_term → Lower ts t.a t.b
  unfolding laid_out if◌equals◌then◌else◌
  operator_lower k =
      both (operands_laid_out ts t.op t.a t.b) (eqb t.c 0) (rw k at h) λ p q. operands_lower ts t.a t.b t.op p

  pub lower : floor_of t ≤ length ts
  unfolding floor_of if◌equals◌then◌else◌ with
  lower = go (eqb t.kind operator_term) (eqb t.kind choice_term) (eqb t.kind procedure_term) (eqb t.kind binding_term) (eqb t.b no_binding) refl refl refl refl refl
    where
      go : (o c p b e : Bool) → eqb t.kind operator_term ≡ o → eqb t.kind choice_term ≡ c → eqb t.kind procedure_term ≡ p → eqb t.kind binding_term ≡ b → eqb t.b no_binding ≡ e
          → pick o (max t.a t.b + 1) (pick c (max (max t.a t.b) t.c + 1) (pick p (t.b + 1) (pick b (pick e (t.a + 1) (max t.a t.b + 1)) 0))) ≤ length ts
      go true c p b e i j k l m = let x = operator_lower (eqb-true _ _ i) in omega arith
      go false true p b e i j k l m =
          let x = choice_names n ts t h (eqb-true _ _ j) in
          let u = x.0.low in let v = x.1.low in let w = x.2.low in omega arith
      go false false true b e i j k l m = let x = (procedure_names n ts t h (eqb-true _ _ k)).low in omega arith
      go false false false true true i j k l m = let x = (binding_value n ts t h (eqb-true _ _ l)).low in omega arith
      go false false false true false i j k l m =
          let x = (binding_value n ts t h (eqb-true _ _ l)).low in
          binding_next n ts t h (eqb-true _ _ l) (λ z. absurd (omega (arith, eqb-false t.b no_binding m, z))) (λ z. let y = z.low in omega arith)
      go false false false false e i j k l m = omega arith

-- ---- the table as a whole

-- a term of the table, and the terms that were there before it
pub record Laid (n : ℕ) (ts : List Term) (a : ℕ) : Type 0 where
  pub under : List Term
  pub number : length under ≡ a
  pub grown : Grown under ts
  pub laid : laid_out n under (at ts a) ≡ true

pub formed_newest : {P : Type 0} (n : ℕ) (t : Term) (ts : List Term) → well_formed n (t ∷ ts) ≡ true
    → (laid_out n ts t ≡ true → not (find_of ts t).is ≡ true → well_formed n ts ≡ true → P) → P
unfolding well_formed
formed_newest n t ts h f =
    both (laid_out n ts t) (not (find_of ts t).is && well_formed n ts) h λ p q. both (not (find_of ts t).is) (well_formed n ts) q λ u v. f p u v

-- each term is laid out over those below it
pub laid_at : (n : ℕ) (ts : List Term) (a : ℕ) → well_formed n ts ≡ true → a < length ts → Laid n ts a
laid_at n [] a h l = absurd (omega arith)
laid_at n (t ∷ ts) a h l = formed_newest n t ts h λ p u v. go p (eqb a (length ts)) refl (λ k. laid_at n ts a v k)
  where
    go : laid_out n ts t ≡ true → (b : Bool) → eqb a (length ts) ≡ b → (a < length ts → Laid n ts a) → Laid n (t ∷ ts) a
    go p true e r =
        let i : a ≡ length ts = eqb-true a (length ts) e in
        let j : at (t ∷ ts) a ≡ t = ap (at (t ∷ ts)) i ∙ at_newest t ts in
        record { under = ts; number = sym i; grown = more still; laid = ap (laid_out n ts) j ∙ p }
    go p false e r =
        let k : a < length ts = omega (arith, eqb-false a (length ts) e) in
        let x = r k in
        record { under = x.under; number = x.number; grown = more x.grown; laid = ap (laid_out n x.under) (at_lower t ts a k) ∙ x.laid }

-- ---- two equal terms
pub same_true : (x y : Term) → same_of x y ≡ true → x ≡ y
unfolding same_of
same_true x y h =
    by_test (eqb x.a y.a) (eqb x.kind y.kind && (eqb x.op y.op && (eqb x.b y.b && eqb x.c y.c))) false h
    (λ a e. both (eqb x.kind y.kind) (eqb x.op y.op && (eqb x.b y.b && eqb x.c y.c)) e λ k e.
    both (eqb x.op y.op) (eqb x.b y.b && eqb x.c y.c) e λ o e.
    both (eqb x.b y.b) (eqb x.c y.c) e λ b c.
    fields (eqb-true _ _ k) (eqb-true _ _ o) (eqb-true _ _ a) (eqb-true _ _ b) (eqb-true _ _ c))
    (λ i e. never e)
  where
    build : ℕ → ℕ → ℕ → ℕ → ℕ → Term
    build k o a b c = record { kind = k; op = o; a = a; b = b; c = c }

    fields : x.kind ≡ y.kind → x.op ≡ y.op → x.a ≡ y.a → x.b ≡ y.b → x.c ≡ y.c
        → build x.kind x.op x.a x.b x.c ≡ build y.kind y.op y.a y.b y.c
    fields a b c d f = rw (a, b, c, d, f)

-- ---- the searches
-- "A term names only lower terms": an equal one does not stand at or below the largest operand.
none_below : (n : ℕ) (t : Term) (ts : List Term) → well_formed n ts ≡ true → length ts ≤ floor_of t → find_of ts t ≡ missing
unfolding find_of
none_below n t [] h l = refl
none_below n t (u ∷ us) h l = formed_newest n u us h λ p q v. go p (same_of u t) refl (none_below n t us v (omega arith))
  where
    go : laid_out n us u ≡ true → (b : Bool) → same_of u t ≡ b → find_of us t ≡ missing → pick b (record { is = true; at = length us }) (find_of us t) ≡ missing
    go p true e r = let k = lower n us u p in absurd (omega (arith, ap floor_of (same_true u t e)))
    go p false e r = r

-- what is not found is missing
none_found_lem : (t : Term) (ts : List Term) → (find_of ts t).is ≡ false → find_of ts t ≡ missing
unfolding find_of
none_found_lem t [] h = refl
none_found_lem t (u ∷ us) h = go (same_of u t) h (none_found_lem t us)
  where
    go : (b : Bool) → (pick b (record { is = true; at = length us }) (find_of us t)).is ≡ false → ((find_of us t).is ≡ false → find_of us t ≡ missing)
        → pick b (record { is = true; at = length us }) (find_of us t) ≡ missing
    go true e r = never (sym e)
    go false e r = r e

-- a term that is not repeated is not equal to one that is found
unlike : (t u : Term) (us : List Term) → not (find_of us u).is ≡ true → (find_of us t).is ≡ true → same_of u t ≡ false
unlike t u us q k = go (same_of u t) refl
  where
    go : (b : Bool) → same_of u t ≡ b → b ≡ false
    go true e = never (rw (same_true u t e, k) at q)
    go false e = refl

-- The code's search finds what document 01's finds: no term is repeated, so that the oldest equal one is the newest.
pub find_same : (n : ℕ) (t : Term) (ts : List Term) → well_formed n ts ≡ true → find_above ts t ≡ find_of ts t
unfolding find_from find_of
find_same n t [] h = refl
find_same n t (u ∷ us) h = formed_newest n u us h λ p q v. go (ltb (length us) (floor_of t)) (find_of us t).is refl refl q (find_same n t us v)
  where
    go : (b c : Bool) → ltb (length us) (floor_of t) ≡ b → (find_of us t).is ≡ c → not (find_of us u).is ≡ true → find_above us t ≡ find_of us t
        → pick b missing (pick (find_above us t).is (find_above us t) (pick (same_of u t) (record { is = true; at = length us }) missing)) ≡ find_of (u ∷ us) t
    go true c e k q r = sym (none_below n t (u ∷ us) h (omega (arith, ltb-true (length us) (floor_of t) e)))
    go false true e k q r = simp (r, k, unlike t u us q k)
    go false false e k q r = simp (r, none_found_lem t us k)

-- a term that is found is there
pub record There (t : Term) (ts : List Term) (a : ℕ) : Type 0 where
  pub low : a < length ts
  pub is : at ts a ≡ t

pub find_there : (t : Term) (ts : List Term) → (find_of ts t).is ≡ true → There t ts (find_of ts t).at
unfolding find_of
find_there t [] h = never h
find_there t (u ∷ us) h = go (same_of u t) refl (λ k. find_there t us k) h
  where
    go : (b : Bool) → same_of u t ≡ b → ((find_of us t).is ≡ true → There t us (find_of us t).at)
        → (pick b (record { is = true; at = length us }) (find_of us t)).is ≡ true → There t (u ∷ us) (pick b (record { is = true; at = length us }) (find_of us t)).at
    go true e r k = record { low = omega arith; is = at_newest u us ∙ same_true u t e }
    go false e r k = let f = r k in let l = f.low in record { low = omega arith; is = at_lower u us (find_of us t).at f.low ∙ f.is }
