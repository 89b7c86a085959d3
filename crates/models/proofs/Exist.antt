-- There are values of the variables that meet a table's gates, with the free inputs as in any numbers: the gates stand in order, which is a
-- test that antt computes for each operator. Assumes nothing.
use mathlib.Core.Path.{◌≡◌, refl, sym, ap, ◌∙◌, subst}
use mathlib.Core.Bool.{Bool, true, false, ◌&&◌, ◌||◌, cond}
use mathlib.Core.List.{List, [], ◌∷◌}
use Prim.Native.Nat.{ℕ, zero, suc, ◌+◌, ◌-◌, ◌*◌, ◌≤◌, ◌<◌}
use native.Mathlib.Omega.{arith}
use lib.ListN.{length, get_or}
use lib.Dec.{eqb, ltb, leb}
use borrow.Author.Tests.{eqb-true, eqb-false, ne_eqb, ltb-true, lt-ltb, le-ltb, leb-true, le-leb, lt-leb}
use Rattle.notation.specs.Notation.{pick, if◌equals◌then◌else◌, if◌below◌then◌else◌}
use Rattle.words.specs.Words.{width}
use Rattle.semantics.specs.declared.Term.{Term}
use Rattle.semantics.specs.Numbers.{truth_term, word_term, free_truth_term, free_word_term, operator_term, choice_term, procedure_term, left_code, right_code, not_code, is_word_code, is_procedure_code, negation_code, conjunction_code, disjunction_code, truth_code, true_number}
use Rattle.semantics.specs.Terms.{term, term_word, operands_laid_out, laid_out, well_formed}
use Rattle.circuits.specs.Gates.{Literal, pos, wire, Gate}
use Rattle.circuits.specs.Circuits.{add_with, add, carries, ands, product, chosen, barrel, clear, shifted_up, shifted_down, tree, flags, same_bits, sums, pairs, masks, products}
use Rattle.circuits.specs.Templates.{Wire, wire_a, wire_b, wire_c, wire_true, helper, own, literals, none, one_word, kinds, word_a, sum_gates, difference_gates, product_gates, bitwise_gates, shift_gates, shift_by_gates, ones_gates, zeros_gates, less_gates, equal_gates, operator_gates}
use Rattle.circuits.proofs.Gates.{and_l, and_r}
use Rattle.circuits.proofs.Shifts.{length_ups, length_downs, Each, each_up, each_downs}
use Rattle.circuits.proofs.Order.{settled, ordered, meet, meet_old, met, valid, met_as}
use Rattle.typing.proofs.Grown.{Grown, still, more, grown_length}
use Rattle.typing.proofs.Formed.{never, both, by_test, choice_names, operands_lower, formed_newest}
use Rattle.soundness.proofs.Link.{operator_laid}
use Rattle.opening.proofs.Begins.{constants}
use Rattle.clauses.specs.Clauses.{levels, owned, digits, choices, code_gates, operation_gates, term_gates, named_by_b, helpers, helpers_of, own_variable, variable, first_helper}
use Rattle.clauses.proofs.Laws.{helpers_more, masks_helpers}
use Rattle.models.proofs.Codes.{by_code}
use Rattle.models.proofs.Says.{gates_under}
use Rattle.models.proofs.ByKind.{by_eq, gates_truth, gates_word, gates_free_truth, gates_free_word, gates_operator, gates_choice, gates_procedure, gates_other, under_free_truth, under_free_word, under_other}
use Rattle.models.proofs.Meets.{MeetsUnder}

-- ---- the gates stand in order

-- the test, with as many helpers as the gates give
abbrev InOrder : Bool → List (Gate Wire) → Type 0
InOrder u gs = ordered u owned (helpers gs) 0 0 gs ≡ true

operators_ordered : (op : ℕ) → (op ≡ 0 → ⊥) → op < not_code → InOrder true (operator_gates levels op)
unfolding ordered helpers operator_gates if◌equals◌then◌else◌ sum_gates difference_gates product_gates bitwise_gates shift_gates ones_gates zeros_gates less_gates equal_gates add_with add carries ands product chosen barrel clear shifted_up shifted_down tree flags same_bits sums pairs masks products
operators_ordered = by_code (λ op. InOrder true (operator_gates levels op)) refl refl refl refl refl refl refl refl refl refl refl refl

below_code : (op : ℕ) → op < not_code → InOrder true (operator_gates levels op) → InOrder true (code_gates op)
unfolding code_gates if◌below◌then◌else◌
below_code op l h = rw (lt-ltb op not_code l) h

module _ (us : List Term) (a b : ℕ) where
  is_word_lem : InOrder true (code_gates is_word_code)
  unfolding ordered helpers code_gates if◌below◌then◌else◌ if◌equals◌then◌else◌
  is_word_lem = refl

  is_procedure : InOrder true (code_gates is_procedure_code)
  unfolding ordered helpers code_gates if◌below◌then◌else◌ if◌equals◌then◌else◌
  is_procedure = refl

  negation : InOrder true (code_gates negation_code)
  unfolding ordered helpers code_gates if◌below◌then◌else◌ if◌equals◌then◌else◌
  negation = refl

  conjunction : InOrder true (code_gates conjunction_code)
  unfolding ordered helpers code_gates if◌below◌then◌else◌ if◌equals◌then◌else◌
  conjunction = refl

  disjunction : InOrder true (code_gates disjunction_code)
  unfolding ordered helpers code_gates if◌below◌then◌else◌ if◌equals◌then◌else◌
  disjunction = refl

  truth : InOrder true (code_gates truth_code)
  unfolding ordered helpers code_gates if◌below◌then◌else◌ if◌equals◌then◌else◌
  truth = refl

  codes_ordered : (op : ℕ) → operands_laid_out us op a b ≡ true → InOrder true (code_gates op)
  unfolding operands_laid_out if◌equals◌then◌else◌ if◌below◌then◌else◌
  codes_ordered op h =
      by_test (eqb op 0) _ _ h (λ i e. never e) λ z h.
      by_test (ltb op not_code) _ _ h (λ i e. let l : op < not_code = omega (arith, ltb-true op not_code i) in below_code op l (operators_ordered op (λ k. eqb-false op 0 z k) l)) λ i h.
      by_test (eqb op is_word_code) _ _ h (λ i e. subst (λ k. InOrder true (code_gates k)) (sym (eqb-true op is_word_code i)) is_word_lem) λ i h.
      by_test (eqb op is_procedure_code) _ _ h (λ i e. subst (λ k. InOrder true (code_gates k)) (sym (eqb-true op is_procedure_code i)) is_procedure) λ i h.
      by_test (eqb op negation_code) _ _ h (λ i e. subst (λ k. InOrder true (code_gates k)) (sym (eqb-true op negation_code i)) negation) λ i h.
      by_test (eqb op conjunction_code) _ _ h (λ i e. subst (λ k. InOrder true (code_gates k)) (sym (eqb-true op conjunction_code i)) conjunction) λ i h.
      by_test (eqb op disjunction_code) _ _ h (λ i e. subst (λ k. InOrder true (code_gates k)) (sym (eqb-true op disjunction_code i)) disjunction) λ i h.
      by_test (eqb op truth_code) _ _ h (λ i e. subst (λ k. InOrder true (code_gates k)) (sym (eqb-true op truth_code i)) truth) λ i e. never e

-- a term names lower ones
unfoldable pub names : Term → Bool
names t = if t.kind equals operator_term then true else if t.kind equals choice_term then true else false

-- ---- a shift by a constant: each of its gates looks at a bit of the operand, or at none
abbrev Seen : Literal Wire → Type 0
Seen l = settled true owned 1 (wire l) ≡ true

masks_ordered : (s : ℕ) (ls : List (Literal Wire)) → Each Seen ls → s + length ls ≤ owned → ordered true owned 1 1 s (masks helper own (pos (helper 0)) s ls) ≡ true
unfolding ordered masks
masks_ordered s [] h l = le-leb s owned (omega arith)
masks_ordered s (m ∷ ls) h l = rw (le-leb s s (omega arith), h.0) (masks_ordered (suc s) ls h.1 (omega arith))

by_amount : (ls : List (Literal Wire)) → Each Seen ls → length ls ≡ width → InOrder true (kinds true false (one_word (masks helper own (pos (helper 0)) 2 ls)))
unfolding ordered helpers
by_amount ls h l =
    let gs = kinds true false (one_word (masks helper own (pos (helper 0)) 2 ls)) in
    let e : helpers gs ≡ 1 = ap suc (masks_helpers 2 ls) in
    subst (λ (n : ℕ). ordered true owned n 0 0 gs ≡ true) (sym e) (masks_ordered 2 ls h (omega arith))

literals_seen : (s n : ℕ) → s + n ≤ owned → Each Seen (literals wire_a s n)
literals_seen s zero l = tt
literals_seen s (suc n) l = (lt-ltb s owned (omega arith), literals_seen (suc s) n (omega arith))

bits_seen : Each Seen (word_a levels)
bits_seen = literals_seen 2 width (omega arith)

left_ordered : (w : ℕ) → InOrder true (shift_by_gates levels shifted_up w)
unfolding shift_by_gates
left_ordered w = by_amount (shifted_up none w (word_a levels)) (each_up Seen none refl w (word_a levels) bits_seen) (length_ups none w (word_a levels))

right_ordered : (w : ℕ) → InOrder true (shift_by_gates levels shifted_down w)
unfolding shift_by_gates
right_ordered w = by_amount (shifted_down none w (word_a levels)) (each_downs Seen none refl w (word_a levels) bits_seen) (length_downs none w (word_a levels))

operation_ordered : (us : List Term) (a b op : ℕ) (u : Term) → operands_laid_out us op a b ≡ true → InOrder true (operation_gates op u)
unfolding operation_gates if◌equals◌then◌else◌
operation_ordered us a b op u h = go (eqb u.kind word_term) (eqb op left_code) (eqb op right_code)
  where
    go : (x l r : Bool) → InOrder true (pick x (pick l (shift_by_gates levels shifted_up (term_word u)) (pick r (shift_by_gates levels shifted_down (term_word u)) (code_gates op))) (code_gates op))
    go true true r = left_ordered (term_word u)
    go true false true = right_ordered (term_word u)
    go true false false = codes_ordered us a b op h
    go false l r = codes_ordered us a b op h

module _ (ns : List ℕ) (n : ℕ) (us : List Term) (t u : Term) (laid : laid_out n us t ≡ true) where
  record Ordered (v : Bool) (x y : List (Gate Wire)) : Type 0 where
    is : ordered v owned (helpers x) 0 0 y ≡ true

  -- no operands, and no helpers
  loose : (w : ℕ) (a b : Bool) → Ordered false (kinds a b (digits 2 width w)) (kinds a b (digits 2 width w))
  unfolding ordered helpers digits
  loose w a b = record { is = refl }

  free_truth_lem : (w : ℕ) → Ordered false (kinds false false (digits 3 (width - 1) 0)) (kinds false false (digits 2 width w))
  unfolding ordered helpers digits
  free_truth_lem w = record { is = refl }

  free_word_lem : (w : ℕ) → Ordered false (kinds true false []) (kinds true false (digits 2 width w))
  unfolding ordered helpers digits
  free_word_lem w = record { is = refl }

  truth_alone : ordered false owned (helpers (kinds false false (digits 3 (width - 1) 0))) 0 0 (kinds false false (digits 3 (width - 1) 0)) ≡ true
  unfolding ordered helpers digits
  truth_alone = refl

  word_alone : ordered false owned (helpers (kinds true false [])) 0 0 (kinds true false []) ≡ true
  unfolding ordered helpers
  word_alone = refl

  a_choice : Ordered true (choices 0 owned) (choices 0 owned)
  unfolding ordered helpers choices
  a_choice = record { is = refl }

  a_binding : Ordered false (kinds true true []) (kinds true true [])
  unfolding ordered helpers
  a_binding = record { is = refl }

  names_not : {k : ℕ} → t.kind ≡ k → eqb k operator_term ≡ false → eqb k choice_term ≡ false → names t ≡ false
  unfolding names if◌equals◌then◌else◌
  names_not e p q = rw (e, p, q)

  names_operator : t.kind ≡ operator_term → names t ≡ true
  unfolding names if◌equals◌then◌else◌
  names_operator e = rw e

  names_choice_lem : t.kind ≡ choice_term → names t ≡ true
  unfolding names if◌equals◌then◌else◌
  names_choice_lem e = rw e

  names_none : (t.kind ≡ operator_term → ⊥) → (t.kind ≡ choice_term → ⊥) → names t ≡ false
  unfolding names if◌equals◌then◌else◌
  names_none p q = rw (ne_eqb t.kind operator_term p, ne_eqb t.kind choice_term q)

  -- by kind
  kind_ordered : Ordered (names t) (term_gates t u) (gates_under ns t u)
  kind_ordered =
      by_eq t.kind free_truth_term (λ k. known false (names_not k refl refl) (gates_free_truth t u k) (under_free_truth t u ns k) (free_truth_lem (get_or ns t.a 0))) λ p.
      by_eq t.kind free_word_term (λ k. known false (names_not k refl refl) (gates_free_word t u k) (under_free_word t u ns k) (free_word_lem (get_or ns t.a 0))) λ q.
      by_eq t.kind operator_term (λ k. same true p q (names_operator k) (gates_operator t u k) (record { is = operation_ordered us t.a t.b t.op u (operator_laid n us t laid k) })) λ r.
      by_eq t.kind choice_term (λ k. same true p q (names_choice_lem k) (gates_choice t u k) a_choice) λ v.
      by_eq t.kind truth_term (λ k. same false p q (names_not k refl refl) (gates_truth t u k) (loose t.a false false)) λ w.
      by_eq t.kind word_term (λ k. same false p q (names_not k refl refl) (gates_word t u k) (loose (term_word t) true false)) λ x.
      by_eq t.kind procedure_term (λ k. same false p q (names_not k refl refl) (gates_procedure t u k) (loose t.a false true)) λ y.
      same false p q (names_none r v) (gates_other t u w x p q r v y) a_binding
    where
      known : (v : Bool) {x y : List (Gate Wire)} → names t ≡ v → term_gates t u ≡ x → gates_under ns t u ≡ y → Ordered v x y → Ordered (names t) (term_gates t u) (gates_under ns t u)
      known v a b c d = rw (a, b, c) d

      -- where it is no free input
      same : (v : Bool) {x : List (Gate Wire)} → (t.kind ≡ free_truth_term → ⊥) → (t.kind ≡ free_word_term → ⊥) → names t ≡ v → term_gates t u ≡ x → Ordered v x x
          → Ordered (names t) (term_gates t u) (gates_under ns t u)
      same v p q a b d = known v a b (under_other t u ns p q ∙ b) d

  -- and as they stand in the clauses
  pub plain_ordered : ordered (names t) owned (helpers (term_gates t u)) 0 0 (term_gates t u) ≡ true
  plain_ordered =
      by_eq t.kind free_truth_term (λ k. rw (names_not k refl refl, gates_free_truth t u k) truth_alone) λ p.
      by_eq t.kind free_word_term (λ k. rw (names_not k refl refl, gates_free_word t u k) word_alone) λ q.
      subst (λ gs. ordered (names t) owned (helpers (term_gates t u)) 0 0 gs ≡ true) (under_other t u ns p q) kind_ordered.is

-- ---- variables of the first n terms, with helpers below h, in a table of c terms
abbrev pub Low : ℕ → ℕ → ℕ → ℕ → Bool
Low c n h v = leb v (owned * n) || (ltb (owned * c) v && ltb v h)

low_own : (c n h v : ℕ) → v ≤ owned * n → Low c n h v ≡ true
low_own c n h v l = rw (le-leb v (owned * n) l)

or_right : (a b : Bool) → b ≡ true → (a || b) ≡ true
or_right true b e = refl
or_right false b e = e

low_helper : (c n h v : ℕ) → owned * c < v → v < h → Low c n h v ≡ true
low_helper c n h v l m = or_right (leb v (owned * n)) (ltb (owned * c) v && ltb v h) (rw (lt-ltb (owned * c) v l, lt-ltb v h m))

pub low_case : {P : Type 0} (c n h v : ℕ) → Low c n h v ≡ true → (v ≤ owned * n → P) → (owned * c < v → v < h → P) → P
low_case {P} c n h v e f g = go (leb v (owned * n)) refl e
  where
    go : (b : Bool) → leb v (owned * n) ≡ b → (b || (ltb (owned * c) v && ltb v h)) ≡ true → P
    go true q e = f (leb-true v (owned * n) q)
    go false q e = g (ltb-true (owned * c) v (and_l (ltb (owned * c) v) (ltb v h) e)) (ltb-true v h (and_r (ltb (owned * c) v) (ltb v h) e))

low_more : (c n h m k v : ℕ) → n ≤ m → h ≤ k → Low c n h v ≡ true → Low c m k v ≡ true
low_more c n h m k v p q e = low_case c n h v e (λ l. low_own c m k v (omega arith)) (λ l r. low_helper c m k v l (omega arith))

-- the terms that a term names are lower
pub record Named (n : ℕ) (t : Term) : Type 0 where
  pub first : names t ≡ true → t.a < n
  pub second : names t ≡ true → t.b < n
  pub third : names t ≡ true → t.c < n
  pub two : names t ≡ true → true_number < n

module _ (c n h : ℕ) (t : Term) (nm : Named n t) (x : owned * c < h) (k : ℕ) where
  pub variable_low : (l : Wire) → valid (names t) owned k l ≡ true → Low c (suc n) (h + k) (variable h n t l) ≡ true
  variable_low (wire_a i) e = let p = nm.first (and_l (names t) (ltb i owned) e) in let q = ltb-true i owned (and_r (names t) (ltb i owned) e) in low_own c (suc n) (h + k) (own_variable t.a i) (omega arith)
  variable_low (wire_b i) e = let p = nm.second (and_l (names t) (ltb i owned) e) in let q = ltb-true i owned (and_r (names t) (ltb i owned) e) in low_own c (suc n) (h + k) (own_variable t.b i) (omega arith)
  variable_low (wire_c i) e = let p = nm.third (and_l (names t) (ltb i owned) e) in let q = ltb-true i owned (and_r (names t) (ltb i owned) e) in low_own c (suc n) (h + k) (own_variable t.c i) (omega arith)
  variable_low wire_true e = let p = nm.two e in low_own c (suc n) (h + k) (own_variable true_number 2) (omega arith)
  variable_low (helper j) e = let q = ltb-true j k e in low_helper c (suc n) (h + k) (h + j) (omega arith) (omega arith)
  variable_low (own i) e = let q = ltb-true i owned e in low_own c (suc n) (h + k) (own_variable n i) (omega arith)

-- ---- an assignment that is changed at one term's own variables and helpers
unfoldable given : (ℕ → Bool) → ℕ → ℕ → ℕ → (Wire → Bool) → ℕ → Bool
given τ n h k α v = cond (ltb (owned * n) v && leb v (owned * suc n)) (α (own (v - (owned * n + 1)))) (cond (leb h v && ltb v (h + k)) (α (helper (v - h))) (τ v))

module _ (τ : ℕ → Bool) (c n h k : ℕ) (α : Wire → Bool) (m : n < c) (x : owned * c < h) where
  given_own : (i : ℕ) → i < owned → given τ n h k α (own_variable n i) ≡ α (own i)
  unfolding given
  given_own i l =
      let e : own_variable n i - (owned * n + 1) ≡ i = omega arith in
      rw (lt-ltb (owned * n) (own_variable n i) (omega arith), le-leb (own_variable n i) (owned * suc n) (omega arith), e)

  and-false : (a b : Bool) → b ≡ false → (a && b) ≡ false
  and-false true b e = e
  and-false false b e = refl

  given_helper : (j : ℕ) → j < k → given τ n h k α (h + j) ≡ α (helper j)
  unfolding given
  given_helper j l =
      let e : h + j - h ≡ j = omega arith in
      rw (and-false (ltb (owned * n) (h + j)) (leb (h + j) (owned * suc n)) (lt-leb (h + j) (owned * suc n) (omega arith)), le-leb h (h + j) (omega arith), lt-ltb (h + j) (h + k) (omega arith), e)

  given_low : (v : ℕ) → Low c n h v ≡ true → given τ n h k α v ≡ τ v
  unfolding given
  given_low v e =
      low_case c n h v e
      (λ l. rw (le-ltb (owned * n) v l, lt-leb h v (omega arith)))
      (λ l r. rw (and-false (ltb (owned * n) v) (leb v (owned * suc n)) (lt-leb v (owned * suc n) (omega arith)), lt-leb h v (omega arith)))

-- every term's gates are in order, and its operands lower
abbrev pub Sorted : List ℕ → List Term → Type 0
Sorted ns [] = Unit {0}
Sorted ns (t ∷ us) = (ordered (names t) owned (helpers_of t (named_by_b us t)) 0 0 (gates_under ns t (named_by_b us t)) ≡ true) × Named (length us) t × Sorted ns us

module _ (ns : List ℕ) (c : ℕ) where
  -- gates stay met where the variables of these terms are as they were
  keep : (τ ρ : ℕ → Bool) (ts : List Term) → Sorted ns ts → ((v : ℕ) → Low c (length ts) (first_helper c ts) v ≡ true → ρ v ≡ τ v) → MeetsUnder ns τ c ts → MeetsUnder ns ρ c ts
  keep τ ρ [] s a m = tt
  keep τ ρ (t ∷ us) s a m =
      let h = first_helper c us in
      let k = helpers_of t (named_by_b us t) in
      let e : first_helper c (t ∷ us) ≡ h + k = rw (helpers_more t us) (omega arith) in
      let b : (v : ℕ) → Low c (suc (length us)) (h + k) v ≡ true → ρ v ≡ τ v = λ v l. a v (rw e l) in (
        keep τ ρ us s.2 (λ v l. b v (low_more c (length us) h (suc (length us)) (h + k) v (omega arith) (omega arith) l)) m.0,
        met_as (names t) owned k (λ l. τ (variable h (length us) t l)) (λ l. ρ (variable h (length us) t l))
            (λ l v. b (variable h (length us) t l) (variable_low c (length us) h t s.1 (omega arith) k l v)) 0 0 (gates_under ns t (named_by_b us t)) s.0 m.1,
      )

  record Met (ts : List Term) : Type 0 where
    values : ℕ → Bool
    meets : MeetsUnder ns values c ts

  -- one term more
  extend : (t : Term) (us : List Term) → length us < c → Sorted ns (t ∷ us) → Met us → Met (t ∷ us)
  extend t us l s m =
      let h = first_helper c us in
      let k = helpers_of t (named_by_b us t) in
      let n = length us in
      let τ = m.values in
      let α₀ : Wire → Bool = λ x. τ (variable h n t x) in
      let α : Wire → Bool = meet α₀ (gates_under ns t (named_by_b us t)) in
      let ρ : ℕ → Bool = given τ n h k α in
      let x : owned * c < h = omega arith in
      let low : (v : ℕ) → Low c n h v ≡ true → ρ v ≡ τ v = given_low τ c n h k α l x in
      record {
        values = ρ;
        meets = (
          keep τ ρ us s.2 low m.meets,
          met_as (names t) owned k α (λ y. ρ (variable h n t y)) (agree t us l s.0 s.1 τ) 0 0 (gates_under ns t (named_by_b us t)) s.0 (met (names t) owned k α₀ 0 0 (gates_under ns t (named_by_b us t)) s.0),
        );
      }
    where
      agree : (t : Term) (us : List Term) → length us < c → ordered (names t) owned (helpers_of t (named_by_b us t)) 0 0 (gates_under ns t (named_by_b us t)) ≡ true → Named (length us) t → (τ : ℕ → Bool) → (y : Wire)
          → valid (names t) owned (helpers_of t (named_by_b us t)) y ≡ true
          → given τ (length us) (first_helper c us) (helpers_of t (named_by_b us t)) (meet (λ z. τ (variable (first_helper c us) (length us) t z)) (gates_under ns t (named_by_b us t))) (variable (first_helper c us) (length us) t y)
          ≡ meet (λ z. τ (variable (first_helper c us) (length us) t z)) (gates_under ns t (named_by_b us t)) y
      agree t us l od nm τ (wire_a i) v =
          let p = nm.first (and_l (names t) (ltb i owned) v) in let q = ltb-true i owned (and_r (names t) (ltb i owned) v) in
          given_low τ c (length us) (first_helper c us) (helpers_of t (named_by_b us t)) _ l (omega arith) (own_variable t.a i) (low_own c (length us) (first_helper c us) (own_variable t.a i) (omega arith))
          ∙ sym (meet_old (names t) owned (helpers_of t (named_by_b us t)) (λ z. τ (variable (first_helper c us) (length us) t z)) 0 0 (gates_under ns t (named_by_b us t)) od (wire_a i) refl)
      agree t us l od nm τ (wire_b i) v =
          let p = nm.second (and_l (names t) (ltb i owned) v) in let q = ltb-true i owned (and_r (names t) (ltb i owned) v) in
          given_low τ c (length us) (first_helper c us) (helpers_of t (named_by_b us t)) _ l (omega arith) (own_variable t.b i) (low_own c (length us) (first_helper c us) (own_variable t.b i) (omega arith))
          ∙ sym (meet_old (names t) owned (helpers_of t (named_by_b us t)) (λ z. τ (variable (first_helper c us) (length us) t z)) 0 0 (gates_under ns t (named_by_b us t)) od (wire_b i) refl)
      agree t us l od nm τ (wire_c i) v =
          let p = nm.third (and_l (names t) (ltb i owned) v) in let q = ltb-true i owned (and_r (names t) (ltb i owned) v) in
          given_low τ c (length us) (first_helper c us) (helpers_of t (named_by_b us t)) _ l (omega arith) (own_variable t.c i) (low_own c (length us) (first_helper c us) (own_variable t.c i) (omega arith))
          ∙ sym (meet_old (names t) owned (helpers_of t (named_by_b us t)) (λ z. τ (variable (first_helper c us) (length us) t z)) 0 0 (gates_under ns t (named_by_b us t)) od (wire_c i) refl)
      agree t us l od nm τ wire_true v =
          let p = nm.two v in
          given_low τ c (length us) (first_helper c us) (helpers_of t (named_by_b us t)) _ l (omega arith) (own_variable true_number 2) (low_own c (length us) (first_helper c us) (own_variable true_number 2) (omega arith))
          ∙ sym (meet_old (names t) owned (helpers_of t (named_by_b us t)) (λ z. τ (variable (first_helper c us) (length us) t z)) 0 0 (gates_under ns t (named_by_b us t)) od wire_true refl)
      agree t us l od nm τ (helper j) v = given_helper τ c (length us) (first_helper c us) (helpers_of t (named_by_b us t)) _ l (omega arith) j (ltb-true j (helpers_of t (named_by_b us t)) v)
      agree t us l od nm τ (own i) v = given_own τ c (length us) (first_helper c us) (helpers_of t (named_by_b us t)) _ l (omega arith) i (ltb-true i owned v)

  all_met : (ts : List Term) → length ts ≤ c → Sorted ns ts → Met ts
  all_met [] l s = record { values = λ v. false; meets = tt }
  all_met (t ∷ us) l s = extend t us (omega arith) s (all_met us (omega arith) s.2)

-- ---- the terms of a well-formed table over the two constants
module _ (ns : List ℕ) (n : ℕ) where
  third_zero : (us : List Term) (t : Term) → laid_out n us t ≡ true → t.kind ≡ operator_term → t.c ≡ 0
  unfolding laid_out if◌equals◌then◌else◌
  third_zero us t laid k = both (operands_laid_out us t.op t.a t.b) (eqb t.c 0) (rw k at laid) λ p q. eqb-true t.c 0 q

  named : (us : List Term) (t : Term) → laid_out n us t ≡ true → (names t ≡ true → true_number < length us) → Named (length us) t
  named us t laid two = record { first = λ e. (all_three e).0; second = λ e. (all_three e).1; third = λ e. (all_three e).2; two = two }
    where
      all_three : names t ≡ true → (t.a < length us) × (t.b < length us) × (t.c < length us)
      all_three e =
          by_eq t.kind operator_term
          (λ k. let l = operands_lower us t.a t.b t.op (operator_laid n us t laid k) in let z = third_zero us t laid k in (l.first, l.second, (let f = l.first in omega arith))) λ p.
          by_eq t.kind choice_term
          (λ k. let l = choice_names n us t laid k in (l.0.low, l.1.low, l.2.low)) λ q.
          never (sym (names_none ns n us t (named_by_b us t) laid p q) ∙ e)

  sorted_newest : (t : Term) (us : List Term) → laid_out n us t ≡ true → (names t ≡ true → true_number < length us) → Sorted ns us → Sorted ns (t ∷ us)
  unfolding helpers_of
  sorted_newest t us laid two s = ((kind_ordered ns n us t (named_by_b us t) laid).is, named us t laid two, s)

  not_named : (w : ℕ) → names (term truth_term 0 w 0 0) ≡ true → ⊥
  unfolding names if◌equals◌then◌else◌
  not_named w e = never e

  pub sorted : {ts : List Term} → Grown constants ts → well_formed n ts ≡ true → Sorted ns ts
  sorted still h =
      formed_newest n (term truth_term 0 1 0 0) (term truth_term 0 0 0 0 ∷ []) h λ p q r.
      formed_newest n (term truth_term 0 0 0 0) [] r λ u v w.
      sorted_newest (term truth_term 0 1 0 0) (term truth_term 0 0 0 0 ∷ []) p (λ e. absurd (not_named 1 e))
      (sorted_newest (term truth_term 0 0 0 0) [] u (λ e. absurd (not_named 0 e)) tt)
  sorted (more {us = us} {t = t} g) h =
      formed_newest n t us h λ p q r. sorted_newest t us p (λ e. let l = grown_length g in omega arith) (sorted g r)

  -- There are values of the variables that meet the gates.
  pub exist : {ts : List Term} (c : ℕ) → length ts ≤ c → Grown constants ts → well_formed n ts ≡ true → (τ : ℕ → Bool) × MeetsUnder ns τ c ts
  exist {ts} c l g h = let m = all_met ns c ts l (sorted g h) in (m.values, m.meets)
