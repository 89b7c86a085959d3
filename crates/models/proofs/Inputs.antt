-- The numbers that an assignment's input variables are. A free input has one term, so that its number is that term's bits. Assumes nothing.
use mathlib.Core.Path.{◌≡◌, refl, sym, ap, ◌∙◌, subst}
use mathlib.Core.Bool.{Bool, true, false, not, ◌&&◌, ◌||◌}
use mathlib.Core.List.{List, [], ◌∷◌}
use Prim.Native.Nat.{ℕ, zero, suc, ◌+◌, ◌-◌, ◌*◌, ◌^◌, ◌≤◌, ◌<◌}
use native.Mathlib.Omega.{arith}
use native.Mathlib.Nat.{pow-suc}
use lib.ListN.{length, get_or}
use lib.Dec.{eqb, ltb}
use borrow.Author.Tests.{eqb-true, eq-eqb, ltb-true, ltb-false, lt-ltb}
use Rattle.notation.specs.Notation.{pick, if◌equals◌then◌else◌}
use Rattle.words.specs.Words.{width}
use Rattle.operators.specs.Operators.{bit_of}
use Rattle.semantics.specs.declared.Term.{Term}
use Rattle.semantics.specs.declared.Input.{Input}
use Rattle.semantics.specs.Numbers.{free_truth_term, free_word_term, free_truth, free_word, input_count}
use Rattle.semantics.specs.Terms.{same_of, find_of, laid_out, well_formed}
use Rattle.semantics.specs.Reading.{numbers_taken}
use Rattle.circuits.proofs.Gates.{Holds}
use Rattle.typing.proofs.Grown.{Grown, still, more}
use Rattle.typing.proofs.Formed.{never, both, either, by_test, formed_newest}
use Rattle.soundness.proofs.Inputs.{All}
use Rattle.soundness.proofs.Link.{Small}
use Rattle.certainty.specs.Certain.{no_input, Words}
use Rattle.certainty.proofs.Free.{Free}
use Rattle.certainty.proofs.Ends.{number_taken_lem}
use Rattle.clauses.specs.Clauses.{term_gates, named_by_b, own_variable, variable, first_helper}
use Rattle.models.specs.Models.{word_at, is_input, input_number, numbers_from, numbers_of}
use Rattle.models.proofs.Held.{word_of}
use Rattle.models.proofs.Says.{digits_are}
use Rattle.models.proofs.ByKind.{gates_free_truth}
use Rattle.models.proofs.Meets.{wires, Meets, Agree}

-- ---- words of variables
pub word_lt : (τ : ℕ → Bool) (v n : ℕ) → word_at τ v n < 2 ^ n
unfolding word_at
word_lt τ v zero = omega arith
word_lt τ v (suc n) = omega (arith, word_lt τ (suc v) n, pow-suc 2 n, bit_le (τ v))
  where
    bit_le : (b : Bool) → bit_of b ≤ 1
    bit_le true = omega arith
    bit_le false = omega arith

word_same : (τ : ℕ → Bool) (k s n : ℕ) → word_at τ (own_variable k s) n ≡ word_of (wires τ k) s n
unfolding word_at word_of
word_same τ k s zero = refl
word_same τ k s (suc n) = let e : suc (own_variable k s) ≡ own_variable k (suc s) = omega arith in rw (e, word_same τ k (suc s) n)

module _ (τ : ℕ → Bool) (ts : List Term) where
  from_length : (i n : ℕ) → length (numbers_from τ ts i n) ≡ n
  unfolding numbers_from
  from_length i zero = refl
  from_length i (suc n) = ap suc (from_length (suc i) n)

  from_at : (i n j : ℕ) → j < n → get_or (numbers_from τ ts i n) j 0 ≡ input_number τ ts (i + j)
  unfolding numbers_from
  from_at i zero j h = absurd (omega arith)
  from_at i (suc n) zero h = ap (input_number τ ts) (omega arith)
  from_at i (suc n) (suc j) h = from_at (suc i) n j (omega arith) ∙ ap (input_number τ ts) (omega arith)

  from_past : (i n j : ℕ) → n ≤ j → get_or (numbers_from τ ts i n) j 0 ≡ 0
  unfolding numbers_from
  from_past i zero j h = refl
  from_past i (suc n) zero h = absurd (omega arith)
  from_past i (suc n) (suc j) h = from_past (suc i) n j (omega arith)

  pub numbers_length_lem : length (numbers_of τ ts) ≡ input_count
  unfolding numbers_of
  numbers_length_lem = from_length 0 input_count

  pub numbers_at : (i : ℕ) → i < input_count → get_or (numbers_of τ ts) i 0 ≡ input_number τ ts i
  unfolding numbers_of
  numbers_at i h = from_at 0 input_count i h ∙ ap (input_number τ ts) (omega arith)

pub input_lt : (τ : ℕ → Bool) (ts : List Term) (i : ℕ) → input_number τ ts i < 2 ^ width
unfolding input_number
input_lt τ [] i = omega arith
input_lt τ (t ∷ ts) i = go (is_input i t) (input_lt τ ts i)
  where
    go : (b : Bool) → input_number τ ts i < 2 ^ width → pick b (word_at τ (own_variable (length ts) 2) width) (input_number τ ts i) < 2 ^ width
    go true l = word_lt τ (own_variable (length ts) 2) width
    go false l = l

pub numbers_words : (τ : ℕ → Bool) (ts : List Term) → Words (numbers_of τ ts)
unfolding numbers_of
numbers_words τ ts i = go (ltb i input_count) refl
  where
    go : (b : Bool) → ltb i input_count ≡ b → get_or (numbers_from τ ts 0 input_count) i 0 < 2 ^ width
    go true e = rw (from_at τ ts 0 input_count i (ltb-true i input_count e)) (input_lt τ ts (0 + i))
    go false e = rw (from_past τ ts 0 input_count i (omega (arith, ltb-false i input_count e))) (omega arith)

-- ---- a free input's term

-- the kind of input i
abbrev kind_at : List Input → ℕ → ℕ
kind_at xs i = (get_or xs i no_input).kind

record Fields (i : ℕ) (t : Term) : Type 0 where
  op : t.op ≡ 0
  a : t.a ≡ i
  b : t.b ≡ 0
  c : t.c ≡ 0
  low : t.a < input_count

module _ (n : ℕ) (us : List Term) (t : Term) (laid : laid_out n us t ≡ true) where
  a_free : (i : ℕ) → is_input i t ≡ true → {P : Type 0} → (t.kind ≡ free_truth_term → t.a ≡ i → P) → (t.kind ≡ free_word_term → t.a ≡ i → P) → P
  unfolding is_input
  a_free i h f g =
      both (eqb t.kind free_truth_term || eqb t.kind free_word_term) (eqb t.a i) h λ p q.
      either (eqb t.kind free_truth_term) (eqb t.kind free_word_term) p (λ k. f (eqb-true _ _ k) (eqb-true _ _ q)) (λ k. g (eqb-true _ _ k) (eqb-true _ _ q))

  shown : (i : ℕ) → t.a ≡ i → (y : Bool) → pick (eqb t.op 0) (ltb t.a input_count && (eqb t.b 0 && eqb t.c 0)) false ≡ true → Fields i t
  shown i e y h =
      by_test (eqb t.op 0) (ltb t.a input_count && (eqb t.b 0 && eqb t.c 0)) false h
      (λ o k. both (ltb t.a input_count) (eqb t.b 0 && eqb t.c 0) k λ p q. both (eqb t.b 0) (eqb t.c 0) q λ u v.
      record { op = eqb-true _ _ o; a = e; b = eqb-true _ _ u; c = eqb-true _ _ v; low = ltb-true t.a input_count p }) (λ o k. never k)

  free_fields : (i : ℕ) → is_input i t ≡ true → Fields i t
  unfolding laid_out if◌equals◌then◌else◌
  free_fields i h = a_free i h (λ k e. shown i e true (rw k at laid)) (λ k e. shown i e true (rw k at laid))

-- the same input's terms are the same
twins : (xs : List Input) (t u : Term) (i : ℕ) → Free xs t → Free xs u → Fields i t → Fields i u → is_input i t ≡ true → is_input i u ≡ true → same_of t u ≡ true
unfolding same_of is_input
twins xs t u i p q f g h k =
    both (eqb t.kind free_truth_term || eqb t.kind free_word_term) (eqb t.a i) h λ a b.
    both (eqb u.kind free_truth_term || eqb u.kind free_word_term) (eqb u.a i) k λ c d.
    either (eqb t.kind free_truth_term) (eqb t.kind free_word_term) a
    (λ x. either (eqb u.kind free_truth_term) (eqb u.kind free_word_term) c
    (λ y. done (eqb-true _ _ x ∙ sym (eqb-true _ _ y)))
    (λ y. apart (sym (p.truth (eqb-true _ _ x)).1 ∙ (ap (kind_at xs) (f.a ∙ sym g.a) ∙ (q.word (eqb-true _ _ y)).1))))
    (λ x. either (eqb u.kind free_truth_term) (eqb u.kind free_word_term) c
    (λ y. apart (sym (q.truth (eqb-true _ _ y)).1 ∙ (ap (kind_at xs) (g.a ∙ sym f.a) ∙ (p.word (eqb-true _ _ x)).1)))
    (λ y. done (eqb-true _ _ x ∙ sym (eqb-true _ _ y))))
  where
    apart : {P : Type 0} → free_truth ≡ free_word → P
    apart e = absurd (omega arith)

    done : t.kind ≡ u.kind → pick (eqb t.a u.a) (eqb t.kind u.kind && (eqb t.op u.op && (eqb t.b u.b && eqb t.c u.c))) false ≡ true
    done e =
        rw (eq-eqb t.a u.a (f.a ∙ sym g.a), eq-eqb t.kind u.kind e, eq-eqb t.op u.op (f.op ∙ sym g.op), eq-eqb t.b u.b (f.b ∙ sym g.b), eq-eqb t.c u.c (f.c ∙ sym g.c))

-- no older term is the same input
abbrev Apart : Term → List Term → Type 0
Apart u [] = Unit {0}
Apart u (t ∷ ts) = ((i : ℕ) → is_input i t ≡ true → is_input i u ≡ true → ⊥) × Apart u ts

abbrev pub Unique : List Term → Type 0
Unique [] = Unit {0}
Unique (t ∷ ts) = Apart t ts × Unique ts

module _ (xs : List Input) (n : ℕ) where
  apart : (u : Term) (vs : List Term) → laid_out n vs u ≡ true → Free xs u → (ts : List Term) → well_formed n ts ≡ true → All (Free xs) ts → (find_of ts u).is ≡ false → Apart u ts
  unfolding find_of
  apart u vs laid q [] h a e = tt
  apart u vs laid q (t ∷ ts) h a e = formed_newest n t ts h λ p r s. go p (same_of t u) refl e (λ k. apart u vs laid q ts s a.1 k)
    where
      go : laid_out n ts t ≡ true → (b : Bool) → same_of t u ≡ b → (pick b (record { is = true; at = length ts }) (find_of ts u)).is ≡ false → ((find_of ts u).is ≡ false → Apart u ts) → Apart u (t ∷ ts)
      go p true k e r = never (sym e)
      go p false k e r = ((λ i x y. never (sym k ∙ twins xs t u i a.0 q (free_fields n ts t p i x) (free_fields n vs u laid i y) x y)), r e)

  pub unique : (ts : List Term) → well_formed n ts ≡ true → All (Free xs) ts → Unique ts
  unique [] h a = tt
  unique (t ∷ ts) h a = formed_newest n t ts h λ p r s. (apart t ts p a.0 ts s a.1 (go (find_of ts t).is r), unique ts s a.1)
    where
      go : (b : Bool) → not b ≡ true → b ≡ false
      go true e = never e
      go false e = refl

-- ---- the number of a free input is its term's bits
module _ (τ : ℕ → Bool) where
  found : (t : Term) (us : List Term) (i : ℕ) → is_input i t ≡ true → {ts : List Term} → Grown (t ∷ us) ts → Unique ts → input_number τ ts i ≡ word_at τ (own_variable (length us) 2) width
  unfolding input_number
  found t us i h still u = rw h
  found t us i h (more {us = ws} {t = v} g) u = rw (hidden v ws u.0 g) (found t us i h g u.1)
    where
      hidden : (v : Term) (ws : List Term) → Apart v ws → Grown (t ∷ us) ws → is_input i v ≡ false
      hidden v ws a g = go (is_input i v) refl
        where
          clash : {ws : List Term} → Apart v ws → Grown (t ∷ us) ws → is_input i v ≡ true → ⊥
          clash a still k = a.0 i h k
          clash a (more g) k = clash a.1 g k

          go : (b : Bool) → is_input i v ≡ b → b ≡ false
          go true k = absurd (clash a g k)
          go false k = refl

  free_is : (t : Term) (k : ℕ) → t.kind ≡ k → (eqb k free_truth_term || eqb k free_word_term) ≡ true → is_input t.a t ≡ true
  unfolding is_input
  free_is t k e f = rw (e, f, eq-eqb t.a t.a refl)

  pub agrees : (n : ℕ) (ts : List Term) → Unique ts → (us : List Term) → Grown us ts → well_formed n us ≡ true → (c : ℕ) → Agree (numbers_of τ ts) τ c us
  agrees n ts u [] g h c = tt
  agrees n ts u (t ∷ us) g h c =
      formed_newest n t us h λ p q r. ((λ k. bits p (free_is t free_truth_term k refl), λ k. bits p (free_is t free_word_term k refl)), agrees n ts u us (older g) r c)
    where
      older : {ts : List Term} → Grown (t ∷ us) ts → Grown us ts
      older still = more still
      older (more g) = more (older g)

      bits : laid_out n us t ≡ true → is_input t.a t ≡ true → get_or (numbers_of τ ts) t.a 0 ≡ word_of (wires τ (length us)) 2 width
      bits p f = numbers_at τ ts t.a (free_fields n us t p t.a f).low ∙ (found t us t.a f g u ∙ word_same τ (length us) 2 width)

-- ---- 13 does not refuse them
module _ (τ : ℕ → Bool) (c n : ℕ) (xs : List Input) where
  split_word : (b : ℕ → Bool) (s m : ℕ) → word_of b s (suc m) ≡ bit_of (b s) + 2 * word_of b (suc s) m
  unfolding word_of
  split_word b s m = refl

  truth_bits : (t : Term) (us : List Term) → t.kind ≡ free_truth_term → Holds (λ l. τ (variable (first_helper c us) (length us) t l)) (term_gates t (named_by_b us t)) → word_at τ (own_variable (length us) 2) width < 2
  truth_bits t us k h =
      let g = subst (λ gs. Holds (λ l. τ (variable (first_helper c us) (length us) t l)) gs) (gates_free_truth t (named_by_b us t) k) h in
      rw (word_same τ (length us) 2 width) (go (digits_are (λ l. τ (variable (first_helper c us) (length us) t l)) 3 (width - 1) 0 (omega arith) g.1.1))
    where
      bit_lt : (b : Bool) → bit_of b < 2
      bit_lt true = omega arith
      bit_lt false = omega arith

      go : word_of (wires τ (length us)) 3 (width - 1) ≡ 0 → word_of (wires τ (length us)) 2 width < 2
      go e = rw (split_word (wires τ (length us)) 2 (width - 1), e) (let l = bit_lt (wires τ (length us) 2) in omega arith)

  truth_small : (ts : List Term) → well_formed n ts ≡ true → All (Free xs) ts → Meets τ c ts → (i : ℕ) → kind_at xs i ≡ free_truth → input_number τ ts i < 2
  unfolding input_number
  truth_small [] h a m i k = omega arith
  truth_small (t ∷ ts) h a m i k = formed_newest n t ts h λ p q r. go p (is_input i t) refl (truth_small ts r a.1 m.0 i k)
    where
      apart : {P : Type 0} → free_truth ≡ free_word → P
      apart e = absurd (omega arith)

      go : laid_out n ts t ≡ true → (b : Bool) → is_input i t ≡ b → input_number τ ts i < 2 → pick b (word_at τ (own_variable (length ts) 2) width) (input_number τ ts i) < 2
      go p true e l = a_free n ts t p i e (λ x y. truth_bits t ts x m.1) (λ x y. apart (sym k ∙ (sym (ap (kind_at xs) y) ∙ (a.0.word x).1)))
      go p false e l = l

taken_from : (τ : ℕ → Bool) (ts : List Term) (xs : List Input) (i k : ℕ) → ((j : ℕ) → kind_at xs j ≡ free_truth → input_number τ ts (i + j) < 2) → numbers_taken xs (numbers_from τ ts i k) ≡ true
unfolding numbers_taken numbers_from if◌equals◌then◌else◌
taken_from τ ts [] i k h = refl
taken_from τ ts (x ∷ xs) i zero h = refl
taken_from τ ts (x ∷ xs) i (suc k) h =
    rw (taken_from τ ts xs (suc i) k (λ j e. subst (λ m. input_number τ ts m < 2) (shift i j) (h (suc j) e))) (go (eqb x.kind free_truth) refl)
  where
    shift : (i j : ℕ) → i + suc j ≡ suc i + j
    shift i j = omega arith

    right : (i : ℕ) → i + 0 ≡ i
    right i = omega arith

    go : (b : Bool) → eqb x.kind free_truth ≡ b → (pick b (ltb (input_number τ ts i) 2) true && true) ≡ true
    go true e = rw (lt-ltb (input_number τ ts i) 2 (subst (λ m. input_number τ ts m < 2) (right i) (h 0 (eqb-true _ _ e))))
    go false e = refl

pub numbers_taken_lem : (τ : ℕ → Bool) (c n : ℕ) (xs : List Input) (ts : List Term) → well_formed n ts ≡ true → All (Free xs) ts → Meets τ c ts → numbers_taken xs (numbers_of τ ts) ≡ true
unfolding numbers_of
numbers_taken_lem τ c n xs ts h a m =
    taken_from τ ts xs 0 input_count (λ j e. subst (λ m. input_number τ ts m < 2) (left j) (truth_small τ c n xs ts h a m j e))
  where
    left : (j : ℕ) → j ≡ 0 + j
    left j = omega arith

-- ---- numbers that 13 does not refuse give each free truth 0 or 1
pub small_of : (xs : List Input) (ns : List ℕ) → numbers_taken xs ns ≡ true → length xs ≤ length ns → (ts : List Term) → All (Free xs) ts → Small ns ts
small_of xs ns h l [] f = tt
small_of xs ns h l (t ∷ ts) f = ((λ k. let z = f.0.truth k in number_taken_lem xs ns h t.a z.0 (let i = z.0 in omega arith) z.1), small_of xs ns h l ts f.1)
