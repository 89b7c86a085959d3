-- What an opening leaves: under any sixteen numbers, the binding that it gives means the inputs as the concrete run binds them. Assumes nothing.
use mathlib.Core.Path.{◌≡◌, refl, sym, ap, subst, ◌∙◌}
use mathlib.Core.Bool.{Bool, true, false, or-true}
use mathlib.Core.List.{List, [], ◌∷◌}
use Prim.Native.Nat.{ℕ, suc, ◌+◌, ◌<◌, ◌≤◌}
use native.Mathlib.Omega.{arith}
use lib.ListN.{length, get_or}
use lib.Dec.{eqb}
use borrow.Author.Tests.{lt-ltb}
use Rattle.words.proofs.Words.{join_halves}
use Rattle.notation.specs.Notation.{pick, if◌equals◌then◌else◌}
use Rattle.semantics.specs.declared.Term.{Term}
use Rattle.semantics.specs.declared.Input.{Input}
use Rattle.semantics.specs.Numbers.{truth_term, word_term, free_truth_term, free_word_term, binding_term, no_binding, false_number, true_number, input_count, most_table, constant_truth, constant_word, free_truth}
use Rattle.semantics.specs.Terms.{term, word_term_of, truth_number, at, sort_of, same_of, find_of, laid_out, well_formed}
use Rattle.semantics.specs.Steps.{setting_of, Got, gave, deeper, ◌>>=◌, make_of}
use Rattle.semantics.specs.Opening.{input_term, inputs_of, chain_of, opening_of}
use Rattle.semantics.specs.Run.{Value, truth, word, binding, none, input_value, inputs_bound}
use Rattle.semantics.proofs.Fields.{high_unused}
use Rattle.typing.proofs.Grown.{Grown, still, Value as Named, value_grown, value_of, binding_named}
use Rattle.typing.proofs.Formed.{There}
use Rattle.typing.proofs.Does.{Lies, Fit, Post, did, not_did, DoesKeeping, does_give, does_then, does_map, does_weaken, does_make}
use Rattle.typing.proofs.Factory.{there_sort, binding_sort}
use Rattle.soundness.proofs.Means.{term_meaning, meaning_from, meaning, meaning_grown, meaning_past}
use Rattle.soundness.proofs.BySort.{there_means, means_binding}
use Rattle.soundness.proofs.Held.{MeansValue, MeansBindings}

-- An opening may make free inputs, so that a table of constants does not stay one: of the table nothing more is asked, and nothing of a refusal.
abbrev Nothing : {A : Type 0} → A → Type 0
Nothing a = Unit {0}

is_grown : {ns : List ℕ} {ts us : List Term} {v : Value} {x : ℕ} → Grown ts us → MeansValue ns v ts x → MeansValue ns v us x
is_grown {ns} {x = x} g h = record { named = value_grown g h.named; is = meaning_grown ns x g h.named.low ∙ h.is }

-- ---- an input's term
record Makes (n : ℕ) (ns : List ℕ) (v : Value) (t : Term) : Type 0 where
  lies : (ts : List Term) → laid_out n ts t ≡ true
  named : (us : List Term) (a : ℕ) → There t us a → Named us a
  means : (f : ℕ → Value) → meaning_from ns f t ≡ v

module _ (n : ℕ) (ns : List ℕ) where
  makes_truth : (w : ℕ) → Makes n ns (truth (eqb w 1)) (term truth_term 0 (truth_number w) 0 0)
  unfolding truth_number laid_out sort_of term_meaning if◌equals◌then◌else◌
  makes_truth w = go (eqb w 1)
    where
      go : (b : Bool) → Makes n ns (truth b) (term truth_term 0 (pick b true_number false_number) 0 0)
      go true = record { lies = λ ts. refl; named = λ us x t. value_of truth_term refl refl (there_sort truth_term refl t); means = λ f. refl }
      go false = record { lies = λ ts. refl; named = λ us x t. value_of truth_term refl refl (there_sort truth_term refl t); means = λ f. refl }

  makes_word : (w : ℕ) → Makes n ns (word w) (word_term_of w)
  unfolding laid_out sort_of term_meaning if◌equals◌then◌else◌
  makes_word w =
      record { lies = λ ts. rw (high_unused w); named = λ us x t. value_of word_term refl refl (there_sort word_term refl t); means = λ f. ap word (join_halves w) }

  makes_free_truth : (i : ℕ) → i < input_count → Makes n ns (truth (eqb (get_or ns i 0) 1)) (term free_truth_term 0 i 0 0)
  unfolding laid_out sort_of term_meaning if◌equals◌then◌else◌
  makes_free_truth i h =
      record { lies = λ ts. rw (lt-ltb i input_count h); named = λ us x t. value_of truth_term refl refl (there_sort truth_term refl t); means = λ f. refl }

  makes_free_word : (i : ℕ) → i < input_count → Makes n ns (word (get_or ns i 0)) (term free_word_term 0 i 0 0)
  unfolding laid_out sort_of term_meaning if◌equals◌then◌else◌
  makes_free_word i h =
      record { lies = λ ts. rw (lt-ltb i input_count h); named = λ us x t. value_of word_term refl refl (there_sort word_term refl t); means = λ f. refl }

  makes_input : (i : ℕ) (x : Input) → i < input_count → Makes n ns (input_value x (get_or ns i 0)) (input_term i x)
  unfolding input_term input_value if◌equals◌then◌else◌
  makes_input i x l = go (eqb x.kind constant_truth) (eqb x.kind constant_word) (eqb x.kind free_truth)
    where
      go : (a b c : Bool) → Makes n ns (pick a (truth (eqb x.value 1)) (pick b (word x.value) (pick c (truth (eqb (get_or ns i 0) 1)) (word (get_or ns i 0)))))
          (pick a (term truth_term 0 (truth_number x.value) 0 0) (pick b (word_term_of x.value) (pick c (term free_truth_term 0 i 0 0) (term free_word_term 0 i 0 0))))
      go true b c = makes_truth x.value
      go false true c = makes_word x.value
      go false false true = makes_free_truth i l
      go false false false = makes_free_word i l

-- ---- the values of the inputs, and a chain of them
abbrev values_of : List ℕ → ℕ → List Input → List Value
values_of ns i [] = []
values_of ns i (x ∷ xs) = input_value x (get_or ns i 0) ∷ values_of ns (suc i) xs

abbrev chained : List Value → Value
chained [] = none
chained (v ∷ vs) = binding v (chained vs)

data Ins (ns : List ℕ) : List Value → List Term → List ℕ → Type 0 where
  no_in : {ts : List Term} → Ins ns [] ts []
  also_in : {v : Value} {vs : List Value} {ts : List Term} {x : ℕ} {xs : List ℕ} → MeansValue ns v ts x → Ins ns vs ts xs → Ins ns (v ∷ vs) ts (x ∷ xs)

-- a chain's end, or a binding
data Tail (ns : List ℕ) : Value → List Term → ℕ → Type 0 where
  tail_end : {ts : List Term} {e : ℕ} → e ≡ no_binding → Tail ns none ts e
  tail_on : {v : Value} {ts : List Term} {e : ℕ} → MeansBindings ns v ts e → Tail ns v ts e

module _ {n : ℕ} {ns : List ℕ} where
  tail_laid : {ts : List Term} {v x : ℕ} {a b : Value} → MeansValue ns a ts v → Tail ns b ts x → Lies n ts (term binding_term 0 v x 0)
  unfolding laid_out if◌equals◌then◌else◌
  tail_laid h (tail_end e) = record { is = rw (h.named.is, e) }
  tail_laid {x = x} h (tail_on k) = record { is = rw (h.named.is, binding_named k.sort, or-true (eqb x no_binding)) }

  tail_means : {ts us : List Term} {x : ℕ} {b : Value} → Fit n us → Grown ts us → Tail ns b ts x → meaning ns us x ≡ b
  tail_means {us = us} f g (tail_end e) = let s = f.short in rw e (meaning_past ns us no_binding (omega arith))
  tail_means {x = x} f g (tail_on k) = meaning_grown ns x g k.sort.low ∙ k.is

module _ {l n : ℕ} {ns : List ℕ} where
  input_does : {ts : List Term} (i : ℕ) (x : Input) → Fit n ts → i < input_count → DoesKeeping Nothing l n (make_of (input_term i x)) ts (MeansValue ns (input_value x (get_or ns i 0))) Nothing
  input_does {ts} i x f k =
      let m = makes_input n ns i x k in
      does_weaken f (λ us a g t. record { named = m.named us a t; is = there_means ns g.fit t ∙ m.means (meaning ns us) }) (does_make tt f (record { is = m.lies ts }) (λ _. tt))

  inputs_does : {ts : List Term} (i : ℕ) (xs : List Input) → Fit n ts → i + length xs ≤ input_count
      → DoesKeeping Nothing l n (inputs_of i xs) ts (Ins ns (values_of ns i xs)) Nothing
  unfolding inputs_of
  inputs_does i [] f k = does_give [] f no_in
  inputs_does i (x ∷ xs) f k =
      does_then (input_does i x f (omega arith)) (λ us v g r. does_map _ (inputs_does (suc i) xs g.fit (omega arith)) (λ ws vs u z. also_in (is_grown u.grown r) z))

  chain_does : {ts us : List Term} {ws : List Value} {vs : List ℕ} → Grown ts us → Fit n us → Ins ns ws ts vs → DoesKeeping Nothing l n (chain_of vs) us (Tail ns (chained ws)) Nothing
  unfolding chain_of
  chain_does g f no_in = does_give _ f (tail_end refl)
  chain_does g f (also_in {x = v} h r) =
      does_then (chain_does g f r) (λ ys e p k.
      does_weaken p.fit (λ zs a q t. tail_on (record {
        sort = there_sort binding_term (binding_sort v e) t;
        is = there_means ns q.fit t ∙ (means_binding ns (meaning ns zs) (term binding_term 0 v e 0) refl ∙ rw ((is_grown q.grown (is_grown p.grown (is_grown g h))).is, tail_means q.fit q.grown k));
      })) (does_make tt p.fit (tail_laid (is_grown p.grown (is_grown g h)) k) (λ _. tt)))

chained_inputs : (ns : List ℕ) (i : ℕ) (xs : List Input) (ms : List ℕ) → length xs ≤ length ms → ((j : ℕ) → get_or ms j 0 ≡ get_or ns (i + j) 0)
    → chained (values_of ns i xs) ≡ inputs_bound xs ms
unfolding inputs_bound
chained_inputs ns i [] ms h k = refl
chained_inputs ns i (x ∷ xs) [] h k = absurd (omega arith)
chained_inputs ns i (x ∷ xs) (m ∷ ms) h k =
    let a : m ≡ get_or ns i 0 = k 0 ∙ ap (λ j. get_or ns j 0) (right i) in
    rw (a, chained_inputs ns (suc i) xs ms (omega arith) (λ j. k (suc j) ∙ ap (λ j. get_or ns j 0) (next_index i j)))
  where
    right : (i : ℕ) → i + 0 ≡ i
    right i = omega arith

    next_index : (i j : ℕ) → i + suc j ≡ suc i + j
    next_index i j = omega arith

-- ---- the whole opening
abbrev constants : List Term
constants = term truth_term 0 1 0 0 ∷ term truth_term 0 0 0 0 ∷ []

constants_fit : (n : ℕ) → Fit n constants
unfolding well_formed laid_out find_of same_of at if◌equals◌then◌else◌
constants_fit n = record { formed = refl; no = record { low = omega arith; is = refl }; yes = record { low = omega arith; is = refl }; short = omega arith }

from_constants : (xs : List Input) → opening_of xs (setting_of most_table) [] ≡ deeper 0 (deeper 0 ((inputs_of 0 xs >>= λ vs. chain_of vs) (setting_of most_table) constants))
unfolding opening_of ◌>>=◌ make_of find_of same_of
from_constants xs = refl

tail_bindings : {ns : List ℕ} {v : Value} {ts : List Term} {e : ℕ} → (v ≡ none → ⊥) → Tail ns v ts e → MeansBindings ns v ts e
tail_bindings d (tail_end e) = absurd (d refl)
tail_bindings d (tail_on h) = h

pub record Opens (n : ℕ) (ns : List ℕ) (v : Value) (ts : List Term) (e : ℕ) : Type 0 where
  pub fit : Fit n ts
  pub environment : MeansBindings ns v ts e

pub opening_means : {n : ℕ} (ns : List ℕ) (xs : List Input) → length xs ≡ input_count → input_count ≤ length ns
    → {ts : List Term} {e u : ℕ} → opening_of xs (setting_of most_table) [] ≡ gave ts e u → Opens n ns (inputs_bound xs ns) ts e
opening_means {n} ns xs l m {ts} {e} {u} q =
    go _ _ (does_then (inputs_does {l = most_table} {n = n} {ns = ns} 0 xs (constants_fit n) (omega arith)) (λ us vs g r. chain_does still g.fit r)).post
    (sym (from_constants xs) ∙ q)
  where
    not_none : (xs : List Input) → length xs ≡ input_count → chained (values_of ns 0 xs) ≡ none → ⊥
    not_none [] k z = omega arith
    not_none (x ∷ xs) k z = let w : ◌≡◌ {A = ℕ} 0 1 = cc in omega arith

    values_are : chained (values_of ns 0 xs) ≡ inputs_bound xs ns
    values_are = chained_inputs ns 0 xs ns (omega arith) (λ j. ap (λ k. get_or ns k 0) (left j))
      where
        left : (j : ℕ) → j ≡ 0 + j
        left j = omega arith

    go : (x y : Got ℕ) → Post Nothing n constants (Tail ns (chained (values_of ns 0 xs))) Nothing x y → deeper 0 (deeper 0 y) ≡ gave ts e u → Opens n ns (inputs_bound xs ns) ts e
    go x y (did {us = us} {a = a} g t) z =
        let i : us ≡ ts = cc in let j : a ≡ e = cc in
        subst (λ b. Opens n ns (inputs_bound xs ns) ts b) j (subst (λ vs. Opens n ns (inputs_bound xs ns) vs a) i
        (record { fit = g.fit; environment = subst (λ v. MeansBindings ns v us a) values_are (tail_bindings (not_none xs l) t) }))
    go x y (not_did _) z = let w : ◌≡◌ {A = ℕ} 0 1 = cc in absurd (omega arith)
