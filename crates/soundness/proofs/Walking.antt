-- The walk of choices. Guards are not shown disjoint: a leaf whose guard holds means what the term walked means, and some guard holds if the path
-- does. Assumes nothing.
use mathlib.Core.Path.{◌≡◌, refl, sym, ap, subst, ◌∙◌}
use mathlib.Core.Bool.{Bool, true, false, not, ◌&&◌, ◌||◌, or-false}
use mathlib.Core.List.{List, [], ◌∷◌, ◌++◌}
use Prim.Native.Nat.{ℕ, zero, suc, ◌<◌}
use native.Mathlib.Omega.{arith}
use lib.ListN.{length}
use Rattle.notation.specs.Notation.{pick, if◌equals◌then◌else◌}
use Rattle.semantics.specs.declared.Term.{Term}
use Rattle.semantics.specs.declared.Leaf.{Leaf}
use Rattle.semantics.specs.Numbers.{choice_term, leaf_limit, call_too_wide, table_full}
use Rattle.semantics.specs.Terms.{at, sort_of}
use Rattle.semantics.specs.Walk.{leaf_of, Walk, side_of, left_side_of, right_side_of, sides_of, node_of, walk_of}
use Rattle.semantics.specs.Run.{Value}
use Rattle.typing.proofs.Grown.{at_grown, Value as Named, sort_grown, value_grown}
use Rattle.typing.proofs.Formed.{never, choice_names, Laid, laid_at}
use Rattle.typing.proofs.Does.{step_on, does_give, does_refuse, does_then, does_weaken, does_read, does_with, does_eq, does_below}
use Rattle.soundness.proofs.Means.{meaning}
use Rattle.soundness.proofs.Constants.{Const, const_back, Step, Does}
use Rattle.soundness.proofs.BySort.{means_choice, means_at}
use Rattle.soundness.proofs.Held.{MeansTruth, MeansValue, truth_step, value_step, some_truth, known_is_false}
use Rattle.soundness.proofs.Factory.{not_does, and_does, no_choice}

-- what is a choice by its kind is one by its sort
choice_of_lem : (t : Term) → t.kind ≡ choice_term → sort_of t ≡ choice_term
unfolding sort_of if◌equals◌then◌else◌
choice_of_lem t e = rw e

-- ---- leaves
pub record LeafMeans (ns : List ℕ) (ts : List Term) (v : Value) (l : Leaf) (g : Bool) : Type 0 where
  pub guard : MeansTruth ns g ts l.guard
  pub number : ℕ
  pub named : Named ts number
  pub is : at ts number ≡ l.term
  pub plain : l.term.kind ≡ choice_term → ⊥
  pub agrees : g ≡ true → meaning ns ts number ≡ v
  pub live : Const ts → g ≡ true

pub data Leaves (ns : List ℕ) (ts : List Term) (v : Value) : List Leaf → List Bool → Type 0 where
  no_leaf_lem : Leaves ns ts v [] []
  leaf : {l : Leaf} {g : Bool} {ls : List Leaf} {gs : List Bool} → LeafMeans ns ts v l g → Leaves ns ts v ls gs → Leaves ns ts v (l ∷ ls) (g ∷ gs)

abbrev pub some_of : List Bool → Bool
some_of [] = false
some_of (g ∷ gs) = g || some_of gs

-- the leaves that a walk finds, after those found before
pub record Walked (ns : List ℕ) (found : List Leaf) (v : Value) (x : Bool) (ts : List Term) (ls : List Leaf) : Type 0 where
  pub new : List Leaf
  pub is : ls ≡ found ++ new
  pub gs : List Bool
  pub leaves : Leaves ns ts v new gs
  pub some : some_of gs ≡ x

module _ {ns : List ℕ} {n : ℕ} where
  pub leaf_step : {ts us : List Term} {v : Value} {l : Leaf} {g : Bool} → Step n ts us → LeafMeans ns ts v l g → LeafMeans ns us v l g
  leaf_step {ts} {us} p h =
      let i : MeansValue ns (meaning ns us h.number) us h.number = record { named = value_grown p.grown h.named; is = refl } in
      let j : MeansValue ns (meaning ns ts h.number) us h.number = value_step p (record { named = h.named; is = refl }) in
      record {
        guard = truth_step p h.guard;
        number = h.number;
        named = i.named;
        is = at_grown h.number p.grown h.named.low ∙ h.is;
        plain = h.plain;
        agrees = λ e. j.is ∙ h.agrees e;
        live = λ c. h.live (const_back p.grown c);
      }

  pub leaves_step : {ts us : List Term} {v : Value} {ls : List Leaf} {gs : List Bool} → Step n ts us → Leaves ns ts v ls gs → Leaves ns us v ls gs
  leaves_step p no_leaf_lem = no_leaf_lem
  leaves_step p (leaf h r) = leaf (leaf_step p h) (leaves_step p r)

-- the leaves of one side, as leaves of the whole
leaves_as : {ns : List ℕ} {ts : List Term} {v w : Value} {ls : List Leaf} {gs : List Bool} → (some_of gs ≡ true → v ≡ w) → Leaves ns ts v ls gs → Leaves ns ts w ls gs
leaves_as q no_leaf_lem = no_leaf_lem
leaves_as {ns} {ts} {v} {w} q (leaf {l = l} {g = g} {gs = gs} h r) =
    leaf (record { guard = h.guard; number = h.number; named = h.named; is = h.is; plain = h.plain; agrees = λ i. h.agrees i ∙ q (or_l g (some_of gs) i); live = h.live })
    (leaves_as (λ i. q (or_r g (some_of gs) i)) r)
  where
    or_l : (a b : Bool) → a ≡ true → (a || b) ≡ true
    or_l true b i = refl
    or_l false b i = never i

    or_r : (a b : Bool) → b ≡ true → (a || b) ≡ true
    or_r true b i = refl
    or_r false b i = i

leaves_app : {ns : List ℕ} {ts : List Term} {v : Value} {ls rs : List Leaf} {gs hs : List Bool} → Leaves ns ts v ls gs → Leaves ns ts v rs hs → Leaves ns ts v (ls ++ rs) (gs ++ hs)
leaves_app no_leaf_lem q = q
leaves_app (leaf h r) q = leaf h (leaves_app r q)

++-assoc : (xs ys zs : List Leaf) → (xs ++ ys) ++ zs ≡ xs ++ (ys ++ zs)
++-assoc [] ys zs = refl
++-assoc (x ∷ xs) ys zs = ap (λ u. x ∷ u) (++-assoc xs ys zs)

some_app : (gs hs : List Bool) → some_of (gs ++ hs) ≡ (some_of gs || some_of hs)
some_app [] hs = refl
some_app (true ∷ gs) hs = refl
some_app (false ∷ gs) hs = some_app gs hs

-- ---- what a walk promises of terms below d
module _ (l n : ℕ) (ns : List ℕ) (N : ℕ → Type 0) (top : List Term) (room : N table_full) (wide : (Const top → ⊥) → N call_too_wide) where
  abbrev Walks : ℕ → Walk → Type 0
  Walks d w = (ts : List Term) (path x : ℕ) (found : List Leaf) (b : Bool) (v : Value) → x < d → Step n top ts → (Const ts → length found < leaf_limit)
      → MeansTruth ns b ts path → (Const ts → b ≡ true) → MeansValue ns v ts x → Does l n (w path x found) ts (Walked ns found v b) N

  module _ (d : ℕ) (w : Walk) (ih : Walks d w) where
    side_does : (ts : List Term) (path x : ℕ) (found : List Leaf) (b : Bool) (v : Value) → x < d → Step n top ts → (Const ts → ⊥)
        → MeansTruth ns b ts path → MeansValue ns v ts x → Does l n (side_of w path x found) ts (Walked ns found v b) N
    unfolding side_of
    side_does ts path x found b v k z mixed h i =
        does_read _ _ (does_eq _ _ (λ e. does_give _ z.fit (record { new = []; is = sym (++-none found); gs = []; leaves = no_leaf_lem; some = sym (known_is_false z.fit h e) }))
        (λ e. ih ts path x found b v k z (λ c. absurd (mixed c)) h (λ c. absurd (mixed c)) i))
      where
        ++-none : (ls : List Leaf) → ls ++ [] ≡ ls
        ++-none [] = refl
        ++-none (x ∷ xs) = ap (λ u. x ∷ u) (++-none xs)

    sides_does : (ts : List Term) (path : ℕ) (t : Term) (found : List Leaf) (b c : Bool) (v u : Value) → t.b < d → t.c < d → Step n top ts → (Const ts → ⊥)
        → MeansTruth ns b ts path → MeansTruth ns c ts t.a → MeansValue ns v ts t.b → MeansValue ns u ts t.c → Does l n (sides_of w path t found) ts (Walked ns found (pick c v u) b) N
    unfolding sides_of left_side_of right_side_of
    sides_does ts path t found b c v u lb lc z mixed h g hv hu =
        does_then (does_then (and_does room z.fit h g) (λ us i q hi.
        side_does us i t.b found (b && c) v lb (step_on z q) (λ o. mixed (const_back q.grown o)) hi (value_step q hv))) (λ us ls q hl. let zq = step_on z q in
        does_then (not_does room q.fit (truth_step q g)) (λ vs j r hj. let qr = step_on q r in
        does_then (and_does room r.fit (truth_step qr h) hj) (λ ws k y hk. let qy = step_on qr y in
        does_weaken y.fit (λ xs os p ho. record {
          new = hl.new ++ ho.new;
          is = ho.is ∙ (ap (λ e. e ++ ho.new) hl.is ∙ ++-assoc found hl.new ho.new);
          gs = hl.gs ++ ho.gs;
          leaves = leaves_app (leaves_as (λ i. left b c (sym hl.some ∙ i)) (leaves_step (step_on (step_on r y) p) hl.leaves)) (leaves_as (λ i. right b c (sym ho.some ∙ i)) ho.leaves);
          some = some_app hl.gs ho.gs ∙ rw (hl.some, ho.some) (both b c);
        }) (side_does ws k t.c ls (b && not c) u lc (step_on z qy) (λ o. mixed (const_back qy.grown o)) hk (value_step qy hu)))))
      where
        left : (x y : Bool) → (x && y) ≡ true → v ≡ pick y v u
        left true true i = refl
        left true false i = never i
        left false y i = never i

        right : (x y : Bool) → (x && not y) ≡ true → u ≡ pick y v u
        right true true i = never i
        right true false i = refl
        right false y i = never i

        both : (x y : Bool) → ((x && y) || (x && not y)) ≡ x
        both true true = refl
        both true false = refl
        both false y = refl

    leaf_does : (ts : List Term) (path x : ℕ) (found : List Leaf) (b : Bool) (v : Value) → Step n top ts → (Const ts → length found < leaf_limit)
        → MeansTruth ns b ts path → (Const ts → b ≡ true) → MeansValue ns v ts x → ((at ts x).kind ≡ choice_term → ⊥) → Does l n (leaf_of found path (at ts x)) ts (Walked ns found v b) N
    unfolding leaf_of
    leaf_does ts path x found b v z few h live i plain =
        does_with _ _ (does_below _ _ (λ k. does_give _ z.fit (record {
          new = _;
          is = refl;
          gs = b ∷ [];
          leaves = leaf (record { guard = h; number = x; named = i.named; is = refl; plain = plain; agrees = λ _. i.is; live = live }) no_leaf_lem;
          some = or-false b;
        })) (λ k. does_refuse call_too_wide (wide (λ c. let e = few (z.keeps c) in omega arith))))

    node_does : Walks (suc d) (node_of w)
    unfolding node_of
    node_does ts path x found b v k z few h live i =
        does_read _ _ (does_eq _ _
        (λ e.
        let f = z.fit in
        let y : Laid n ts x = laid_at n ts x f.formed i.named.low in
        let o = choice_names n y.under (at ts x) y.laid e in
        let lb = o.1.low in let lc = o.2.low in let q = y.number in
        subst (λ a. Does l n (sides_of w path (at ts x) found) ts (Walked ns found a b) N)
        (sym (means_choice ns (meaning ns ts) (at ts x) e) ∙ (sym (means_at ns f x i.named.low) ∙ i.is))
        (sides_does ts path (at ts x) found b _ _ _ (omega arith) (omega arith) z (λ c. constant_choice e c) h (some_truth f (sort_grown y.grown o.0))
        (record { named = value_grown y.grown o.1; is = refl }) (record { named = value_grown y.grown o.2; is = refl })))
        (λ e. leaf_does ts path x found b v z few h live i e))
      where
        constant_choice : (at ts x).kind ≡ choice_term → Const ts → ⊥
        constant_choice e c = no_choice (record { is = choice_of_lem (at ts x) e; low = i.named.low }) c

  pub walk_does : (d : ℕ) → Walks d (walk_of d)
  unfolding walk_of
  walk_does zero ts path x found b v k z few h live i = absurd (omega arith)
  walk_does (suc d) ts path x found b v k z few h live i = node_does d (walk_of d) (walk_does d) ts path x found b v k z few h live i
