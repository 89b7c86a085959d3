-- Chains of bindings in a store: one step along a chain, and what writing above it leaves. Assumes nothing.
use mathlib.Core.Path.{◌≡◌, refl, sym, ap, ap₂, ◌∙◌}
use mathlib.Core.Bool.{Bool, true, false}
use mathlib.Core.List.{List}
use Prim.Native.Nat.{ℕ, zero, suc, ◌+◌, ◌-◌, ◌*◌, ◌<◌, ◌≤◌}
use native.Mathlib.Numerals.{add-one}
use native.Mathlib.Omega.{arith}
use lib.Dec.{eqb, ltb}
use lib.ListN.{length, get_or}
use borrow.Author.Tests.{eqb-true, eqb-false, eq-eqb, ne_eqb, ltb-true, ltb-false, lt-ltb, le-ltb}
use Rattle.notation.specs.Notation.{pick, if◌equals◌then◌else◌, if◌below◌then◌else◌}
use Rattle.words.specs.Words.{join_of}
use Rattle.words.proofs.Words.{join_halves}
use Rattle.semantics.specs.declared.Record.{Record}
use Rattle.semantics.specs.Numbers.{truth_term, word_term, procedure_term}
use Rattle.semantics.specs.Records.{record_at}
use Rattle.semantics.specs.PlainRun.{places_in}
use Rattle.semantics.specs.Run.{Value, truth, word, procedure, binding, none, placed_or, placed}
use Rattle.interpreter.specs.declared.Held.{Held}
use Rattle.interpreter.specs.declared.Held.TheVariants.{Truth, Word, Procedure, Nothing}
use Rattle.interpreter.specs.Store.{value_of, binding_of, chain_below, chain_in, lower_of, link_of, value_in, shown, bound, held_in}
use Rattle.interpreter.specs.declared.Run.{Run}
use Rattle.interpreter.specs.Promise.{held_at, next_at, Found, Bound}
use Rattle.interpreter.proofs.Bytes.{put, put_length, put_record, put_below, record_same}

-- a lower chain is named as it is
pub lower_same : (n e : ℕ) → e ≤ n → lower_of n e ≡ e
unfolding lower_of if◌below◌then◌else◌
lower_same n e h = rw (le-ltb _ _ h)

-- any other for the empty one
lower_none : (n e : ℕ) → n < e → lower_of n e ≡ 0
unfolding lower_of if◌below◌then◌else◌
lower_none n e h = rw (lt-ltb _ _ h)

pub lower_low : (n e : ℕ) → lower_of n e ≤ n
lower_low n e = go (ltb n e) refl
  where
    go : (t : Bool) → ltb n e ≡ t → lower_of n e ≤ n
    go true h = rw (lower_none n e (ltb-true _ _ h)) (omega arith)
    go false h = let l : e ≤ n = ltb-false _ _ h in rw (lower_same n e l) l

-- a place past the nearest
placed_next : (p : ℕ) (v e : Value) → (p ≡ 0 → ⊥) → placed p (binding v e) ≡ placed (p - 1) e
unfolding placed_or
placed_next zero v e h = absurd (h refl)
placed_next (suc p) v e h = let u : suc p - 1 ≡ p = omega arith in rw u

module _ (s : List ℕ) where
  below_here : (b e : ℕ) → e ≡ suc b → chain_below s (suc b) e ≡ binding_of (record_at s b) (chain_below s b)
  unfolding chain_below if◌equals◌then◌else◌
  below_here b e h = rw (eq-eqb _ _ h)

  below_down : (b e : ℕ) → (e ≡ suc b → ⊥) → chain_below s (suc b) e ≡ chain_below s b e
  unfolding chain_below if◌equals◌then◌else◌
  below_down b e h = rw (ne_eqb _ _ h)

  -- a chain that is there, by whichever bound above it
  below_in : (b e : ℕ) → e ≤ b → chain_below s b e ≡ chain_in s e
  unfolding chain_in
  below_in zero e h = let z : e ≡ 0 = omega arith in rw z
  below_in (suc b) e h = go (eqb e (suc b)) refl λ l. below_in b e l
    where
      go : (t : Bool) → eqb e (suc b) ≡ t → (e ≤ b → chain_below s b e ≡ chain_below s e e) → chain_below s (suc b) e ≡ chain_below s e e
      go true q less = let z : e ≡ suc b = eqb-true _ _ q in rw z
      go false q less = let f : (e ≡ suc b → ⊥) = eqb-false _ _ q in below_down b e f ∙ less (omega (arith, f))

  below_past : (b e : ℕ) → b < e → chain_below s b e ≡ none
  unfolding chain_below
  below_past zero e h = refl
  below_past (suc b) e h = below_down b e (λ q. omega arith) ∙ below_past b e (omega arith)

  pub chain_empty : chain_in s 0 ≡ none
  unfolding chain_in chain_below
  chain_empty = refl

  -- a chain that place n names
  below_lower : (n e : ℕ) → chain_below s n e ≡ chain_in s (lower_of n e)
  below_lower n e = go (ltb n e) refl
    where
      go : (t : Bool) → ltb n e ≡ t → chain_below s n e ≡ chain_in s (lower_of n e)
      go true h = let l : n < e = ltb-true _ _ h in rw (lower_none n e l) (below_past n e l ∙ sym chain_empty)
      go false h = let l : e ≤ n = ltb-false _ _ h in rw (lower_same n e l) (below_in n e l)

  -- the value that place n holds: only a procedure asks for the chain in its second field
  value_there : (n : ℕ) (x : Record) → value_of x.kind x.p x.q (chain_below s n x.q) ≡ value_in s (held_in n x)
  unfolding value_of held_in if◌equals◌then◌else◌
  value_there n x = go (eqb x.kind truth_term) (eqb x.kind word_term) (eqb x.kind procedure_term)
    where
      go : (a b c : Bool) → pick a (truth (eqb x.p 1)) (pick b (word (join_of x.p x.q)) (pick c (procedure x.p (chain_below s n x.q)) none))
          ≡ value_in s (pick a (Truth (eqb x.p 1)) (pick b (Word (join_of x.p x.q)) (pick c (Procedure x.p (lower_of n x.q)) Nothing)))
      go true b c = refl
      go false true c = refl
      go false false true = ap (procedure x.p) (below_lower n x.q)
      go false false false = refl

  -- chain n + 1 is the binding at place n, and the chain after it
  pub chain_next : (n : ℕ) → chain_in s (suc n) ≡ binding (value_in s (held_at s n)) (chain_in s (next_at s n))
  unfolding chain_in held_at next_at
  chain_next n = below_here n (suc n) refl ∙ ap₂ binding (value_there n (record_at s n)) (below_lower n (record_at s n).r)

  -- a value with no bindings is as it shows
  pub value_shown : (v : Held) → link_of v ≡ 0 → value_in s v ≡ shown v
  value_shown (Truth b) h = refl
  value_shown (Word w) h = refl
  value_shown (Procedure i e) h = rw (h, chain_empty)
  value_shown Nothing h = refl

  -- the next chain is lower
  pub next_low : (n : ℕ) → next_at s n ≤ n
  unfolding next_at
  next_low n = lower_low n (record_at s n).r

  -- the chain of the value there is lower
  held_low : (n : ℕ) → link_of (held_at s n) ≤ n
  unfolding held_at held_in if◌equals◌then◌else◌
  held_low n = go (eqb (record_at s n).kind truth_term) (eqb (record_at s n).kind word_term) (eqb (record_at s n).kind procedure_term)
    where
      go : (a b c : Bool) → link_of (pick a (Truth (eqb (record_at s n).p 1)) (pick b (Word (join_of (record_at s n).p (record_at s n).q)) (pick c (Procedure (record_at s n).p (lower_of n (record_at s n).q)) Nothing))) ≤ n
      go true b c = omega arith
      go false true c = omega arith
      go false false true = lower_low n (record_at s n).q
      go false false false = omega arith

  -- chain n + 1, of a chain that is not empty
  chain_at : (at : ℕ) → 0 < at → chain_in s at ≡ binding (value_in s (held_at s (at - 1))) (chain_in s (next_at s (at - 1)))
  chain_at at h = let u : at ≡ suc (at - 1) = omega arith in ap (chain_in s) u ∙ chain_next (at - 1)

  -- looking for a place along a chain
  module _ (e p at left : ℕ) (inv : placed left (chain_in s at) ≡ placed p (chain_in s e)) (low : at ≤ e) where
    pub find_here : (at ≡ 0 → ⊥) → left ≡ 0 → {v : Held} → v ≡ held_at s (at - 1) → Found s e p v
    unfolding placed_or
    find_here h z q =
        let some : 0 < at = omega (arith, h) in
        let there : value_in s (held_at s (at - 1)) ≡ placed left (chain_in s at) = rw (z, chain_at at some) in
        let l = held_low (at - 1) in
        record { is = rw q (there ∙ inv); low = rw q (omega arith) }

    pub find_next : (at ≡ 0 → ⊥) → (left ≡ 0 → ⊥) → {n : ℕ} → n ≡ next_at s (at - 1) → placed (left - 1) (chain_in s n) ≡ placed p (chain_in s e)
    find_next h z q = let some : 0 < at = omega (arith, h) in rw q (sym (rw (chain_at at some) (placed_next left _ _ z)) ∙ inv)

    pub find_lower : (at ≡ 0 → ⊥) → {n : ℕ} → n ≡ next_at s (at - 1) → n ≤ e
    find_lower h q = let l = next_low (at - 1) in rw q (omega arith)

    pub find_end : at ≡ 0 → Found s e p Nothing
    unfolding placed_or
    find_end z =
        let there : none ≡ placed left (chain_in s at) = rw (z, chain_empty) in
        record { is = there ∙ inv; low = omega arith }

module _ (s y : List ℕ) (k : ℕ) (same : (i : ℕ) → i < 8 * k → get_or y i 0 ≡ get_or s i 0) where
  below_same : (b e : ℕ) → b ≤ k → chain_below y b e ≡ chain_below s b e
  unfolding chain_below if◌equals◌then◌else◌
  below_same zero e h = refl
  below_same (suc b) e h =
      let less : (x : ℕ) → chain_below y b x ≡ chain_below s b x = λ x. below_same b x (omega arith) in
      simp (record_same s y k b (omega arith) same, less)

  -- chains of places that were not written are as they were
  pub chain_same : (e : ℕ) → e ≤ k → chain_in y e ≡ chain_in s e
  unfolding chain_in
  chain_same e h = below_same e e h

  pub value_same : (v : Held) → link_of v ≤ k → value_in y v ≡ value_in s v
  value_same (Truth b) h = refl
  value_same (Word w) h = refl
  value_same (Procedure i e) h = rw (chain_same e h)
  value_same Nothing h = refl

-- a value comes back from its place
held_bound : (n : ℕ) (v : Held) (next : ℕ) → link_of v ≤ n → held_in n (bound v next) ≡ v
unfolding held_in if◌equals◌then◌else◌
held_bound n (Truth true) next h = refl
held_bound n (Truth false) next h = refl
held_bound n (Word w) next h = ap Word (join_halves w)
held_bound n (Procedure i e) next h = ap (Procedure i) (lower_same n e h)
held_bound n Nothing next h = refl

bound_next : (v : Held) (next : ℕ) → (bound v next).r ≡ next
bound_next (Truth b) next = refl
bound_next (Word w) next = refl
bound_next (Procedure i e) next = refl
bound_next Nothing next = refl

-- a binding that was put
module _ (s : List ℕ) (n : ℕ) (v : Held) (e : ℕ) (room : 8 * n + 8 ≤ length s) (l : link_of v ≤ n) (h : e ≤ n) where
  written : List ℕ
  written = put s n (bound v e)

  there : record_at written n ≡ bound v e
  unfolding written
  there = put_record s n (bound v e) room

  held : held_at written n ≡ v
  unfolding held_at
  held = rw there (held_bound n v e l)

  next : next_at written n ≡ e
  unfolding next_at
  next = rw (there, bound_next v e, lower_same n e h)

  pub chain_put : chain_in (put s n (bound v e)) (n + 1) ≡ binding (value_in s v) (chain_in s e)
  unfolding written
  chain_put =
      rw (add-one n) (chain_next written n ∙ simp (held, next) (
      simp (value_same s written n (put_below s n (bound v e) room) v l, chain_same s written n (put_below s n (bound v e) room) e h)))

-- the run then
pub bound_there : (x y : Run) (v : Held) (next : ℕ) → link_of v ≤ x.taken → next ≤ x.taken → x.taken < places_in (length x.store.now) → y.rule ≡ x.rule
    → y.store.ghost_name ≡ x.store.ghost_name → y.store.now ≡ put x.store.now x.taken (bound v next) → y.taken ≡ x.taken + 1 → Bound v next x y (x.taken + 1)
bound_there x y v next l h room er eg es et =
    let whole : 8 * x.taken + 8 ≤ length x.store.now = omega arith in
    record {
      room = room;
      chain = refl;
      taken = et;
      is = rw es (chain_put x.store.now x.taken v next whole l h);
      kept = record {
        lent = eg;
        rule = er;
        grows = rw et (omega arith);
        long = rw es (put_length x.store.now x.taken (bound v next) whole);
        same = λ i k. rw es (put_below x.store.now x.taken (bound v next) whole i k);
      };
    }
