-- Steps whose answer is shown as the definitions say it: a walk, with the leaves that it found, and a call's. `walks` answers the returns of a walk.
-- Assumes nothing.
use mathlib.Core.Path.{◌≡◌, refl}
use mathlib.Core.Bool.{Bool, true, false, beq}
use mathlib.Core.List.{List, [], ◌∷◌, ◌++◌}
use Prim.Native.Nat.{ℕ, suc, ◌+◌, ◌-◌, ◌<◌, ◌≤◌}
use native.Mathlib.Omega.{arith}
use lib.Dec.{eqb}
use lib.ListN.{length, get_or, drop, drop_of_length-le}
use Rattle.std.proofs.lemmas.List.{drop_more}
use Rattle.std.specs.Prelude.{⊤, IsErr, IsErrAnd, OnOk, IfErr}
use Rattle.std.specs.Result.{result_from_control_flow}
use Rattle.std.specs.Option.{option_eq}
use Rattle.std.specs.declared.option.Option.{Option}
use Rattle.std.specs.declared.option.Option.TheVariants.{None, Some}
use Rattle.std.specs.declared.result.Result.{Result}
use Rattle.std.specs.declared.result.Result.TheVariants.{Ok, Err}
use Rattle.std.specs.declared.ops.ControlFlow.{ControlFlow}
use Rattle.std.specs.declared.ops.ControlFlow.TheVariants.{Continue, Break}
use Rattle.std.proofs.lemmas.Result.{err_from_is_err_and}
use Rattle.notation.specs.Notation.{if◌equals◌then◌else◌}
use Rattle.semantics.specs.declared.Term.{Term}
use Rattle.semantics.specs.declared.Leaf.{Leaf}
use Rattle.semantics.specs.declared.refusal.Refusal.{Refusal}
use Rattle.semantics.specs.Refusals.{number_of}
use Rattle.semantics.specs.Numbers.{leaf_limit, call_too_wide, procedure_term, known_false}
use Rattle.semantics.specs.Terms.{at, known_of}
use Rattle.semantics.specs.Steps.{Make, ◌>>=◌, ◌▹◌, give, each, seen}
use Rattle.semantics.specs.Factory.{or_of}
use Rattle.semantics.specs.Walk.{Aim, leaf_of, node_of, walk_of, or_target_of}
use Rattle.terms.specs.Gives.{held, Gives, Leads}
use Rattle.terms.specs.Known.{known_number}
use Rattle.terms.specs.declared.table.Table.{Table}
use Rattle.terms.proofs.Gives.{steps, gives_value, gives_none, on_read, on_value, if_eq, if_ne, if_lt, if_ge, each_end, each_stop, each_next, then_stop, then_on, try_stop, try_map_stop}
use Rattle.walk.specs.declared.Aimed.{Aimed}
use Rattle.walk.specs.Leaves.{walk_shown, aim_shown}

module _ {s : Table} (found new : List Leaf) (g : ℕ) (t : Term) where
  -- a leaf found, or one too many
  pub leaf_pushed : (r : Result ⊤ Refusal) → OnOk r ((length found < leaf_limit) × (new ≡ found ++ (record { guard = g; term = t } ∷ [])))
      → IfErr r (λ k. (leaf_limit ≤ length found) × (number_of k ≡ call_too_wide)) → Gives (leaf_of found g t) s 0 (walk_shown new r) s
  unfolding leaf_of
  leaf_pushed (Ok _) h o = on_value _ _ refl (if_lt _ _ _ _ h.0 (rw h.1 (gives_value s _)))
  leaf_pushed (Err k) o h = on_value _ _ refl (if_ge _ _ _ _ h.0 (rw (← h.1) (gives_none s k 0)))

module _ (f path x : ℕ) (found : List Leaf) {s : Table} where
  pub walk_none : f ≡ 0 → Gives (walk_of f path x found) s 0 (Ok found) s
  unfolding walk_of
  walk_none h = rw (h, walk_of) (gives_value s found)

  pub walk_go : (f ≡ 0 → ⊥) → {r : Result (List Leaf) Refusal} {y : Table} → Gives (node_of (walk_of (f - 1)) path x found) s 0 r y → Gives (walk_of f path x found) s 0 r y
  unfolding walk_of
  walk_go h g = let e : f ≡ suc (f - 1) = omega arith in rw (e, walk_of) g

-- a refusal that a `?` hands on, where the answer is shown by v
module _ {B C : Type 0} (v : Result C Refusal → Result B Refusal) (same : (k : Refusal) → v (Err k) ≡ Err k) {l : Make B} {s y : Table} where
  handed : {u : ℕ} {k : Refusal} (r : Result C Refusal) → IsErr r × IsErrAnd r (λ e. e ≡ k) → Gives l s u (Err k) y → Gives l s u (v r) y
  handed {u} {k} r j g = let p = err_from_is_err_and r j.1 in rw (p.1, p.2, same k) g

-- after a walk that found the leaves ls
module _ {B : Type 0} {m : Make (List Leaf)} (f : List Leaf → Make B) {s : Table} (ls : List Leaf) {q : Result ⊤ Refusal} {y : Table} {b : ControlFlow _ ⊤}
    (h : q ≡ result_from_control_flow b) (g : Gives m s 0 (walk_shown ls q) y) where
  walked_stop : {e : _} → b ≡ Break e → {w : ℕ} → Gives (m >>= f) s w (Err e.0) y
  walked_stop i {w} = then_stop f (rw (h, i) at g) refl {w = w}

  pub walk_on : {o : ⊤} → b ≡ Continue o → {w : ℕ} {r : Result B Refusal} {z : Table} → Gives (f ls) y w r z → Gives (m >>= f) s w r z
  walk_on i k = then_on f (rw (h, i) at g) refl k

-- the refusals of a walk
module _ {A : Type 0} {m : Make A} (f : A → Make (List Leaf)) {s : Table} {q : Result A Refusal} {y : Table} {b : ControlFlow _ A} (h : q ≡ result_from_control_flow b)
    (g : Gives m s 0 q y) where
  pub walk_stop : {e : _} → b ≡ Break e → (r : Result ⊤ Refusal) → IsErr r × IsErrAnd r (λ k. k ≡ e.0) → (ls : List Leaf) {w : ℕ} → Gives (m >>= f) s w (walk_shown ls r) y
  walk_stop i r j ls {w} = handed (walk_shown ls) (λ k. refl) r j (then_stop f g (rw i at h) {w = w})

-- one leaf of the or
module _ (g : ℕ) (l : Leaf) {s : Table} where
  pub target_met : l.term.kind ≡ procedure_term → {r : Result ℕ Refusal} {y : Table} → Gives (or_of g l.guard) s 0 r y → Gives (or_target_of g l) s 0 r y
  unfolding or_target_of
  target_met e k = if_eq _ _ _ _ e k

  pub target_other : (l.term.kind ≡ procedure_term → ⊥) → Gives (or_target_of g l) s 0 (Ok g) s
  unfolding or_target_of
  target_other e = if_ne _ _ _ _ e (gives_value s g)

module _ {m : Make ℕ} {s y : Table} (g : ℕ) (ls : List Leaf) (i : ℕ) (inv : Leads m s 0 (each or_target_of g (drop i ls)) y) where
  pub targets_end : length ls ≤ i → Gives m s 0 (Ok g) y
  targets_end h = each_end or_target_of (rw (drop_of_length-le ls h) at inv)

  module _ (d : Leaf) (h : i < length ls) {q : Result ℕ Refusal} {w : Table} (k : Gives (or_target_of g (get_or ls i d)) y 0 q w) where
    turn : Leads m s 0 (each or_target_of g (get_or ls i d ∷ drop (i + 1) ls)) y
    turn = rw (drop_more ls i d h) at inv

    pub targets_stop : {b : ControlFlow _ ℕ} → q ≡ result_from_control_flow b → {e : _} → b ≡ Break e → {r : Result ℕ Refusal} → IsErr r × IsErrAnd r (λ k. k ≡ e.0) → Gives m s 0 r w
    targets_stop j z {r} p = let o = err_from_is_err_and r p.1 in rw (o.1, o.2) (each_stop or_target_of _ _ turn (rw (j, z) at k) refl)

    pub targets_next : {a : ℕ} → q ≡ Ok a → Leads m s 0 (each or_target_of a (drop (i + 1) ls)) w
    targets_next e = each_next or_target_of _ _ turn k e refl

-- a guard that is known to be false, or not
said_number : (o : Option Bool) → eqb (known_number o) 0 ≡ option_eq beq o (Some false)
said_number None = refl
said_number (Some true) = refl
said_number (Some false) = refl

module _ (x : ℕ) (m l : Make (List Leaf)) {s : Table} {r : Result (List Leaf) Refusal} {y : Table} (o : Option Bool) (e : known_number o ≡ known_of (at (held s) x))
    {b : Bool} (i : b ≡ option_eq beq o (Some false)) where
  pub seen_false_guard : b ≡ true → Gives m s 0 r y → Gives (seen x (λ k. if k equals known_false then m else l)) s 0 r y
  unfolding if◌equals◌then◌else◌
  seen_false_guard j g = on_read _ _ e (rw (said_number o, ← i, j) g)

  pub seen_other_guard : b ≡ false → Gives l s 0 r y → Gives (seen x (λ k. if k equals known_false then m else l)) s 0 r y
  unfolding if◌equals◌then◌else◌
  seen_other_guard j g = on_read _ _ e (rw (said_number o, ← i, j) g)

-- the refusals of what a walk is a step of
module _ {m : Make (List Leaf)} (f : List Leaf → Make (List Leaf)) {s : Table} (ls : List Leaf) {q : Result ⊤ Refusal} {y : Table} {b : ControlFlow _ ⊤}
    (h : q ≡ result_from_control_flow b) (g : Gives m s 0 (walk_shown ls q) y) where
  pub side_stop : {e : _} → b ≡ Break e → (r : Result ⊤ Refusal) → IsErr r × IsErrAnd r (λ k. k ≡ e.0) → (ks : List Leaf) {w : ℕ} → Gives (m >>= f) s w (walk_shown ks r) y
  side_stop i r j ks {w} = handed (walk_shown ks) (λ k. refl) r j (walked_stop f ls h g i {w = w})

-- and the refusals of a call
module _ {m : Make (List Leaf)} (f : List Leaf → Make Aim) {s : Table} (ls : List Leaf) {q : Result ⊤ Refusal} {y : Table} {b : ControlFlow _ ⊤}
    (h : q ≡ result_from_control_flow b) (g : Gives m s 0 (walk_shown ls q) y) where
  pub aim_unwalked : {e : _} → b ≡ Break e → (r : Result Aimed Refusal) → IsErr r × IsErrAnd r (λ k. k ≡ e.0) → {w : ℕ} → Gives (m >>= f) s w (aim_shown r) y
  aim_unwalked i r j {w} = handed aim_shown (λ k. refl) r j (walked_stop f ls h g i {w = w})

module _ {A : Type 0} {m : Make A} {s : Table} {q : Result A Refusal} {y : Table} {b : ControlFlow _ A} (h : q ≡ result_from_control_flow b) (g : Gives m s 0 q y) where
  pub aim_stop : (f : A → Make Aim) {e : _} → b ≡ Break e → (r : Result Aimed Refusal) → IsErr r × IsErrAnd r (λ k. k ≡ e.0) → {w : ℕ} → Gives (m >>= f) s w (aim_shown r) y
  aim_stop f i r j {w} = handed aim_shown (λ k. refl) r j (then_stop f g (rw i at h) {w = w})

  pub aim_map_stop : (f : A → Aim) {e : _} → b ≡ Break e → (r : Result Aimed Refusal) → IsErr r × IsErrAnd r (λ k. k ≡ e.0) → {w : ℕ} → Gives (m ▹ f) s w (aim_shown r) y
  unfolding ◌▹◌
  aim_map_stop f i r j {w} = aim_stop (λ a. give (f a)) i r j {w = w}

pub ruleset walks = (steps, walk_none, walk_go, leaf_pushed, walk_on, walk_stop, side_stop, seen_false_guard, seen_other_guard)

pub ruleset aims = (steps, walk_on, aim_unwalked, aim_stop, aim_map_stop)
