-- What the functions of a run promise. Assumes nothing.
use Rattle.std.specs.Prelude.{ℕ, ◌+◌, ◌*◌, ◌<◌, ◌≤◌, ◌≡◌, List, length, get_or, IfOk}
use Rattle.std.specs.declared.result.Result.{Result}
use Rattle.semantics.specs.Records.{record_at}
use Rattle.semantics.specs.Run.{binding, placed}
use Rattle.semantics.specs.PlainRun.{Stored, stored_of, places_in}
use Rattle.interpreter.specs.declared.Held.{Held}
use Rattle.interpreter.specs.declared.Stop.{Stop}
use Rattle.interpreter.specs.declared.Run.{Run}
use Rattle.interpreter.specs.Store.{chain_in, lower_of, link_of, value_in, held_in, stored_by}

-- the value bound at place n
unfoldable pub held_at : List ℕ → ℕ → Held
held_at s n = held_in n (record_at s n)

-- the chain after place n
unfoldable pub next_at : List ℕ → ℕ → ℕ
next_at s n = lower_of n (record_at s n).r

-- What is found at a place of the chain e: the value there, by a chain no longer than e.
pub record Found (s : List ℕ) (e p : ℕ) (v : Held) : Type 0 where
  pub is : value_in s v ≡ placed p (chain_in s e)
  pub low : link_of v ≤ e

-- The run went on from x to y: by the same rule over the same store, whose places that were taken are as they were.
pub record Kept (x y : Run) : Type 0 where
  pub lent : y.store.ghost_name ≡ x.store.ghost_name
  pub rule : y.rule ≡ x.rule
  pub grows : x.taken ≤ y.taken
  pub long : length y.store.now ≡ length x.store.now
  pub same : (i : ℕ) → i < 8 * x.taken → get_or y.store.now i 0 ≡ get_or x.store.now i 0

-- One place more was taken, from x to y: the chain e is that of the value v above the chain next.
pub record Bound (v : Held) (next : ℕ) (x y : Run) (e : ℕ) : Type 0 where
  pub room : x.taken < places_in (length x.store.now)
  pub chain : e ≡ x.taken + 1
  pub taken : y.taken ≡ x.taken + 1
  pub is : chain_in y.store.now e ≡ binding (value_in x.store.now v) (chain_in x.store.now next)
  pub kept : Kept x y

-- No place is left, and the run is as it was.
pub record Full (x y : Run) : Type 0 where
  pub room : places_in (length x.store.now) ≤ x.taken
  pub taken : y.taken ≡ x.taken
  pub kept : Kept x y

-- record i at depth d, under the chain e
abbrev pub run_in : Run → ℕ → ℕ → ℕ → Stored
run_in x d i e = stored_of (places_in (length x.store.now)) x.rule.now d i (chain_in x.store.now e) x.taken

-- A run from x to y answers o: it ended as m says.
pub record Runs (m : Stored) (x y : Run) (o : Result Held Stop) : Type 0 where
  pub is : stored_by (value_in y.store.now) o y.taken ≡ m
  pub low : IfOk o (λ v. link_of v ≤ y.taken)
  pub kept : Kept x y
