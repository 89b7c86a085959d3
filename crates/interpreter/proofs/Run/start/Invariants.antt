-- The chain of the places taken is the last k inputs. Assumes nothing.
use Rattle.std.proofs.Common.{◌≡◌, ◌≤◌, ◌-◌, length, drop}
use Rattle.semantics.specs.Run.{inputs_bound}
use Rattle.semantics.specs.PlainRun.{places_in}
use Rattle.interpreter.specs.Store.{chain_in}
use Rattle.interpreter.specs.Promise.{Kept}
use Rattle.interpreter.proofs.Run.start.Given as goal

abbrev pub invariant-loop-k : goal.invariant-loop-k
invariant-loop-k l =
    (l.self.taken ≡ l.k)
    × (Kept l.fn.self l.self
    × ((l.k ≤ places_in (length l.fn.self.store.now))
    × (chain_in l.self.store.now l.k ≡ inputs_bound (drop (16 - l.k) l.inputs) (drop (16 - l.k) l.numbers))))
