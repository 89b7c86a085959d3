-- What is looked for from here on is what was looked for, along a chain no longer. Assumes nothing.
use Rattle.std.proofs.Common.{◌≡◌, ◌≤◌, ◌-◌}
use Rattle.semantics.specs.Run.{placed}
use Rattle.interpreter.specs.Store.{chain_in}
use Rattle.interpreter.proofs.Run.find.Given as goal

abbrev pub invariant-loop : goal.invariant-loop
invariant-loop l =
    (placed (l.place - l.counter) (chain_in l.self.store.now l.at) ≡ placed l.place (chain_in l.self.store.now l.chain)) × (l.at ≤ l.chain)
