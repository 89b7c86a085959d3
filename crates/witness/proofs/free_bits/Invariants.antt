-- `witness::free_bits`: the bits counted and those from input i on are all; sixteen at most for each input passed. Assumes nothing.
use Rattle.std.proofs.Common.{◌≡◌, ◌+◌, ◌*◌, ◌≤◌, drop}
use Rattle.firsts.specs.Witness.{bits_of}
use Rattle.witness.proofs.free_bits.Given as goal

abbrev pub invariant-loop-x : goal.invariant-loop-x
invariant-loop-x l = (l.n ≤ 16 * l.x-index) × (l.n + bits_of (drop l.x-index l.fn.inputs) ≡ bits_of l.fn.inputs)
