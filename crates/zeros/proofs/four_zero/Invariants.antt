-- The bits that were seen and the bytes from i on decide the test. Assumes nothing.
use Rattle.std.proofs.Common.{◌≡◌, drop, false, nat_eq}
use Rattle.notation.specs.Notation.{pick}
use Rattle.zeros.specs.Zeros.{four_zero}
use Rattle.zeros.proofs.four_zero.Given as goal

abbrev pub invariant-loop-i : goal.invariant-loop-i
invariant-loop-i l =
    pick (nat_eq l.seen 0) (four_zero (drop l.i l.x) (drop l.i l.y) (drop l.i l.z) (drop l.i l.w)) false ≡ four_zero l.x l.y l.z l.w
