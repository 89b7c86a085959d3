-- The first i ends are in place. Assumes nothing.
use Rattle.std.proofs.Common.{◌≡◌, take, length}
use Rattle.semantics.specs.Spans.{ends_of}
use Rattle.spans.proofs.ends.Given as goal

abbrev pub invariant-loop-i : goal.invariant-loop-i
invariant-loop-i l = record {
  long : length l.found ≡ length l.given;
  ends : take l.i l.found ≡ take l.i (ends_of l.truth l.fn.inputs l.given);
}
