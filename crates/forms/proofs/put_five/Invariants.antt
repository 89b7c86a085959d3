-- The numbers before i are written. Assumes nothing.
use Rattle.std.proofs.Common.{◌≡◌, take}
use Rattle.std.proofs.lemmas.List.Edits.{sets}
use Rattle.forms.specs.Forms.{pairs_of}
use Rattle.forms.proofs.put_five.Given as goal

abbrev pub invariant-loop-i : goal.invariant-loop-i
invariant-loop-i l = l.s ≡ sets l.fn.s l.at (pairs_of (take l.i l.fn.numbers))
