-- The inputs before i are written. Assumes nothing.
use Rattle.std.proofs.Common.{◌≡◌, take}
use Rattle.std.proofs.lemmas.List.Edits.{sets}
use Rattle.forms.specs.Forms.{inputs_bytes}
use Rattle.forms.proofs.put_inputs.Given as goal

abbrev pub invariant-loop-i : goal.invariant-loop-i
invariant-loop-i l = l.s ≡ sets l.fn.s 0 (inputs_bytes (take l.i l.fn.inputs))
