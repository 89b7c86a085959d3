-- `byte_witness::put_numbers`: the numbers before i are written. Assumes nothing.
use Rattle.std.proofs.Common.{◌≡◌, take}
use Rattle.std.proofs.lemmas.List.Edits.{sets}
use Rattle.words.specs.Words.{word_bytes}
use Rattle.forms.specs.Forms.{words_of}
use Rattle.byte_witness.proofs.put_numbers.Given as goal

abbrev pub invariant-loop-i : goal.invariant-loop-i
invariant-loop-i l = l.place ≡ sets l.initial.place word_bytes (words_of (take l.i l.numbers))
