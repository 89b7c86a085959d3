-- P3, P4 and P5 of document 01, P5 as document 02, Five, has it: laws of words of any width, at the width. Assumes nothing.
use Rattle.std.proofs.Common.{◌≡◌, le_refl}
use Rattle.words.specs.Words.{width, last_word, sum_of, zeros_of, left_of}
use Rattle.words.proofs.Words.{last_wraps, zeros_of_zero}
use Rattle.words.proofs.Shifts.{left_past}

-- 65,535 + 1 is 0
pub p3 : sum_of width last_word 1 ≡ 0
p3 = last_wraps width

-- leading zeros of 0 is 16
pub p4 : zeros_of width 0 ≡ width
p4 = zeros_of_zero width

-- 1 shifted left by 16 is 0
pub p5 : left_of width 1 width ≡ 0
p5 = left_past width 1 width (le_refl width)
