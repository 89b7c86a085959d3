-- What an operator gives on words is a word. Assumes nothing.
use mathlib.Core.Bool.{Bool, true, false}
use Prim.Native.Nat.{ℕ, ◌+◌, ◌-◌, ◌*◌, ◌^◌, ◌<◌}
use native.Mathlib.Omega.{arith}
use lib.Dec.{eqb, ltb}
use lib.Bits.{and_lt, or_lt, xor_lt}
use Rattle.notation.specs.Notation.{pick, if◌equals◌then◌else◌}
use Rattle.words.specs.Words.{width, word_limit}
use Rattle.words.proofs.Words.{wrapped, ones_word, zeros_word}
use Rattle.words.proofs.Shifts.{left_word, right_word}
use Rattle.operators.specs.Operators.{bit_of, operate_of}
use Rattle.soundness.proofs.Link.{bit_small}

-- a truth as a number
bit_word : (b : Bool) → bit_of b < word_limit
bit_word b = omega (arith, bit_small b)

-- by a test, between two numbers that are below n
pick_below : {n : ℕ} (b : Bool) (x y : ℕ) → x < n → y < n → pick b x y < n
pick_below true x y p q = p
pick_below false x y p q = q

-- any code, on any two words
pub operate_word : (op x y : ℕ) → x < word_limit → y < word_limit → operate_of op x y < word_limit
unfolding operate_of if◌equals◌then◌else◌
operate_word op x y p q =
    pick_below (eqb op 1) _ _ (wrapped width (x + y)) (pick_below (eqb op 2) _ _ (wrapped width (x + (2 ^ width - y))) (
    pick_below (eqb op 3) _ _ (wrapped width (x * y)) (pick_below (eqb op 4) _ _ (and_lt width x y p q) (
    pick_below (eqb op 5) _ _ (or_lt width x y p q) (pick_below (eqb op 6) _ _ (xor_lt width x y p q) (
    pick_below (eqb op 7) _ _ (left_word width x y) (pick_below (eqb op 8) _ _ (right_word width x y p) (
    pick_below (eqb op 9) _ _ (ones_word width p) (pick_below (eqb op 10) _ _ (zeros_word width x) (
    pick_below (eqb op 11) _ _ (bit_word (ltb x y)) (bit_word (eqb x y))))))))))))
