-- The operators' gates stand in order at 32 bits too, as document 02's request Thirteen will have them. Assumes nothing.
use mathlib.Core.Path.{◌≡◌, refl}
use mathlib.Core.Bool.{Bool, true, ◌&&◌}
use Prim.Native.Nat.{ℕ}
use Rattle.notation.specs.Notation.{if◌equals◌then◌else◌}
use Rattle.circuits.specs.Circuits.{add_with, add, carries, ands, product, chosen, barrel, clear, shifted_up, shifted_down, tree, flags, same_bits, sums, pairs, masks, products}
use Rattle.circuits.specs.Templates.{sum_gates, difference_gates, product_gates, bitwise_gates, shift_gates, ones_gates, zeros_gates, less_gates, equal_gates, operator_gates}
use Rattle.circuits.proofs.Order.{ordered}

abbrev in_order : ℕ → Bool
in_order op = ordered true 34 2048 0 0 (operator_gates 5 op)

wide : (in_order 1 && (in_order 2 && (in_order 3 && (in_order 4 && (in_order 5 && (in_order 6 && (in_order 7 && (in_order 8 && (in_order 9 && (in_order 10 && (in_order 11 && in_order 12))))))))))) ≡ true
unfolding ordered operator_gates if◌equals◌then◌else◌ sum_gates difference_gates product_gates bitwise_gates shift_gates ones_gates zeros_gates less_gates equal_gates add_with add carries ands product chosen barrel clear shifted_up shifted_down tree flags same_bits sums pairs masks products
wide = refl
