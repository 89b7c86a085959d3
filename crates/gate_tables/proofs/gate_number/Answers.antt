-- `gate_tables::gate_number` meets its contract: the table computes to the constant. Assumes nothing.
use Rattle.notation.specs.Notation.{if◌equals◌then◌else◌, if◌below◌then◌else◌}
use Rattle.circuits.specs.Circuits.{add_with, add, carries, ands, product, chosen, barrel, clear, shifted_up, shifted_down, tree, flags, same_bits, sums, pairs, masks, products}
use Rattle.circuits.specs.Templates.{sum_gates, difference_gates, product_gates, bitwise_gates, shift_gates, ones_gates, zeros_gates, less_gates, equal_gates, operator_gates}
use Rattle.clauses.specs.Clauses.{code_gates, helpers}
use Rattle.gate_tables.specs.Packed.{gate_table}
use Rattle.std.specs.Option.{unwrap_or, option_copied}
use mathlib.Core.Path.{ap, ◌∙◌}
use Rattle.std.proofs.Common.{arith, get_or, List, ℕ, ◌≡◌}
use denote.Bor.{Bor}
use Rattle.std.specs.declared.option.Option.{Option}
use Rattle.std.specs.Slice.{IsItemAt}
use Rattle.std.proofs.lemmas.Grind.{common_steps}
use Rattle.gate_tables.proofs.gate_number.Goals as goal

-- the number at a place of any list, copied, or 0
number_at : (xs : List ℕ) (i : ℕ) (o : Option (Bor ℕ)) → IsItemAt xs i o → unwrap_or (option_copied o) 0 ≡ get_or xs i 0
number_at xs i o h = grind (arith, common_steps)

pub returns : goal.returns
unfolding gate_table helpers code_gates operator_gates if◌equals◌then◌else◌ if◌below◌then◌else◌ sum_gates difference_gates product_gates bitwise_gates shift_gates ones_gates zeros_gates less_gates equal_gates add_with add carries ands product chosen barrel clear shifted_up shifted_down tree flags same_bits sums pairs masks products
returns c = c.unwrap_or.ensures ∙ (ap (λ o. unwrap_or o 0) c.copied.ensures ∙ number_at gate_table c.args.i _ c.get.ensures.lookup)
