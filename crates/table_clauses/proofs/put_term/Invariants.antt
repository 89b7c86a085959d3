use mathlib.Core.List.{map}
use lib.ListN.{drop}
use Rattle.cursor.proofs.Writing.{Leads}
use Rattle.clauses.specs.Clauses.{term_gates}
use Rattle.gate_tables.specs.Packed.{packed}
use Rattle.gates.specs.Slots.{gates_text}
use Rattle.table_clauses.proofs.put_term.Given as goal

abbrev pub invariant-loop-i : goal.invariant-loop-i
invariant-loop-i l = Leads (gates_text l.p (map packed (term_gates l.t l.u))) l.fn.out l.out (gates_text l.p (drop l.i (map packed (term_gates l.t l.u))))
