-- `term_gates::operation_clause_count` meets its contract: a shift by a constant, or the code. Assumes nothing.
use Rattle.notation.proofs.Follow.{values}
use lib.ListN.{length}
use Rattle.circuits.specs.Gates.{clauses}
use Rattle.term_gates.proofs.Moving.{shift_clauses, by_count}
use Rattle.term_gates.proofs.operation_clause_count.Goals as goal

pub returns-then-by_constant : goal.returns-then-by_constant
returns-then-by_constant c = by_count (λ gs. length (clauses gs)) _ _ 53 (λ up. shift_clauses up _) c.by_constant.ensures (search values)

pub returns : goal.returns
returns c = by_count (λ gs. length (clauses gs)) _ _ 53 (λ up. shift_clauses up _) c.by_constant.ensures (search values)
