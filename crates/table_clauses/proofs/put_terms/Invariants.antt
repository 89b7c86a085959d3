use Rattle.table_clauses.proofs.Terms.{Through}
use Rattle.table_clauses.proofs.put_terms.Given as goal

abbrev pub invariant-loop-own : goal.invariant-loop-own
invariant-loop-own l = Through l.count l.table l.fn.out l.out l.helpers l.own
