use Rattle.table_clauses.proofs.Terms.{Counted}
use Rattle.table_clauses.proofs.add_up.Given as goal

abbrev pub invariant-loop-n : goal.invariant-loop-n
invariant-loop-n l = Counted l.table l.count l.n l.totals.helpers l.totals.clauses
