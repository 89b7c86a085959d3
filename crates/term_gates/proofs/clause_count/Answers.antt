-- `term_gates::clause_count` meets its contract: by kind. Assumes nothing.
use Rattle.notation.proofs.Follow.{values}
use Rattle.term_gates.proofs.ByKind.{kinded}
use Rattle.clauses.specs.Clauses.{digits, choices}
use Rattle.circuits.specs.Gates.{clauses}
use lib.ListN.{length}
use Rattle.term_gates.proofs.clause_count.Goals as goal

pub returns-in-1 : goal.returns-in-1
unfolding digits choices
returns-in-1 c = kinded (λ gs. length (clauses gs)) _ _ (search values depth 12)

pub returns-in-2 : goal.returns-in-2
unfolding digits choices
returns-in-2 c = kinded (λ gs. length (clauses gs)) _ _ (search values depth 12)

pub returns-in-3 : goal.returns-in-3
unfolding digits choices
returns-in-3 c = kinded (λ gs. length (clauses gs)) _ _ (search values depth 12)

pub returns-in-4 : goal.returns-in-4
unfolding digits choices
returns-in-4 c = kinded (λ gs. length (clauses gs)) _ _ (search values depth 12)

pub returns-in-5 : goal.returns-in-5
unfolding digits choices
returns-in-5 c = kinded (λ gs. length (clauses gs)) _ _ (search values depth 12)

pub returns-in-6 : goal.returns-in-6
unfolding digits choices
returns-in-6 c = kinded (λ gs. length (clauses gs)) _ _ (search values depth 12)

pub returns-in-7 : goal.returns-in-7
unfolding digits choices
returns-in-7 c = kinded (λ gs. length (clauses gs)) _ _ (search values depth 12)

pub returns-in_default : goal.returns-in_default
unfolding digits choices
returns-in_default c = kinded (λ gs. length (clauses gs)) _ _ (search values depth 12)
