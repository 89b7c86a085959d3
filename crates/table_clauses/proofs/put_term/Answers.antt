-- `table_clauses::put_term` meets its contract: gate after gate. Assumes nothing.
use Rattle.clauses.specs.Clauses.{term_gates}
use Rattle.cursor.proofs.Writing.{leads_step, leads_end}
use Rattle.table_clauses.proofs.Terms.{gates_more, gates_end}
use Rattle.table_clauses.proofs.put_term.Goals as goal

pub loop-i-preserved : goal.loop-i-preserved
loop-i-preserved c =
    leads_step (gates_more c.args.p (term_gates c.args.t c.args.u) c.loop-i.i _ _ c.gate_count-i-end.ensures c.loop-i-test.true c.gate_at.ensures) c.loop-i.invariant c.put_gate.ensures

pub returns : goal.returns
returns c = leads_end (gates_end c.args.p (term_gates c.args.t c.args.u) c.loop-i.i _ c.gate_count-i-end.ensures c.loop-i-test.false) c.loop-i.invariant
