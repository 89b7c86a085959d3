-- `lines::put_answer` meets its contract: a first line by how the evaluation ended, and the terms' lines. Assumes nothing.
use native.Mathlib.Omega.{arith}
use borrow.Author.Rules.{rules}
use Rattle.lines.proofs.Lines.{told_out, told_halt, answered_out, answered_halt, answered_refused}
use Rattle.lines.proofs.put_answer.Goals as goal

pub put_terms-requires : goal.put_terms-requires
put_terms-requires c = omega (arith, told_out _ _ c.requires c.in-Out.is)

pub put_terms-requires-in-Halt : goal.put_terms-requires-in-Halt
put_terms-requires-in-Halt c = omega (arith, told_halt _ _ c.requires c.in-Halt.is)

pub returns-in-Out : goal.returns-in-Out
returns-in-Out c = answered_out _ _ c.requires _ _ (search rules) c.put_terms.ensures c.in-Out.is c.put_line-end.ensures

pub returns-in-Halt : goal.returns-in-Halt
returns-in-Halt c = answered_halt _ _ c.requires _ _ (search rules) c.put_terms-in-Halt.ensures c.in-Halt.is c.put_line-end-in-Halt.ensures

pub returns-in-Refused : goal.returns-in-Refused
returns-in-Refused c = answered_refused _ _ _ c.in-Refused.is c.put_refusal.ensures
