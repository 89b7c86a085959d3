-- `byte_opening::opened` meets its contract: each test in its order. Assumes nothing.
use borrow.Author.Rules.{rules}
use Rattle.byte_opening.proofs.Answers.{open_length, open_size, open_inputs, open_refused_lem, open_whole}
use Rattle.byte_opening.proofs.opened.Goals as goal

pub returns-then-session-ne-SESSION : goal.returns-then-session-ne-SESSION
returns-then-session-ne-SESSION c = search (rules, open_length)

pub returns-then-bad_table_size : goal.returns-then-bad_table_size
returns-then-bad_table_size c = search (rules, open_size)

pub returns-then-not-inputs_formed : goal.returns-then-not-inputs_formed
returns-then-not-inputs_formed c = search (rules, open_inputs)

pub returns-in_err-begun : goal.returns-in_err-begun
returns-in_err-begun c =
    open_refused_lem _ _ _ c.if-session-ne-SESSION.false c.bad_table_size.ensures c.if-bad_table_size.false c.inputs_formed.ensures (search rules) c.inputs_in.ensures
    c.open.ensures c.branch-begun.ensures c.in_err-begun.is c.from_residual.result c.from_residual.ensures

pub returns : goal.returns
returns c =
    open_whole _ _ _ c.if-session-ne-SESSION.false c.bad_table_size.ensures c.if-bad_table_size.false c.inputs_formed.ensures (search rules) c.inputs_in.ensures
    c.open.ensures (rw c.in_ok-begun.is at c.branch-begun.ensures) c.put_session.ensures.0 c.put_session.ensures.1
