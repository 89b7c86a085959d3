-- `opening::open` meets its contract. Assumes nothing.
use borrow.Author.Rules.{rules}
use mathlib.Core.Path.{refl, sym, ◌∙◌}
use Rattle.opening.proofs.Opened.{refused_size, refused_input, opened_now, made_ok}
use Rattle.opening.proofs.open.Goals as goal

pub returns-then-bad_table_size : goal.returns-then-bad_table_size
returns-then-bad_table_size c = refused_size _ _ c.bad_table_size.ensures c.if-bad_table_size.true

pub returns-then-not-inputs_taken : goal.returns-then-not-inputs_taken
returns-then-not-inputs_taken c = refused_input _ _ c.bad_table_size.ensures c.if-bad_table_size.false c.inputs_taken.ensures (search rules)

pub unwrap-requires : goal.unwrap-requires
unwrap-requires c = made_ok _ _ _ _ c.wipe.ensures refl (sym c.bad_table_size.ensures ∙ c.if-bad_table_size.false) (search rules) c.open_all.ensures

pub returns : goal.returns
returns c = opened_now _ _ c.bad_table_size.ensures c.if-bad_table_size.false c.inputs_taken.ensures (search rules) (search rules) _ _ c.wipe.ensures refl c.open_all.ensures (search rules) (c.table-2-1.given.1.1 (sym c.open_all.ensures.kept.same))
