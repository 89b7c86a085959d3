-- `gate_tables::helper_count` meets its contract: the row's entry of the table. Assumes nothing.
use Rattle.gate_tables.proofs.Right.{helped}
use Rattle.gate_tables.proofs.helper_count.Goals as goal

pub returns : goal.returns
returns c = helped _ c.row.ensures.0
