-- `writer::put_header` meets its contract: its words in turn. Assumes nothing.
use Rattle.cursor.proofs.Writing.{onward, said}
use Rattle.writer.proofs.Whole.{header_text_lem}
use Rattle.writer.proofs.put_header.Goals as goal

pub returns : goal.returns
returns c = said (onward c.put_bytes.ensures (onward c.put_before.ensures c.put_before-2.ensures)) (header_text_lem _ _)
