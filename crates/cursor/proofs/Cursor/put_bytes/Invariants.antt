use lib.ListN.{drop}
use Rattle.cursor.proofs.Writing.{Leads}
use Rattle.cursor.proofs.Cursor.put_bytes.Given as goal

abbrev pub invariant-loop-b : goal.invariant-loop-b
invariant-loop-b l = Leads l.bytes l.fn.self l.self (drop l.b-index l.bytes)
