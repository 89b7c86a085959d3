-- A term's fields are a record's. Assumes nothing.
use Rattle.notation.specs.Notation.{with}
use Rattle.semantics.specs.Terms.{term_at}
use Rattle.records.proofs.term_at.Goals as goal

pub returns : goal.returns
unfolding term_at with
returns c = rw (← c.record_at-x.ensures)
