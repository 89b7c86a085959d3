-- Each field is what its bytes say. Assumes nothing.
use Rattle.semantics.specs.Records.{record_at}
use Rattle.records.proofs.cut.Goals as goal

pub returns : goal.returns
unfolding record_at
returns c = cc
