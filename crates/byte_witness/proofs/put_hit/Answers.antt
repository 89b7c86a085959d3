-- `byte_witness::put_hit`: the mark, then the numbers. Assumes nothing.
use Rattle.byte_witness.proofs.Hits.{hit_put}
use Rattle.byte_witness.proofs.put_hit.Goals as goal

pub returns : goal.returns
returns c = hit_put c.args.hit c.is_some.ensures c.bit.ensures c.unwrap_or.ensures c.args.place.now c.put_word.ensures c.put_numbers.ensures
