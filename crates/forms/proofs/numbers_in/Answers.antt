-- Sixteen are read, one after another. Assumes nothing.
use Rattle.std.proofs.Common.{◌*◌, rules}
use Rattle.words.specs.Words.{word_bytes}
use Rattle.semantics.specs.Records.{word_at}
use Rattle.forms.specs.Forms.{numbers_in}
use Rattle.forms.proofs.Taken.{from_fn_gave}
use Rattle.forms.proofs.numbers_in.Goals as goal

pub returns : goal.returns
unfolding numbers_in
returns c = from_fn_gave (λ i. word_at c.args.s.now (word_bytes * i)) _ _ 0 (λ i y q k. search rules) 16 c.from_fn.ensures.items
