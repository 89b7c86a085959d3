-- Sixteen are read, one after another. Assumes nothing.
use Rattle.std.proofs.Common.{rules}
use Rattle.semantics.specs.Print.{input_at}
use Rattle.forms.specs.Forms.{inputs_in}
use Rattle.forms.proofs.Taken.{from_fn_gave}
use Rattle.forms.proofs.inputs_in.Goals as goal

pub returns : goal.returns
unfolding inputs_in
returns c = from_fn_gave (input_at c.args.s.now) _ _ (record { kind = 0; value = 0 }) (λ i y q k. search rules) 16 c.from_fn.ensures.items
