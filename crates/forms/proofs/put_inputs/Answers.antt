-- Each turn of the loop, and its end. Assumes nothing.
use Rattle.std.proofs.Common.{rules}
use Rattle.forms.proofs.Written.{inputs_none, inputs_more, inputs_long, inputs_done}
use Rattle.forms.proofs.put_inputs.Goals as goal

pub loop-i-init : goal.loop-i-init
loop-i-init c = search (rules, inputs_none)

pub loop-i-preserved : goal.loop-i-preserved
loop-i-preserved c = search (rules, inputs_more)

pub returns-clause-long : goal.returns-clause-long
returns-clause-long c = search (rules, inputs_long)

pub returns-clause-bytes : goal.returns-clause-bytes
returns-clause-bytes c = search (rules, inputs_done)
