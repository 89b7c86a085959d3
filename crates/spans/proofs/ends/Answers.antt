-- One more end is put in its place. Assumes nothing.
use Rattle.std.proofs.Common.{rules, arith, length-set, ◌∙◌}
use Rattle.spans.proofs.Inputs.{ends_next, ends_all}
use Rattle.spans.proofs.ends.Goals as goal

pub loop-i-preserved : goal.loop-i-preserved
loop-i-preserved c =
    let inv = c.loop-i.invariant in
    record {
      long = length-set c.loop-i.found c.loop-i.i c.end.result ∙ inv.long;
      ends = ends_next c.args.truth c.args.inputs c.args.given c.loop-i.i c.loop-i.found inv.ends (search rules) inv.long (omega arith) _ _ c.end.ensures;
    }

pub returns : goal.returns
returns c =
    let inv = c.loop-i.invariant in
    ends_all c.args.truth c.args.inputs c.args.given c.loop-i.i c.loop-i.found inv.ends (search rules) inv.long (omega arith)
