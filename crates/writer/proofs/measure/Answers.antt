-- `writer::measure` meets its contract: the place after the text is its length. Assumes nothing.
use mathlib.Core.Path.{sym, subst}
use Prim.Native.Nat.{◌≤◌}
use Rattle.cursor.specs.Sink.{most_text}
use Rattle.cursor.proofs.Fit.{measured}
use Rattle.writer.proofs.measure.Goals as goal

pub returns : goal.returns
returns c = let e = measured c.put_text.ensures.text c.put_text.ensures.short in (e, subst (λ n. n ≤ most_text) (sym e) c.put_text.ensures.short)
