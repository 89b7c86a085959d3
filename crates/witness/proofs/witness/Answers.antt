-- `witness::witness`: the work list is zero on every way out. Assumes nothing.
use borrow.Author.Rules.{rules}
use Rattle.reader.proofs.Held.{zero_as}
use Rattle.witness.proofs.Whole.{way_wiped}
use Rattle.witness.proofs.witness.Goals as goal

pub returns : goal.returns
returns c =
    way_wiped c.args.session c.args.table.now c.args.res c.args.goal c.args.spanned c.args.lows c.args.highs c.args.work.now c.find-found.ensures (search (rules, zero_as))
