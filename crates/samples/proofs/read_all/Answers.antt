-- Where the tests refuse nothing each sample is read; else the answers stay. Assumes nothing.
use Rattle.std.proofs.Common.{◌∙◌, sym}
use Rattle.reader.proofs.Held.{zero_as}
use Rattle.samples.proofs.Answers.{number_ok, number_err, all_refused, all_marked, all_whole, all_read}
use Rattle.samples.proofs.read_all.Goals as goal
use Rattle.samples.proofs.read_all.Goals.{then-is_ok, else-is_ok}

pub read_each-requires-clause-marked : goal.read_each-requires-clause-marked
read_each-requires-clause-marked c =
    all_marked c.args.session _ _ c.args.numbers.now c.args.work.now c.args.answers.now c.tests-tested.ensures (number_ok _ (sym c.is_ok.ensures.value ∙ c.if-is_ok.true)) c.mark_under.ensures

pub read_each-requires-clause-whole : goal.read_each-requires-clause-whole
read_each-requires-clause-whole c =
    all_whole c.args.session _ _ c.args.numbers.now c.args.work.now c.args.answers.now c.tests-tested.ensures (number_ok _ (sym c.is_ok.ensures.value ∙ c.if-is_ok.true))

pub returns : goal.returns
returns c =
    let zero = zero_as _ _ c.wipe.ensures c.if-is_ok.auto.work in
    elim c.if-is_ok.branch [
      | then-is_ok w ↦
          rw w.answers-is (all_read c.args.session _ _ c.args.numbers.now c.args.work.now c.args.answers.now c.tests-tested.ensures (number_ok _ (sym c.is_ok.ensures.value ∙ w.if-is_ok.true)) zero w.read_each.ensures)
      | else-is_ok w ↦
          rw w.answers-is (all_refused c.args.session _ _ c.args.numbers.now c.args.work.now c.args.answers.now c.tests-tested.ensures (number_err _ (sym c.is_ok.ensures.value ∙ w.if-is_ok.false)) zero)
    ]
