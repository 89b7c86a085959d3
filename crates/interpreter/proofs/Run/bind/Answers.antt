-- A binding at the next place. Assumes nothing.
use Rattle.std.proofs.Common.{refl, ap, ◌∙◌, ◌<◌, length}
use Rattle.semantics.specs.PlainRun.{places_in}
use Rattle.interpreter.proofs.Bytes.{put, put_back}
use Rattle.interpreter.proofs.Chains.{bound_there}
use Rattle.interpreter.proofs.Run.bind.Goals as goal

pub returns-clause-taken : goal.returns-clause-taken
returns-clause-taken c =
    let x = c.args.self.now in
    let room : x.taken < places_in (length x.store.now) = rw c.places.ensures at c.if-places-self.false in
    let there = put_back x.store.now x.taken c.bound-x.result _ (rw c.from-at.ensures at c.write.ensures) in
    bound_there x _ c.args.v c.args.next c.requires.value c.requires.chain room refl refl
    (rw c.from-at.ensures (there ∙ ap (put x.store.now x.taken) c.bound-x.ensures)) refl
