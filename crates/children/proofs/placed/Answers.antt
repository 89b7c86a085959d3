-- For each kind the places are the first of p and q. Assumes nothing.
use Rattle.std.proofs.Common.{refl, arith}
use Rattle.notation.proofs.Follow.{values}
use Rattle.record_tests.proofs.Follow.{tests}
use Rattle.semantics.specs.Rules.{places_of}
use Rattle.children.proofs.Held.{each_none, each_one, each_two}
use Rattle.children.proofs.placed.Goals as goal

pub returns-in-2 : goal.returns-in-2
unfolding places_of
returns-in-2 c = each_one _ c.args.x.p (grind (arith, values)) refl

pub returns-then-x-limit : goal.returns-then-x-limit
unfolding places_of
returns-then-x-limit c = each_two _ c.args.x.p c.args.x.q (search values depth 10) (search tests)

pub returns-else-x-limit : goal.returns-else-x-limit
unfolding places_of
returns-else-x-limit c = each_two _ c.args.x.p c.args.x.q (search values depth 10) (search tests)

pub returns-in_default : goal.returns-in_default
unfolding places_of
returns-in_default c = each_none _ (grind (arith, values)) refl

pub returns-in-5 : goal.returns-in-5
unfolding places_of
returns-in-5 c = each_one _ c.args.x.p (search values depth 10) refl

pub returns-then-x-limit-2 : goal.returns-then-x-limit-2
unfolding places_of
returns-then-x-limit-2 c = each_two _ c.args.x.p c.args.x.q (search values depth 10) (search tests)

pub returns-else-x-limit-2 : goal.returns-else-x-limit-2
unfolding places_of
returns-else-x-limit-2 c = each_two _ c.args.x.p c.args.x.q (search values depth 10) (search tests)
