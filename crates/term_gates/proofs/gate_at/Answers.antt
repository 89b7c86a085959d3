-- `term_gates::gate_at` meets its contract: by kind. Assumes nothing.
use Rattle.notation.proofs.Follow.{values}
use Rattle.term_gates.proofs.ByKind.{kinded, kinded_word}
use borrow.Author.Rules.{rules}
use mathlib.Core.List.{map}
use lib.ListN.{get_or}
use Rattle.gate_tables.specs.Packed.{packed}
use Rattle.term_gates.proofs.gate_at.Goals as goal

pub returns-in-1 : goal.returns-in-1
returns-in-1 c = kinded (λ gs. get_or (map packed gs) c.args.i 0) _ _ (search values depth 12)

pub returns-in-2 : goal.returns-in-2
returns-in-2 c = kinded_word (λ gs. get_or (map packed gs) c.args.i 0) _ _ (search rules) c.join.ensures c.bits_gate-in-2.ensures

pub returns-in-3 : goal.returns-in-3
returns-in-3 c = kinded (λ gs. get_or (map packed gs) c.args.i 0) _ _ (search values depth 12)

pub returns-in-4 : goal.returns-in-4
returns-in-4 c = kinded (λ gs. get_or (map packed gs) c.args.i 0) _ _ (search values depth 12)

pub returns-in-5 : goal.returns-in-5
returns-in-5 c = kinded (λ gs. get_or (map packed gs) c.args.i 0) _ _ (search values depth 12)

pub returns-in-6 : goal.returns-in-6
returns-in-6 c = kinded (λ gs. get_or (map packed gs) c.args.i 0) _ _ (search values depth 12)

pub returns-in-7 : goal.returns-in-7
returns-in-7 c = kinded (λ gs. get_or (map packed gs) c.args.i 0) _ _ (search values depth 12)

pub returns-in_default : goal.returns-in_default
returns-in_default c = kinded (λ gs. get_or (map packed gs) c.args.i 0) _ _ (search values depth 12)
