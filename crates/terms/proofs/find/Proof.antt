-- `find` meets its contract. Both loops keep that what is found from i on is what is found above the largest operand, the first one also that
-- the records up to `last` lie whole in the table. The measures are what is left of the records. Assumes nothing.
use borrow.Author.Rules.{rules}
use mathlib.Core.Path.{◌≡◌, refl}
use Prim.Native.Nat.{◌+◌, ◌-◌, ◌*◌, ◌≤◌}
use native.Mathlib.Omega.{arith}
use lib.ListN.{length}
use Rattle.semantics.specs.Terms.{terms_in}
use Rattle.terms.specs.Search.{floor_of, find_from}
use Rattle.terms.proofs.Tables.{find_none, find_found, find_next, find_past}
use Rattle.terms.proofs.find.Statement.{statement}
use Rattle.terms.proofs.find.Tie as tie

abbrev invariant-loop : tie.invariant-loop-i
invariant-loop table count t last low i₀ i = (last ≤ count - 1) × (8 * last ≤ length table - 8) × (find_from i (terms_in table count) t ≡ find_from (floor_of t) (terms_in table count) t)

abbrev decreases-loop : tie.decreases-loop-i
decreases-loop table count t last low i₀ i = last - i

abbrev invariant-loop2 : tie.invariant-loop-i-2
invariant-loop2 table count t last low i₀ i = find_from i (terms_in table count) t ≡ find_from (floor_of t) (terms_in table count) t

abbrev decreases-loop2 : tie.decreases-loop-i-2
decreases-loop2 table count t last low i₀ i = count - i

loop_holds : tie.Need-loop-i-init invariant-loop decreases-loop invariant-loop2 decreases-loop2
loop_holds c = (search rules, search rules, rw c.floor-i.ensures)

pub find_spec : {M : Type 1} → statement M
find_spec =
    tie.close
    (tie.spec invariant-loop decreases-loop invariant-loop2 decreases-loop2 (λ c κs. search rules) (λ c κs. search rules) (λ c. search rules) (λ c κs. search rules) loop_holds
    (λ c. search rules) (λ c. search rules) (λ c. search rules) (λ c. search rules) (λ c. search rules) (λ c. search rules) (λ c. search rules)
    (λ c. search rules) (λ c. search rules)
    -- two records that another low byte tells apart
    (λ c.
    let low = c.loop-i.invariant.0 in
    let test = c.loop-i-test.true in (
      search rules,
      search rules,
      find_past _ _ _ (c.loop-i.i + 1)
          (find_past _ _ _ c.loop-i.i c.loop-i.invariant.2 refl (omega arith) c.if-table-i.true (c.shared_slice_known-in-loop-i-1.given (8 * c.loop-i.i + 2)).fits)
          refl (omega arith) c.if-table-next.true (c.shared_slice_known-then-table-i-1.given (8 * (c.loop-i.i + 1) + 2)).fits,
    ))
    (λ c. search rules) (λ c κs. search rules) (λ c κs. search rules)
    -- one record that is compared
    (λ c.
    let low = c.loop-i.invariant.0 in
    let test = c.loop-i-test.true in
    find_found _ _ _ c.loop-i.i c.loop-i.invariant.2 refl (omega arith) c.term_at.ensures c.same.ensures c.if-same.true)
    (λ c. search rules)
    (λ c.
    let low = c.loop-i.invariant.0 in
    let test = c.loop-i-test.true in (
      search rules,
      search rules,
      find_next _ _ _ c.loop-i.i c.loop-i.invariant.2 refl (omega arith) c.term_at.ensures c.same.ensures c.if-same.false,
    ))
    (λ c. search rules) (λ c. search rules) (λ c κs. search rules) (λ c κs. search rules) (λ c. search (rules, find_found))
    (λ c. search rules) (λ c. search rules) (λ c. search (rules, find_next)) (λ c. search (rules, find_none)))
