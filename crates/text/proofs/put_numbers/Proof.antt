-- `text::put_numbers` meets its contract. The invariant: the numbers before i stand in the buffer, each with a space after it. The measure is
-- what is left before the last. Assumes nothing.
use mathlib.Core.Path.{◌≡◌}
use Prim.Native.Nat.{◌+◌, ◌-◌, ◌≤◌}
use native.Mathlib.Omega.{arith}
use lib.ListN.{length}
use borrow.Author.Rules.{rules}
use Rattle.text.proofs.Adding.{Listed, none_listed, one_listed, all_listed}
use Rattle.text.proofs.put_numbers.Statement.{statement}
use Rattle.text.proofs.put_numbers.Tie as tie

abbrev invariant-loop : tie.invariant-loop-i
invariant-loop out₀ at numbers last end₀ i₀ out end i = ((i ≤ last) × ((last + 1 ≡ length numbers) × (length out ≡ length out₀))) × Listed out₀ at numbers out end i

abbrev decreases-loop : tie.decreases-loop-i
decreases-loop out₀ at numbers last end₀ i₀ out end i = last - i

loop_holds : tie.Need-loop-i-init invariant-loop decreases-loop
loop_holds c = (search rules, none_listed)

loop_again : tie.Need-loop-i-preserved invariant-loop decreases-loop
loop_again c = (search rules, one_listed c.loop-i.invariant.1 (omega arith) c.put_number-end.ensures)

returns : tie.Need-returns invariant-loop decreases-loop
returns c = all_listed c.loop-i.invariant.1 (omega arith) (omega arith) c.put_number.ensures

pub put_numbers_spec : {M : Type 1} → statement M
put_numbers_spec =
    tie.close
    (tie.spec invariant-loop decreases-loop (λ c. search rules) loop_holds (λ c. search rules) (λ c. search rules) (λ c κs. search rules) (λ c. search rules) (λ c. search rules)
    loop_again (λ c. search rules) (λ c. search rules) (λ c κs. search rules) (λ c. search rules) returns)
