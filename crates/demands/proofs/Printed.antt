-- Demand 3 used on the printed case: what it says of reading under true and under false is 7 and error. Assumes nothing.
use mathlib.Core.Path.{◌≡◌, refl, ap, ◌∙◌}
use mathlib.Core.Bool.{true}
use mathlib.Core.List.{List, [], ◌∷◌}
use Prim.Native.Nat.{ℕ, ◌≤◌}
use native.Mathlib.Omega.{arith}
use lib.ListN.{length, replicate}
use Rattle.semantics.specs.Numbers.{most_table}
use Rattle.semantics.specs.declared.Outcome.TheVariants.{Word, Error}
use Rattle.semantics.proofs.Computing.{computing}
use Rattle.semantics.specs.Opening as Opening
use Rattle.semantics.specs.Reading as Reading
use Rattle.semantics.specs.PlainRun as PlainRun
use Rattle.semantics.specs.History as History
use Rattle.cases.specs.Table as Table
use Rattle.cases.specs.Marked as Marked
use Rattle.demands.specs.Demand3.{Stands}
use Rattle.demands.proofs.Demand3.{demand_3}

-- what the definitions compute: the opening and the one call are accepted, and what the run gives
record Known : Type 0 where
  opens : (Opening.open_of Marked.printed_inputs (replicate most_table 0)).0.refusal ≡ 0
  accepted : length (Marked.printed_desk).rules ≡ 1
  taken_true : Reading.numbers_taken Marked.printed_inputs (Marked.first_number 1) ≡ true
  taken_false : Reading.numbers_taken Marked.printed_inputs (Marked.first_number 0) ≡ true
  run_true : PlainRun.ended_outcome (History.run_of_rules Marked.printed_inputs (Marked.first_number 1) (Marked.printed_desk).rules) ≡ Word 7
  run_false : PlainRun.ended_outcome (History.run_of_rules Marked.printed_inputs (Marked.first_number 0) (Marked.printed_desk).rules) ≡ Error

known : Known
unfolding computing Table.desk
known = record { opens = refl; accepted = refl; taken_true = refl; taken_false = refl; run_true = refl; run_false = refl }

stands : Stands Marked.printed_inputs Marked.printed_desk
unfolding Table.desk
stands = demand_3 Marked.printed_inputs (replicate most_table 0) refl known.opens (Table.call Marked.printed_rule 100 ∷ [])

-- with a work list that 15 does not refuse
module _ (work : List ℕ) (long : (Marked.printed_desk).session.count ≤ length work) where
  pub printed_true : Reading.read_of (Marked.printed_desk).session (Marked.printed_desk).table (Marked.first_number 1) (Marked.printed_desk).result work ≡ (Word 7, replicate (length work) 0)
  printed_true =
      let a = known.accepted in
      stands.reads (omega arith) (Marked.first_number 1) work refl known.taken_true long ∙ ap (λ o. (o, replicate (length work) 0)) known.run_true

  pub printed_false : Reading.read_of (Marked.printed_desk).session (Marked.printed_desk).table (Marked.first_number 0) (Marked.printed_desk).result work ≡ (Error, replicate (length work) 0)
  printed_false =
      let a = known.accepted in
      stands.reads (omega arith) (Marked.first_number 0) work refl known.taken_false long ∙ ap (λ o. (o, replicate (length work) 0)) known.run_false
