-- What code that walks promises, and its answers as the definitions say them. Assumes nothing.
use Rattle.std.specs.Prelude.{List, ⊤}
use Rattle.std.specs.declared.result.Result.{Result}
use Rattle.std.specs.declared.result.Result.TheVariants.{Ok, Err}
use Rattle.semantics.specs.declared.Leaf.{Leaf}
use Rattle.semantics.specs.declared.refusal.Refusal.{Refusal}
use Rattle.semantics.specs.Walk.{Aim}
use Rattle.walk.specs.declared.Aimed.{Aimed}

-- a walk's answer, with the leaves ls then
abbrev pub walk_shown : List Leaf → Result ⊤ Refusal → Result (List Leaf) Refusal
walk_shown ls (Ok _) = Ok ls
walk_shown ls (Err k) = Err k

-- a call's leaves, and its state
abbrev pub aim_shown : Result Aimed Refusal → Result Aim Refusal
aim_shown (Ok a) = Ok (record { leaves = a.leaves; state = a.state })
aim_shown (Err k) = Err k
