-- An evaluation's answer and its result, each from the other. Assumes nothing.
use Rattle.std.specs.Prelude.{ℕ}
use Rattle.notation.specs.Notation.{when◌then◌else◌}
use Rattle.semantics.specs.declared.Result.{Result}
use Rattle.semantics.specs.declared.Answer.{Answer}
use Rattle.semantics.specs.declared.Answer.TheVariants.{Out, Halt, Refused}
use Rattle.semantics.specs.States.{out_of, halt_of}

-- the answer that an accepted rule's result and depth make
abbrev pub answer_of : Result → ℕ → Answer
answer_of r d = when r.halted then Halt r.state d else Out r.state r.value d

-- the result in an answer, which can be read; a refusal holds none
abbrev pub result_in : Answer → Result → Result
result_in (Out x v d) r = out_of x v
result_in (Halt x d) r = halt_of x
result_in (Refused k) r = r
