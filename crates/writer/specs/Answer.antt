-- What the code answers, as the record of the definition. Assumes nothing.
use Rattle.std.specs.Prelude.{ℕ}
use Rattle.std.specs.declared.result.Result.{Result}
use Rattle.std.specs.declared.result.Result.TheVariants.{Ok, Err}
use Rattle.semantics.specs.Numbers.{text_long}
use Rattle.semantics.specs.Refusals.{number_of}
use Rattle.dimacs.specs.Written.{Written}
use Rattle.dimacs.specs.Write.{written_of}
use Rattle.writer.specs.declared.Unwritten.{Unwritten}
use Rattle.writer.specs.declared.Unwritten.TheVariants.{Refused, TooLong}

-- 0 and the length of a text that was written; 18 and the length of one that is too long; another refusal, and no length
abbrev pub written_as : Result ℕ Unwritten → Written
written_as (Ok n) = written_of 0 n
written_as (Err (Refused k)) = written_of (number_of k) 0
written_as (Err (TooLong n)) = written_of text_long n
