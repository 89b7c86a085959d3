-- A kind is written as a word, and the value after it. Assumes nothing.
use Rattle.std.proofs.Common.{rules}
use Rattle.forms.proofs.Written.{put_input}
use Rattle.forms.proofs.put_input.Goals as goal

pub returns : goal.returns
returns c = search (rules, put_input)
