-- A goal, and the outcome that it asks of a reading (document 02, Six: "The goal is one of: some reading errs, some aborts, or some gives a named
-- word."). Assumes nothing.
use Rattle.std.specs.Prelude.{◌<◌}
use Rattle.words.specs.Words.{word_limit}
use Rattle.semantics.specs.declared.Goal.{Goal}
use Rattle.semantics.specs.declared.Goal.TheVariants.{Errs, Aborts, Gives}
use Rattle.semantics.specs.declared.Outcome.{Outcome}
use Rattle.semantics.specs.declared.Outcome.TheVariants.{Word, Abort, Error}

abbrev pub goal_outcome : Goal → Outcome
goal_outcome Errs = Error
goal_outcome Aborts = Abort
goal_outcome (Gives w) = Word w

-- the named word is one
abbrev pub NamesWord : Goal → Type 0
NamesWord Errs = Unit {0}
NamesWord Aborts = Unit {0}
NamesWord (Gives w) = w < word_limit
