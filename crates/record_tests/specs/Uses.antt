-- How many fields a record uses, as the code answers it. Assumes nothing.
use Rattle.std.specs.Prelude.{ℕ}
use Rattle.std.specs.declared.option.Option.{Option}
use Rattle.std.specs.declared.option.Option.TheVariants.{None, Some}

-- as `uses_of` has it: 4 where there is no such kind or op
abbrev pub use_count : Option ℕ → ℕ
use_count None = 4
use_count (Some u) = u
