-- What is known of a term, as the code says it. Assumes nothing.
use Rattle.std.specs.Prelude.{ℕ, Bool, true, false}
use Rattle.std.specs.declared.option.Option.{Option}
use Rattle.std.specs.declared.option.Option.TheVariants.{None, Some}
use Rattle.semantics.specs.Numbers.{known_false, known_true, unknown}

-- a constant truth, or anything else, by its number
abbrev pub known_number : Option Bool → ℕ
known_number (Some false) = known_false
known_number (Some true) = known_true
known_number None = unknown
