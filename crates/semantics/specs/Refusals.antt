-- The refusals by their numbers ("Operations and what stops them"). Assumes nothing.
use Rattle.std.specs.Prelude.{ℕ}
use Rattle.std.specs.declared.result.Result.{Result}
use Rattle.std.specs.declared.result.Result.TheVariants.{Ok, Err}
use Rattle.semantics.specs.declared.refusal.Refusal.{Refusal}
use Rattle.semantics.specs.declared.refusal.Refusal.TheVariants.{TableSize, BadInput, Misfit, RuleSize, BadRecord, BadTree, BadPlace, BadAllowance, RulesSpent, CallTooWide, TableFull, DepthSpent, BadNumber, BadResult, WorkShort, StoreFull, BadSpan, TextLong, TooManyBits, NoValue, WrongLength}
use Rattle.semantics.specs.Numbers.{table_size, bad_input, misfit, rule_size, bad_record, bad_tree, bad_place, bad_allowance, rules_spent, call_too_wide, table_full, depth_spent, bad_number, bad_result, work_short, store_full, bad_span, text_long, too_many_bits, no_value}

abbrev pub number_of : Refusal → ℕ
number_of TableSize = table_size
number_of BadInput = bad_input
number_of Misfit = misfit
number_of RuleSize = rule_size
number_of BadRecord = bad_record
number_of BadTree = bad_tree
number_of BadPlace = bad_place
number_of BadAllowance = bad_allowance
number_of RulesSpent = rules_spent
number_of CallTooWide = call_too_wide
number_of TableFull = table_full
number_of DepthSpent = depth_spent
number_of BadNumber = bad_number
number_of BadResult = bad_result
number_of WorkShort = work_short
number_of StoreFull = store_full
number_of BadSpan = bad_span
number_of TextLong = text_long
number_of TooManyBits = too_many_bits
number_of NoValue = no_value
number_of WrongLength = 255

-- an answer as a number: 0, or a refusal's
abbrev pub answer_number : {A : Type 0} → Result A Refusal → ℕ
answer_number (Ok x) = 0
answer_number (Err k) = number_of k
