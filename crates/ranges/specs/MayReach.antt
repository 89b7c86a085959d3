-- Whether a goal may be reached, by the ranges of S, T and the value: "both formulas true, the value; only S false, abort; otherwise error. For a halt:
-- abort if only S is false, else error" (document 01, "Reading"). Assumes nothing.
use Rattle.std.specs.Prelude.{ℕ, Bool, true, false}
use Rattle.notation.specs.Notation.{with, when◌then◌else◌, if◌equals◌then◌else◌, if◌below◌then◌else◌}
use Rattle.semantics.specs.declared.Report.{Report}
use Rattle.semantics.specs.declared.Goal.{Goal}
use Rattle.semantics.specs.declared.Goal.TheVariants.{Errs, Aborts, Gives}
use Rattle.semantics.specs.Numbers.{word_term}
use Rattle.semantics.specs.Spans.{only_true, only_false}

-- an error: not where T can only be true, unless a halt is read with S true
unfoldable pub may_err : Report → Report → Bool → Bool
may_err s t halted = with (only_true t) λ b. when b then (when halted then (with (only_false s) λ d. when d then false else true) else false) else true

-- an abort: T true and S false
unfoldable pub may_abort : Report → Report → Bool
may_abort s t = with (only_false t) λ b. when b then false else with (only_true s) λ d. when d then false else true

-- the value may be the word w
unfoldable pub may_be : Report → ℕ → Bool
may_be v w =
    if v.sort equals 0 then true else
    if v.sort equals word_term then (if w below v.low then false else if v.high below w then false else true) else
    false

-- the word w: both true, and no halt
unfoldable pub may_give : Report → Report → Bool → Report → ℕ → Bool
may_give s t halted v w =
    when halted then false else
    with (only_false t) λ b. when b then false else
    with (only_false s) λ d. when d then false else
    may_be v w

abbrev pub may_reach : Goal → Bool → Report → Report → Report → Bool
may_reach Errs halted s t v = may_err s t halted
may_reach Aborts halted s t v = may_abort s t
may_reach (Gives w) halted s t v = may_give s t halted v w
