-- The layout of a term, kind by kind. Assumes nothing.
use Rattle.std.specs.Prelude.{ℕ, Bool, ◌&&◌, ◌||◌, List, eqb, ltb}
use Rattle.notation.specs.Notation.{if◌equals◌then◌else◌}
use Rattle.operators.specs.Operators.{operands_of}
use Rattle.semantics.specs.declared.Term.{Term}
use Rattle.semantics.specs.Numbers.{record_limit, no_binding}
use Rattle.semantics.specs.Terms.{names_truth, names_binding, names_value}

abbrev pub only_a : Term → Bool
only_a t = eqb t.b 0 && eqb t.c 0

abbrev pub choice_laid : List Term → Term → Bool
choice_laid ts t = names_truth ts t.a && (names_value ts t.b && names_value ts t.c)

abbrev pub procedure_laid : ℕ → List Term → Term → Bool
procedure_laid n ts t = ltb t.a record_limit && (names_binding ts t.b && ltb t.c n)

-- a next binding, or none
abbrev pub next_laid : List Term → ℕ → Bool
next_laid ts b = eqb b no_binding || names_binding ts b

abbrev pub binding_laid : List Term → Term → Bool
binding_laid ts t = names_value ts t.a && (next_laid ts t.b && eqb t.c 0)

-- the operands of a code from 1 to 12
abbrev pub words_laid : List Term → ℕ → ℕ → ℕ → Bool
words_laid ts op a b = names_value ts a && (if operands_of op equals 1 then eqb b 0 else names_value ts b)
