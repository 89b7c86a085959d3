-- A state halts where the code says of S or of T that it is false. Assumes nothing.
use mathlib.Core.Path.{◌≡◌, refl, sym, ◌∙◌}
use mathlib.Core.Bool.{Bool, true, false, beq}
use mathlib.Core.List.{List}
use lib.Dec.{eqb}
use Rattle.std.specs.declared.option.Option.{Option}
use Rattle.std.specs.declared.option.Option.TheVariants.{None, Some}
use Rattle.std.specs.Option.{option_eq}
use Rattle.notation.specs.Notation.{pick, with, if◌equals◌then◌else◌}
use Rattle.semantics.specs.declared.State.{State}
use Rattle.semantics.specs.declared.Term.{Term}
use Rattle.semantics.specs.Terms.{at, known_of}
use Rattle.semantics.specs.States.{halts_of}
use Rattle.terms.specs.Known.{known_number}

abbrev pub said : Option Bool → Bool
said o = option_eq beq o (Some false)

said_number : (o : Option Bool) → eqb (known_number o) 0 ≡ said o
said_number None = refl
said_number (Some true) = refl
said_number (Some false) = refl

pick_itself : (b : Bool) → b ≡ pick b true false
pick_itself true = refl
pick_itself false = refl

module _ (x : State) (ts : List Term) (o : Option Bool) (e : known_number o ≡ known_of (at ts x.assumed)) where
  pub assumed_false : said o ≡ true → true ≡ halts_of x ts
  unfolding halts_of with if◌equals◌then◌else◌
  assumed_false h = rw (← e, said_number o, h) refl

  pub asserted_said : said o ≡ false → (p : Option Bool) → known_number p ≡ known_of (at ts x.asserted) → said p ≡ halts_of x ts
  unfolding halts_of with if◌equals◌then◌else◌
  asserted_said h p f = rw (← e, said_number o, h, ← f, said_number p) (pick_itself (said p))
