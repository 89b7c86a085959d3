-- `text::spell` meets its contract. Assumes nothing.
use native.Mathlib.Omega.{arith}
use borrow.Author.Rules.{rules}
use Rattle.text.proofs.Decimals.{spelled}
use Rattle.text.proofs.spell.Statement.{statement}
use Rattle.text.proofs.spell.Tie as tie

returns : tie.Need-returns
returns c = let d = c.decimal.ensures in spelled (omega arith) d.0 d.1.0 d.1.1.0

pub spell_spec : {M : Type 1} → statement M
spell_spec = tie.close (tie.spec (λ c κs. search rules) returns)
