-- Opening anew on a table of its own, and where a rule starts. Assumes nothing.
use Rattle.std.specs.Prelude.{◌≡◌, true, List, ℕ, length}
use Rattle.notation.specs.Notation.{every}
use Rattle.semantics.specs.declared.Input.{Input}
use Rattle.semantics.specs.Numbers.{input_count}
use Rattle.semantics.specs.Terms.{terms_in}
use Rattle.semantics.specs.Opening.{input_taken, opening}

-- sixteen inputs that opening takes, and the number of input 0's binding
pub record Enters (xs : List Input) (e : ℕ) : Type 0 where
  pub sixteen : length xs ≡ input_count
  pub is : every input_taken xs ≡ true → e ≡ (opening xs).environment

-- the first n terms of s are those of the opening, and e is where a rule starts
pub record Opens (xs : List Input) (s : List ℕ) (n e : ℕ) : Type 0 where
  pub terms : every input_taken xs ≡ true → terms_in s n ≡ (opening xs).terms
  pub start : Enters xs e
