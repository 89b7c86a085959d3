-- What the code promises of its work list: the marks stay from reading to reading, and what the marked terms read as is held. Assumes nothing.
use Rattle.std.specs.Prelude.{◌≡◌, true, List, ℕ, ◌<◌, ◌≤◌, length}
use Rattle.semantics.specs.declared.Result.{Result}
use Rattle.semantics.specs.Terms.{terms_in}
use Rattle.semantics.specs.Fold.{fold_at}
use Rattle.semantics.specs.Reading.{nothing, term_reading}
use Rattle.semantics.specs.Under.{under_of}
use Rattle.reader.specs.Reader.{held_reading}
use Rattle.under.specs.Marks.{mark_in}

-- the work list has a place for each of count terms of the table s, and its marks are those of the terms under the result
pub record Under (s : List ℕ) (count : ℕ) (r : Result) (m : List ℕ) : Type 0 where
  pub enough : count ≤ length m
  pub marks : (k : ℕ) → mark_in m k ≡ under_of (terms_in s count) r k

-- the list m has the marks of w and is as long; it holds what the marked ones of the first i terms read as
pub record ReadsMarked (numbers s : List ℕ) (i : ℕ) (w m : List ℕ) : Type 0 where
  pub long : length m ≡ length w
  pub marks : (k : ℕ) → mark_in m k ≡ mark_in w k
  pub is : (k : ℕ) → k < i → mark_in w k ≡ true → held_reading m k ≡ fold_at (term_reading numbers) nothing (terms_in s i) k
