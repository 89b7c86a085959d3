-- Marks in a work list. A marked place holds a reading as well, which `unpacked_of` gives whether the place is marked or not. Assumes nothing.
use Rattle.std.specs.Prelude.{◌≡◌, Bool, List, ℕ, ◌*◌, ◌<◌, ◌≤◌, leb, length, get_or}
use Rattle.words.specs.Words.{word_limit}
use Rattle.semantics.specs.declared.Result.{Result}
use Rattle.semantics.specs.Terms.{terms_in}
use Rattle.semantics.specs.Under.{under_of}

-- the least number of a marked place: more than a sort and a number come to
abbrev pub mark_place : ℕ
mark_place = 256 * word_limit

-- term k is marked
abbrev pub mark_in : List ℕ → ℕ → Bool
mark_in work k = leb mark_place (get_or work k 0)

-- the list n has other marks than m, as f says; it is as long
pub record Sets (f : (ℕ → Bool) → ℕ → Bool) (m n : List ℕ) : Type 0 where
  pub long : length n ≡ length m
  pub marks : (k : ℕ) → mark_in n k ≡ f (mark_in m) k

-- the list n, which was m, has the marks of the terms under the result, of the first count terms of the table s, if it is long enough; else it stayed
pub record MarksUnder (s : List ℕ) (count : ℕ) (r : Result) (m n : List ℕ) : Type 0 where
  pub long : length n ≡ length m
  pub short : length m < count → n ≡ m
  pub marks : count ≤ length m → (k : ℕ) → mark_in n k ≡ under_of (terms_in s count) r k
