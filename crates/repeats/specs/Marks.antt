-- Marks: numbers that equal terms share. A term is searched for among those below it only where they have its marks. Assumes nothing.
use Rattle.std.specs.Prelude.{ℕ, ◌+◌, ◌*◌, ◌-◌, ◌%◌, ◌<◌, min, Bool, List, length}
use Rattle.semantics.specs.declared.Term.{Term}

-- how many there are by a factor: a prime above every field
abbrev pub mark_count : ℕ
mark_count = 65537

-- the factors of a term's two marks
abbrev pub first_factor : ℕ
first_factor = 17271

abbrev pub second_factor : ℕ
second_factor = 57142

-- the product modulo the count of marks
abbrev pub times_of : ℕ → ℕ → ℕ
times_of x y = (x * y) % mark_count

-- the mark of a term by factor k
unfoldable pub mark_of : ℕ → Term → ℕ
mark_of k t = times_of (t.a + times_of k (t.b + times_of k t.c)) (t.op + 1 + times_of k t.kind)

-- a list has a place for every mark of which the bits of `bits` are kept
pub record Holds (bits : ℕ) (m : List Bool) : Type 0 where
  pub room : min bits (mark_count - 1) < length m
