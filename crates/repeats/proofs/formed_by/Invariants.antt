-- The first i terms are well formed, and each of them has its marks set. Assumes nothing.
use Rattle.std.proofs.Common.{◌≡◌, true}
use Rattle.semantics.specs.Terms.{terms_in, well_formed}
use Rattle.repeats.specs.Marks.{first_factor, second_factor}
use Rattle.repeats.proofs.Marks.{Marked}
use Rattle.repeats.proofs.formed_by.Given as goal

abbrev pub invariant-loop-i : goal.invariant-loop-i
invariant-loop-i l = record {
  formed : well_formed l.accepted (terms_in l.table l.i) ≡ true;
  first : Marked first_factor l.bits (terms_in l.table l.i) l.first;
  second : Marked second_factor l.bits (terms_in l.table l.i) l.second;
}
