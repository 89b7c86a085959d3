-- Each way out of the loop and each turn of it. Assumes nothing.
use Rattle.std.proofs.Common.{rules}
use Rattle.repeats.proofs.Marks.{mark_inside, marked_start, marked_next, formed_start, formed_miss, formed_twice, formed_next}
use Rattle.repeats.proofs.formed_by.Goals as goal

pub loop-i-init : goal.loop-i-init
loop-i-init c =
    record {
      formed = formed_start _ _;
      first = marked_start _ _ _ c.requires.first_held;
      second = marked_start _ _ _ c.requires.second_held;
    }

pub returns-then-not-laid_out : goal.returns-then-not-laid_out
returns-then-not-laid_out c = search formed_miss

pub returns-then-repeated : goal.returns-then-repeated
returns-then-repeated c = search formed_twice

pub loop-i-preserved : goal.loop-i-preserved
loop-i-preserved c =
    let t = c.term_at-t.ensures in
    let now = c.loop-i.invariant in
    record {
      formed = formed_next _ _ _ now.formed t c.laid_out.ensures (search rules) _ _ _ now.first now.second (search rules) (search rules) c.repeated.ensures c.if-repeated.false;
      first = marked_next _ _ _ _ now.first t (search rules);
      second = marked_next _ _ _ _ now.second t (search rules);
    }

pub bounds-first-l : goal.bounds-first-l
bounds-first-l c = search mark_inside

pub bounds-second-m : goal.bounds-second-m
bounds-second-m c = search mark_inside

pub bounds-first-l-in-loop-i : goal.bounds-first-l-in-loop-i
bounds-first-l-in-loop-i c = search mark_inside

pub bounds-second-m-in-loop-i : goal.bounds-second-m-in-loop-i
bounds-second-m-in-loop-i c = search mark_inside
