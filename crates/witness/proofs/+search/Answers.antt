-- The search: `witness::search` meets its contract. Assumes nothing.
use borrow.Author.Rules.{rules}
use native.Mathlib.Omega.{arith}
use Rattle.witness.proofs.Halves.{open_at, below_less, above_less, below_for, above_for, half_hit, half_miss, one_found, passed_over}
use Rattle.witness.proofs.+search.Goals as goal

pub returns-in_default-clause-first : goal.returns-in_default-clause-first
returns-in_default-clause-first t c = one_found _ _ _ _ _ _ (omega arith) (omega arith) c.in_default.ensures c.single.ensures.hit

pub returns-then-passed_over-clause-first : goal.returns-then-passed_over-clause-first
returns-then-passed_over-clause-first t c = passed_over _ _ _ _ _ _ (c.passed_over.ensures.ruled_out c.if-passed_over.true)

pub search-hit-requires : goal.search-hit-requires
search-hit-requires t c =
    let pre = c.requires.searched in
    let opened = open_at _ _ (omega arith) (omega arith) _ c.in-Some.ensures pre.ordered in
    let half = c.lower_half-lower.ensures in (
      below_less _ _ (omega arith) (omega arith) _ opened c.decreases half.lows half.highs,
      (below_for _ _ (omega arith) (omega arith) _ opened _ _ _ _ c.passed_over.ensures.marks_stay pre.ordered pre.ready half.lows half.highs, search rules),
    )

pub search-requires : goal.search-requires
search-requires t c =
    let pre = c.requires.searched in
    let opened = open_at _ _ (omega arith) (omega arith) _ c.in-Some.ensures pre.ordered in
    let half = c.upper_half-upper.ensures in (
      above_less _ _ (omega arith) (omega arith) _ opened c.decreases half.lows half.highs,
      (above_for _ _ (omega arith) (omega arith) _ opened _ _ _ _ c.search-hit.ensures.marks_stay pre.ordered pre.ready half.lows half.highs, search rules),
    )

pub returns-in-Some-hit-clause-first : goal.returns-in-Some-hit-clause-first
returns-in-Some-hit-clause-first t c =
    let pre = c.requires.searched in
    let opened = open_at _ _ (omega arith) (omega arith) _ c.in-Some.ensures pre.ordered in
    let half = c.lower_half-lower.ensures in
    half_hit _ _ (omega arith) (omega arith) _ opened _ _ _ _ c.in-Some.ensures half.lows half.highs c.search-hit.ensures.first c.in-Some-hit.is

pub returns-clause-first : goal.returns-clause-first
returns-clause-first t c =
    let pre = c.requires.searched in
    let opened = open_at _ _ (omega arith) (omega arith) _ c.in-Some.ensures pre.ordered in
    let lower = c.lower_half-lower.ensures in
    let upper = c.upper_half-upper.ensures in
    half_miss _ _ (omega arith) (omega arith) _ opened _ _ _ _ c.in-Some.ensures lower.lows lower.highs c.search-hit.ensures.first c.in_default-hit.is upper.lows upper.highs c.search.ensures.first
