-- The terms past the first n are tested from both ends. Assumes nothing.
use Rattle.std.proofs.Common.{◌≡◌, ℕ, ◌∙◌, ◌+◌, ◌-◌, Bool, ◌&&◌, refl, arith, rules}
use Rattle.std.proofs.Math.Nat.{sub-zero}
use Rattle.std.proofs.lemmas.Iterator.{YieldsList-from_range}
use Rattle.std.proofs.lemmas.Iterator.Search.{all_from_yields_List}
use Rattle.semantics.specs.Terms.{term_at}
use Rattle.semantics.specs.Fits.{no_free}
use Rattle.fitting.proofs.Loops.{both_ends, all_free}
use Rattle.fitting.proofs.none_free.Goals as goal

pub returns : goal.returns
returns c =
    let g : ℕ → Bool = λ i. no_free (term_at c.args.table.now i) in
    let first : c.args.n + 0 ≡ c.args.n = omega arith in
    all_from_yields_List (λ i. g (c.args.n + i) && g (c.args.count - 1 - i)) _ _ _ c.all.ensures.ran
    (YieldsList-from_range 0 _ _ refl (sub-zero _)) (λ x b q k. search rules)
    ∙ (both_ends g c.args.n c.args.count 0 (c.args.count - c.args.n) _ (omega arith) (omega arith) (omega arith)
    ∙ rw first (all_free c.args.table.now c.args.n c.args.count))
