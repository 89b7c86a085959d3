-- The test of the spans goes by pairs, and the ends of each input are found in turn. Assumes nothing.
use Rattle.std.specs.Prelude.{◌≡◌, ℕ, ◌+◌, ◌<◌, ◌≤◌, ◌&&◌, List, [], ◌∷◌, length, get_or}
use Rattle.std.proofs.Common.{refl, ap, arith, sym, ◌∙◌, add-one, take, set}
use Rattle.std.specs.List.{zip, list_all}
use lib.Seq.{take-suc, take-suc-set, take_all}
use Rattle.semantics.specs.declared.Input.{Input}
use Rattle.semantics.specs.Spans.{end_of, ends_of, span_taken, spans_taken}
use Rattle.semantics.proofs.Spans.{ends_length, ends_at}

-- ---- the test
pub taken_pairs : (xs : List Input) (ls hs : List ℕ) → list_all (λ p. span_taken p.0 p.1.0 p.1.1) (zip xs (zip ls hs)) ≡ spans_taken xs ls hs
unfolding spans_taken
taken_pairs [] ls hs = refl
taken_pairs (x ∷ xs) [] hs = refl
taken_pairs (x ∷ xs) (l ∷ ls) [] = refl
taken_pairs (x ∷ xs) (l ∷ ls) (h ∷ hs) = ap (λ b. span_taken x l h && b) (taken_pairs xs ls hs)

-- ---- the ends: the first i are in place
module _ (truth : ℕ) (xs : List Input) (ns : List ℕ) (i : ℕ) (m : List ℕ) (inv : take i m ≡ take i (ends_of truth xs ns)) (long : length xs ≡ length ns) (same : length m ≡ length ns) where
  pub ends_next : i < length ns → (d : Input) (n : ℕ) → n ≡ end_of truth (get_or xs i d) (get_or ns i 0) → take (i + 1) (set m i n) ≡ take (i + 1) (ends_of truth xs ns)
  ends_next h d n e =
      let k : length (ends_of truth xs ns) ≡ length ns = ends_length truth xs ns long in
      rw (add-one, take-suc-set m i n (omega arith), take-suc (ends_of truth xs ns) i 0 (omega arith), inv, ends_at truth xs ns i d (omega arith) h, e)

  pub ends_all : length ns ≤ i → m ≡ ends_of truth xs ns
  ends_all h =
      let k : length (ends_of truth xs ns) ≡ length ns = ends_length truth xs ns long in
      sym (take_all i m (omega arith)) ∙ (inv ∙ take_all i (ends_of truth xs ns) (omega arith))
