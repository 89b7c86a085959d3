-- The bytes of a table that holds some terms: as long as it is meant to be, those terms when they are cut from it again, and zero past them.
-- Assumes nothing.
use mathlib.Core.Path.{◌≡◌, refl, sym, ◌∙◌}
use mathlib.Core.Bool.{true}
use mathlib.Core.List.{List, [], ◌∷◌}
use Prim.Native.Nat.{ℕ, suc, ◌+◌, ◌-◌, ◌*◌, ◌<◌, ◌≤◌}
use native.Mathlib.Omega.{arith}
use lib.ListN.{length, get_or, drop, length-drop, length-replicate, get_or-replicate}
use lib.Seq.{get_or-drop}
use borrow.Author.Tests.{eq-eqb}
use Rattle.notation.specs.Notation.{every}
use Rattle.notation.proofs.Every.{every_all}
use Rattle.semantics.specs.declared.Term.{Term}
use Rattle.semantics.specs.Terms.{term_at, terms_in, put, image_of}
use Rattle.semantics.specs.Fits.{is_zero}
use Rattle.terms.proofs.Tables.{terms_same}
use Rattle.terms.proofs.Put.{put_length, put_past, term_below, term_there}
use Rattle.typing.proofs.Grown.{Grown, still, more, grown_length}

module _ (l : ℕ) where
  pub stored_length : (ts : List Term) → length ts * 8 ≤ l → length (image_of l ts) ≡ l
  unfolding image_of
  stored_length [] h = length-replicate l 0
  stored_length (t ∷ ts) h =
      let e = stored_length ts (omega arith) in put_length (image_of l ts) (length ts) t (omega arith) ∙ e

  -- one term more: it stands there, and those below it stay
  module _ (t : Term) (ts : List Term) (h : suc (length ts) * 8 ≤ l) where
    room : length ts * 8 + 8 ≤ length (image_of l ts)
    room = let e = stored_length ts (omega arith) in omega arith

    put_older : (n : ℕ) → n ≤ length ts → terms_in (image_of l (t ∷ ts)) n ≡ terms_in (image_of l ts) n
    unfolding image_of
    put_older n k = terms_same (image_of l ts) (put (image_of l ts) (length ts) t) n (λ i j. term_below (image_of l ts) (length ts) t room i (omega arith))

    put_newest : terms_in (image_of l ts) (length ts) ≡ ts → terms_in (image_of l (t ∷ ts)) (suc (length ts)) ≡ t ∷ ts
    unfolding image_of terms_in
    put_newest e =
        let a : term_at (put (image_of l ts) (length ts) t) (length ts) ≡ t = term_there (image_of l ts) (length ts) t room in
        let b : terms_in (put (image_of l ts) (length ts) t) (length ts) ≡ ts = put_older (length ts) (omega arith) ∙ e in rw (a, b)

  pub stored_terms : (ts : List Term) → length ts * 8 ≤ l → terms_in (image_of l ts) (length ts) ≡ ts
  unfolding terms_in
  stored_terms [] h = refl
  stored_terms (t ∷ ts) h = put_newest t ts h (stored_terms ts (omega arith))

  -- the terms that there were before some were added
  pub stored_older : {os ts : List Term} → Grown os ts → length ts * 8 ≤ l → terms_in (image_of l ts) (length os) ≡ os
  stored_older {os} still h = stored_terms os h
  stored_older (more {us = us} {t = t} g) h = let n = grown_length g in put_older t us h _ n ∙ stored_older g (omega arith)

  stored_past : (ts : List Term) → length ts * 8 ≤ l → (k : ℕ) → length ts * 8 ≤ k → k < l → get_or (image_of l ts) k 0 ≡ 0
  unfolding image_of
  stored_past [] h k i j = get_or-replicate l k 0 0 j
  stored_past (t ∷ ts) h k i j = put_past (image_of l ts) (length ts) t (room t ts h) k (omega arith) ∙ stored_past ts (omega arith) k (omega arith) j

pub stored_tail : (l : ℕ) (ts : List Term) → length ts * 8 ≤ l → every is_zero (drop (8 * length ts) (image_of l ts)) ≡ true
unfolding is_zero
stored_tail l ts h =
    sym (every_all is_zero 0 _ (λ k i. eq-eqb _ _ (get_or-drop (8 * length ts) (image_of l ts) k 0 ∙ stored_past l ts h (8 * length ts + k) (omega arith) (low k i))))
  where
    low : (k : ℕ) → k < length (drop (8 * length ts) (image_of l ts)) → 8 * length ts + k < l
    low k i = let e = stored_length l ts h in let j : k < length (image_of l ts) - 8 * length ts = rw (length-drop (8 * length ts) (image_of l ts)) at i in omega arith
