-- The ends of the inputs, one for each; and the list of reports: three numbers put at a position stand there, and what is below them stays. So each
-- report reads back from its term's places. Assumes nothing.
use mathlib.Core.Path.{◌≡◌, refl, ap, ◌∙◌}
use mathlib.Core.Bool.{Bool, true, false}
use mathlib.Core.List.{List, [], ◌∷◌}
use Prim.Native.Nat.{ℕ, zero, suc, ◌+◌, ◌*◌, ◌<◌, ◌≤◌}
use native.Mathlib.Omega.{arith}
use lib.Dec.{eqb}
use lib.ListN.{length, get_or, set, length-set}
use lib.Seq.{sets, length-sets, get_or-set_same, get_or-set_other}
use borrow.Author.Tests.{eqb-true, eqb-false}
use Rattle.notation.specs.Notation.{pick, if◌equals◌then◌else◌}
use Rattle.semantics.specs.declared.Input.{Input}
use Rattle.semantics.specs.declared.Report.{Report}
use Rattle.semantics.specs.Fold.{numbered}
use Rattle.semantics.specs.Spans.{report_at, end_of, ends_of, report_size, places_of, report_in, laid}

-- ---- the ends of the inputs
module _ (truth : ℕ) where
  pub ends_length : (xs : List Input) (ns : List ℕ) → length xs ≡ length ns → length (ends_of truth xs ns) ≡ length ns
  unfolding ends_of
  ends_length [] [] e = refl
  ends_length [] (n ∷ ns) e = absurd (omega arith)
  ends_length (x ∷ xs) [] e = absurd (omega arith)
  ends_length (x ∷ xs) (n ∷ ns) e = ap suc (ends_length xs ns (omega arith))

  pub ends_at : (xs : List Input) (ns : List ℕ) (i : ℕ) (d : Input) → i < length xs → i < length ns → get_or (ends_of truth xs ns) i 0 ≡ end_of truth (get_or xs i d) (get_or ns i 0)
  unfolding ends_of
  ends_at [] ns i d h l = absurd (omega arith)
  ends_at (x ∷ xs) [] i d h l = absurd (omega arith)
  ends_at (x ∷ xs) (n ∷ ns) zero d h l = refl
  ends_at (x ∷ xs) (n ∷ ns) (suc i) d h l = ends_at xs ns i d (omega arith) (omega arith)

-- ---- three numbers from position j on
module _ (m : List ℕ) (j a b c : ℕ) where
  abbrev pub three : List ℕ
  three = sets m j (a ∷ b ∷ c ∷ [])

  pub three_first : j + 2 < length m → get_or three j 0 ≡ a
  three_first h =
      let p : j ≡ suc (suc j) → ⊥ = λ q. omega arith in let q : j ≡ suc j → ⊥ = λ q. omega arith in
      get_or-set_other (set (set m j a) (suc j) b) (suc (suc j)) j c 0 p ∙ (get_or-set_other (set m j a) (suc j) j b 0 q ∙ get_or-set_same m j a 0 (omega arith))

  pub three_second : j + 2 < length m → get_or three (j + 1) 0 ≡ b
  three_second h =
      let e : j + 1 ≡ suc j = omega arith in let p : suc j ≡ suc (suc j) → ⊥ = λ q. omega arith in let l = length-set m j a in
      ap (λ k. get_or three k 0) e ∙ (get_or-set_other (set (set m j a) (suc j) b) (suc (suc j)) (suc j) c 0 p ∙ get_or-set_same (set m j a) (suc j) b 0 (omega arith))

  pub three_third : j + 2 < length m → get_or three (j + 2) 0 ≡ c
  three_third h =
      let e : j + 2 ≡ suc (suc j) = omega arith in let l = length-set m j a in let k = length-set (set m j a) (suc j) b in
      ap (λ k. get_or three k 0) e ∙ get_or-set_same (set (set m j a) (suc j) b) (suc (suc j)) c 0 (omega arith)

  pub three_below : (k : ℕ) → k < j → get_or three k 0 ≡ get_or m k 0
  three_below k h =
      let o : k ≡ suc (suc j) → ⊥ = λ q. omega arith in let p : k ≡ suc j → ⊥ = λ q. omega arith in let q : k ≡ j → ⊥ = λ q. omega arith in
      get_or-set_other (set (set m j a) (suc j) b) (suc (suc j)) k c 0 o ∙ (get_or-set_other (set m j a) (suc j) k b 0 p ∙ get_or-set_other m j k a 0 q)

-- ---- the reports of a list
pub laid_length : (rs : List Report) (list : List ℕ) → length (laid rs list) ≡ length list
unfolding laid
laid_length [] list = refl
laid_length (r ∷ rs) list = length-sets (laid rs list) (report_size * length rs) (places_of r) ∙ laid_length rs list

-- a report that is put at the places of term i is there, and those of lower terms stay
module _ (m : List ℕ) (i : ℕ) (r : Report) where
  abbrev put : List ℕ
  put = sets m (report_size * i) (places_of r)

  put_there : report_size * i + 2 < length m → report_in put i ≡ r
  put_there h =
      rw (three_first m (report_size * i) r.sort r.low r.high h, three_second m (report_size * i) r.sort r.low r.high h, three_third m (report_size * i) r.sort r.low r.high h)

  put_below : (k : ℕ) → k < i → report_in put k ≡ report_in m k
  put_below k h =
      rw (three_below m (report_size * i) r.sort r.low r.high (report_size * k) (omega arith), three_below m (report_size * i) r.sort r.low r.high (report_size * k + 1) (omega arith), three_below m (report_size * i) r.sort r.low r.high (report_size * k + 2) (omega arith))

-- each report reads back from a list that has places for all
pub laid_back : (rs : List Report) (list : List ℕ) → report_size * length rs ≤ length list → (k : ℕ) → k < length rs → report_in (laid rs list) k ≡ report_at rs k
unfolding laid numbered if◌equals◌then◌else◌
laid_back [] list h k l = absurd (omega arith)
laid_back (r ∷ rs) list h k l = go (eqb k (length rs)) refl (laid_back rs list (omega arith) k)
  where
    go : (b : Bool) → eqb k (length rs) ≡ b → (k < length rs → report_in (laid rs list) k ≡ report_at rs k)
        → report_in (sets (laid rs list) (report_size * length rs) (places_of r)) k ≡ pick b r (report_at rs k)
    go true e back = let n = laid_length rs list in rw (eqb-true k (length rs) e) (put_there (laid rs list) (length rs) r (omega arith))
    go false e back =
        let d = eqb-false k (length rs) e in let j : k < length rs = omega arith in put_below (laid rs list) (length rs) r k j ∙ back j
