-- The turns of the pass: one for each record that it comes to, and so at most one for each record. Assumes nothing.
use mathlib.Core.Path.{◌≡◌, refl, sym, ◌∙◌}
use mathlib.Core.Bool.{Bool, true, false}
use mathlib.Core.List.{List}
use Prim.Native.Nat.{ℕ, zero, suc, ◌+◌, ◌-◌, ◌<◌, ◌≤◌}
use native.Mathlib.Omega.{arith}
use lib.ListN.{length}
use Rattle.notation.specs.Notation.{pick, when◌then◌else◌, unless◌then◌else◌, up_to}
use Rattle.notation.proofs.Every.{pick_both, up_stop}
use Rattle.semantics.specs.Records.{record_at, records_in}
use Rattle.semantics.specs.Rules.{bad_rule_size, shaped_of}
use Rattle.rules.specs.Turns.{stands_of, turns_of, test_turns_of, rule_turns_of}

module _ (s : List ℕ) (n : ℕ) where
  -- one for each record that stands,
  all_stand : (i : ℕ) → up_to i (stands_of s n) ≡ true → turns_of s n i ≡ i
  unfolding turns_of up_to when◌then◌else◌
  all_stand zero h = refl
  all_stand (suc i) h =
      let b = (pick_both (up_to i (stands_of s n)) (stands_of s n i) h).0 in
      let r = all_stand i b in
      rw b (omega arith)

  -- one more for the first that does not, and none after it
  first_falls : (i d : ℕ) → up_to i (stands_of s n) ≡ true → stands_of s n i ≡ false → turns_of s n (suc d + i) ≡ suc i
  unfolding turns_of when◌then◌else◌
  first_falls i zero h f =
      let e : suc zero + i ≡ suc i = omega arith in
      let r = all_stand i h in
      rw (e, turns_of, h) (omega arith)
  first_falls i (suc d) h f =
      let e : suc (suc d) + i ≡ suc (suc d + i) = omega arith in
      let r = first_falls i d h f in
      rw (e, turns_of, ← up_stop (stands_of s n) i (suc d + i) (omega arith) f) (omega arith)

  pub turns_stop : (i : ℕ) {t : ℕ} → up_to i (stands_of s n) ≡ true → i < n → stands_of s n i ≡ false → t ≡ i + 1 → t ≡ turns_of s n n
  turns_stop i h l f e =
      let q : suc (n - suc i) + i ≡ n = omega arith in
      let r : turns_of s n n ≡ suc i = rw q at (first_falls i (n - suc i) h f) in
      omega arith

  pub turns_end : (i : ℕ) {t : ℕ} → up_to i (stands_of s n) ≡ true → i ≤ n → n ≤ i → t ≡ i → t ≡ turns_of s n n
  turns_end i h l k e = let q : n ≡ i = omega arith in rw q (e ∙ sym (rw q at (all_stand i h)))

  few : (k : ℕ) → turns_of s n k ≤ k
  unfolding turns_of when◌then◌else◌
  few zero = omega arith
  few (suc k) = go (up_to k (stands_of s n)) (few k)
    where
      go : (b : Bool) → turns_of s n k ≤ k → pick b 1 0 + turns_of s n k ≤ suc k
      go true r = omega arith
      go false r = omega arith

-- "at most one turn for each record"
pub turns_few : (s : List ℕ) → rule_turns_of s ≤ records_in s
unfolding rule_turns_of test_turns_of when◌then◌else◌ unless◌then◌else◌
turns_few s = go (bad_rule_size (length s)) (up_to (records_in s) (λ i. shaped_of (record_at s i)))
  where
    go : (a b : Bool) → pick a 0 (pick b (turns_of s (records_in s) (records_in s)) 0) ≤ records_in s
    go true b = omega arith
    go false true = few s (records_in s) (records_in s)
    go false false = omega arith
