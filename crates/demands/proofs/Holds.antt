-- What holds of a session and a table from an accepted opening on, and that test 3 takes them then. Assumes nothing.
use mathlib.Core.Path.{◌≡◌, refl, ap, ◌∙◌}
use mathlib.Core.Bool.{true, false}
use mathlib.Core.List.{List, [], ◌∷◌}
use Prim.Native.Nat.{ℕ, suc, ◌-◌, ◌*◌, ◌/◌, ◌≤◌}
use native.Mathlib.Omega.{arith}
use lib.ListN.{length, take, drop}
use borrow.Author.Tests.{eq-eqb, le-leb}
use Rattle.notation.specs.Notation.{when◌then◌else◌, every}
use Rattle.semantics.specs.declared.Term.{Term}
use Rattle.semantics.specs.declared.Input.{Input}
use Rattle.semantics.specs.declared.Session.{Session}
use Rattle.semantics.specs.Numbers.{input_count, most_table, rule_limit}
use Rattle.semantics.specs.Terms.{terms_in, image_of, same_of}
use Rattle.semantics.specs.Steps.{setting_of, room_of, Got, gave}
use Rattle.semantics.specs.Opening.{bad_table_size, input_taken, opening_of, opening}
use Rattle.semantics.specs.Fits.{same_terms, no_free, is_zero, fits_of}
use Rattle.typing.proofs.Grown.{grown_length, truth_named}
use Rattle.typing.proofs.Does.{Fit}
use Rattle.typing.proofs.States.{Stated}
use Rattle.opening.specs.Openings.{open_all}
use Rattle.opening.proofs.Order.{same_opening}
use Rattle.opening.proofs.Room.{Roomy, roomy, Link, all_roomy}
use Rattle.opening.proofs.Opened.{sized}
use Rattle.demands.proofs.Longer.{Adds, none, one, adds_grown, adds_within}
use Rattle.demands.proofs.Stored.{stored_length, stored_terms, stored_older, stored_tail}

-- ---- the opening is not refused, and has at most 34 terms
pub record Begun (xs : List Input) : Type 0 where
  pub gives : opening_of xs (setting_of most_table) [] ≡ gave (opening xs).terms (opening xs).environment 0
  pub few : length (opening xs).terms ≤ 34

pub begun : (xs : List Input) → length xs ≡ input_count → Begun xs
unfolding opening
begun xs n = go _ (open_all xs (setting_of most_table) []) (same_opening xs (setting_of most_table) []) (all_roomy most_table xs n (omega arith))
  where
    go : (x m : Got ℕ) → opening_of xs (setting_of most_table) [] ≡ m → Roomy 34 [] Link x m → Begun xs
    go x m e (roomy {us = us} {a = a} g w b q) = record { gives = rw e; few = rw e b }

-- ---- tests that hold
same_self : (t : Term) → same_of t t ≡ true
unfolding same_of
same_self t = rw (eq-eqb t.a t.a refl, eq-eqb t.kind t.kind refl, eq-eqb t.op t.op refl, eq-eqb t.b t.b refl, eq-eqb t.c t.c refl)

same_all : (ts : List Term) → same_terms ts ts ≡ true
unfolding same_terms
same_all [] = refl
same_all (t ∷ ts) = rw (same_self t, same_all ts)

-- what was added holds no free input
added_free : {r : ℕ} {os ts : List Term} → Adds r os ts → every no_free (take (length ts - length os) ts) ≡ true
unfolding every when◌then◌else◌
added_free {os = os} none = let e : length os - length os ≡ 0 = omega arith in rw e
added_free {os = os} (one {us = us} {t = t} n l a) =
    let k = grown_length (adds_grown a) in
    let e : suc (length us) - length os ≡ suc (length us - length os) = omega arith in rw (e, n) (added_free a)

-- ---- the invariant: the table is the image of the opening's terms and those that evaluations added
pub record Holds (xs : List Input) (l : ℕ) (x : Session) (s : List ℕ) (ts : List Term) : Type 0 where
  pub inputs : x.inputs ≡ xs
  pub count : x.count ≡ length ts
  pub table : s ≡ image_of l ts
  pub adds : Adds (room_of l) (opening xs).terms ts
  pub fit : Fit x.accepted ts
  pub state : Stated ts x.state
  pub few : x.accepted ≤ rule_limit

module _ (xs : List Input) (sixteen : length xs ≡ input_count) (good : every input_taken xs ≡ true) (l : ℕ) (size : bad_table_size l ≡ false)
    {x : Session} {s : List ℕ} {ts : List Term} (h : Holds xs l x s ts) where
  pub holds_room : length ts * 8 ≤ l
  holds_room =
      let z = sized l size in let a = z.least in let b = z.whole in let c = (begun xs sixteen).few in
      let d : length ts ≤ room_of l = adds_within h.adds (omega arith) in omega arith

  pub holds_length : length s ≡ l
  holds_length = ap length h.table ∙ stored_length l ts holds_room

  pub holds_terms : terms_in s x.count ≡ ts
  holds_terms = rw (h.table, h.count) (stored_terms l ts holds_room)

  pub holds_fits : fits_of x s ≡ true
  unfolding fits_of
  holds_fits =
      let g = adds_grown h.adds in
      let o : terms_in s (length (opening xs).terms) ≡ (opening xs).terms = ap (λ y. terms_in y (length (opening xs).terms)) h.table ∙ stored_older l g holds_room in
      let w : every is_zero (drop (8 * length ts) s) ≡ true = ap (λ y. every is_zero (drop (8 * length ts) y)) h.table ∙ stored_tail l ts holds_room in
      let a : length (opening xs).terms ≤ length ts = grown_length g in
      let b : length ts ≤ l / 8 = let r = holds_room in omega arith in
      let e = holds_terms in
      rw (h.inputs, e, h.count, holds_length, size, good, o, same_all (opening xs).terms, le-leb _ _ a, le-leb _ _ b, added_free h.adds, h.fit.formed, w, truth_named h.state.assumed, truth_named h.state.asserted, le-leb _ _ h.few)
